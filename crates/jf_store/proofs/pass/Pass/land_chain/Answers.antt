use Rattle.std.proofs.Common.{rules, ◌≡◌, ◌<◌, ◌∙◌, ap, sym, subst, Some}
use Rattle.std.specs.Prelude.{IfOk, IfErr}
use Rattle.jf_model.specs.declared.entries.Landing.TheVariants as landing
use Rattle.jf_store.specs.declared.tried.Attempt.TheVariants as attempt
use Rattle.jf_turn.specs.Seats.{SeatState}
use Rattle.jf_store.specs.declared.event.Event.{Event}
use Rattle.jf_store.specs.Starts.{Start}
use Rattle.jf_store.specs.Landings.{land_faults, HasLandedChain}
use Rattle.jf_store.specs.Passes.{Pass, Store, pass_of, HasFailed}
use Rattle.jf_store.specs.Vaults.{Vault}
use Rattle.jf_store.proofs.PassLaws.{HasTaken, HasTaken-boxed, MayGive-taken, HasPassed, HasPassed-given, HasFailed-passed, IsPass-passed, IsCounted-passed}
use Rattle.jf_store.proofs.ChainCalls.{AddsNamed-chain, HasLandedChain-passed}
use Rattle.jf_store.proofs.pass.Pass.land_chain.Goals as goal

pub land_fork-chain-requires : goal.land_fork-chain-requires
land_fork-chain-requires g c =
    let start = c.args.store.now.start in
    let s = c.self.inside.seat in
    let starts : s.start ≡ Some start = ap (λ (p : Pass). p.start) c.self.view_is ∙ c.requires.1 in
    let number : c.number-number.result ≡ s.number = c.number-number.ensures ∙ ap (λ (t : SeatState Event Start). t.number) c.take_out-vault.ensures.takes in
    let began : c.deref_mut.result.now.start ≡ start = ap (λ (w : Vault). w.start) c.deref_mut.ensures.value ∙ c.take_out-vault.ensures.start ∙ ap (λ (t : Store). t.start) c.store.view_is in
    let given : c.number-number.result < c.deref_mut.result.now.start.passes = subst (λ n. n < c.deref_mut.result.now.start.passes) (sym number) (subst (λ (t : Start). s.number < t.passes) (sym began) (c.self.invariant.0.events start starts).1) in
    search (rules, given)

pub give_back-self-inside-requires-clause-goes_on : goal.give_back-self-inside-requires-clause-goes_on
give_back-self-inside-requires-clause-goes_on g c κs within =
    let start = c.args.store.now.start in
    let v = c.deref_mut.result.now in
    let v2 = c.land_fork-chain.new.self in
    let s = c.self.inside.seat in
    let number : c.number-number.result ≡ s.number = c.number-number.ensures ∙ ap (λ (t : SeatState Event Start). t.number) c.take_out-vault.ensures.takes in
    let own = AddsNamed-chain c.number-number.result c.args.id v v2 c.land_fork-chain.result c.land_fork-chain.ensures.landed c.land_fork-chain.ensures.failed in
    let took : HasTaken s c.take_out-vault.new.seat v start = HasTaken-boxed s c.take_out-vault.new.seat v c.take_out-vault.result.value start c.deref_mut.ensures.value (c.take_out-vault.ensures.start ∙ ap (λ (t : Store). t.start) c.store.view_is) c.take_out-vault.ensures.begins c.take_out-vault.ensures.others c.take_out-vault.ensures.takes in
    MayGive-taken s c.take_out-vault.new.seat v v2 start c.number-number.result took number own

pub invariant_of-self : goal.invariant_of-self
invariant_of-self g c =
    let start = c.args.store.now.start in
    let s = c.self.inside.seat in
    let v = c.deref_mut.result.now in
    let v2 = c.land_fork-chain.new.self in
    let starts : s.start ≡ Some start = ap (λ (p : Pass). p.start) c.self.view_is ∙ c.requires.1 in
    let took : HasTaken s c.take_out-vault.new.seat v start = HasTaken-boxed s c.take_out-vault.new.seat v c.take_out-vault.result.value start c.deref_mut.ensures.value (c.take_out-vault.ensures.start ∙ ap (λ (t : Store). t.start) c.store.view_is) c.take_out-vault.ensures.begins c.take_out-vault.ensures.others c.take_out-vault.ensures.takes in
    let known = c.self.invariant.0.events start starts in
    let h : HasPassed s c.give_back-self-inside.new.seat c.self.inside.pins v v2 start = HasPassed-given s c.take_out-vault.new.seat c.give_back-self-inside.new.seat c.self.inside.pins v v2 start took c.self.invariant.0 c.give_back-self-inside.ensures.seat in
    (IsPass-passed s c.give_back-self-inside.new.seat c.self.inside.pins v v2 start h c.give_back-self-inside.ensures.events c.land_fork-chain.ensures.start starts known.1 known.2, IsCounted-passed s c.give_back-self-inside.new.seat c.self.inside.pins v v2 start h c.give_back-self-inside.result c.give_back-self-inside.ensures.counted)

pub returns-clause-landed : goal.returns-clause-landed
returns-clause-landed g c =
    let start = c.args.store.now.start in
    let s = c.self.inside.seat in
    let v = c.deref_mut.result.now in
    let v2 = c.land_fork-chain.new.self in
    let number : c.number-number.result ≡ s.number = c.number-number.ensures ∙ ap (λ (t : SeatState Event Start). t.number) c.take_out-vault.ensures.takes in
    let took : HasTaken s c.take_out-vault.new.seat v start = HasTaken-boxed s c.take_out-vault.new.seat v c.take_out-vault.result.value start c.deref_mut.ensures.value (c.take_out-vault.ensures.start ∙ ap (λ (t : Store). t.start) c.store.view_is) c.take_out-vault.ensures.begins c.take_out-vault.ensures.others c.take_out-vault.ensures.takes in
    let h : HasPassed s c.give_back-self-inside.new.seat c.self.inside.pins v v2 start = HasPassed-given s c.take_out-vault.new.seat c.give_back-self-inside.new.seat c.self.inside.pins v v2 start took c.self.invariant.0 c.give_back-self-inside.ensures.seat in
    subst (λ (q : Pass). IfOk c.land_fork-chain.result (HasLandedChain start c.args.id c.args.self.now q)) (sym c.show.ensures)
    (subst (λ (p : Pass). IfOk c.land_fork-chain.result (HasLandedChain start c.args.id p (pass_of c.give_back-self-inside.new.seat c.self.inside.pins))) c.self.view_is
    (HasLandedChain-passed s c.give_back-self-inside.new.seat c.self.inside.pins v v2 start h c.number-number.result c.args.id c.land_fork-chain.result number c.land_fork-chain.ensures.landed))

pub returns-clause-failed : goal.returns-clause-failed
returns-clause-failed g c =
    let start = c.args.store.now.start in
    let s = c.self.inside.seat in
    let v = c.deref_mut.result.now in
    let v2 = c.land_fork-chain.new.self in
    let number : c.number-number.result ≡ s.number = c.number-number.ensures ∙ ap (λ (t : SeatState Event Start). t.number) c.take_out-vault.ensures.takes in
    let took : HasTaken s c.take_out-vault.new.seat v start = HasTaken-boxed s c.take_out-vault.new.seat v c.take_out-vault.result.value start c.deref_mut.ensures.value (c.take_out-vault.ensures.start ∙ ap (λ (t : Store). t.start) c.store.view_is) c.take_out-vault.ensures.begins c.take_out-vault.ensures.others c.take_out-vault.ensures.takes in
    let h : HasPassed s c.give_back-self-inside.new.seat c.self.inside.pins v v2 start = HasPassed-given s c.take_out-vault.new.seat c.give_back-self-inside.new.seat c.self.inside.pins v v2 start took c.self.invariant.0 c.give_back-self-inside.ensures.seat in
    subst (λ (q : Pass). IfErr c.land_fork-chain.result (HasFailed start (attempt.Lands (landing.Fork c.args.id)) (land_faults c.args.id) c.args.self.now q)) (sym c.show.ensures)
    (subst (λ (p : Pass). IfErr c.land_fork-chain.result (HasFailed start (attempt.Lands (landing.Fork c.args.id)) (land_faults c.args.id) p (pass_of c.give_back-self-inside.new.seat c.self.inside.pins))) c.self.view_is
    (HasFailed-passed s c.give_back-self-inside.new.seat c.self.inside.pins v v2 start h c.number-number.result (attempt.Lands (landing.Fork c.args.id)) (land_faults c.args.id) c.land_fork-chain.result number c.land_fork-chain.ensures.failed))
