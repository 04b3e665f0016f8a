use Rattle.std.proofs.Common.{rules, ◌≡◌, ◌<◌, ◌∙◌, ap, sym, subst, Some}
use Rattle.std.specs.Prelude.{IfOk, IfErr}
use Rattle.jf_model.specs.declared.entries.Landing.TheVariants as landing
use Rattle.jf_store.specs.declared.tried.Attempt.TheVariants as attempt
use Rattle.jf_turn.specs.Seats.{SeatState}
use Rattle.jf_store.specs.declared.event.Event.{Event}
use Rattle.jf_store.specs.Starts.{Start}
use Rattle.jf_store.specs.Refusals.{commit_faults}
use Rattle.jf_store.specs.Passes.{Pass, Store, pass_of, HasLanded, HasFailed}
use Rattle.jf_store.specs.Vaults.{Vault}
use Rattle.jf_store.proofs.PassLaws.{HasTaken, HasTaken-boxed, MayGive-taken, HasPassed, HasPassed-given, AddsNamed-landing, HasLanded-passed, HasFailed-passed, IsPass-passed, IsCounted-passed}
use Rattle.jf_store.proofs.pass.Pass.commit.Goals as goal

pub commit-landed-requires : goal.commit-landed-requires
commit-landed-requires g c =
    let start = c.args.store.now.start in
    let s = c.self.inside.seat in
    let starts : s.start ≡ Some start = ap (λ (p : Pass). p.start) c.self.view_is ∙ c.requires.1 in
    let number : c.number-number.result ≡ s.number = c.number-number.ensures ∙ ap (λ (t : SeatState Event Start). t.number) c.take_out-vault.ensures.takes in
    let began : c.deref_mut.result.now.start ≡ start = ap (λ (w : Vault). w.start) c.deref_mut.ensures.value ∙ c.take_out-vault.ensures.start ∙ ap (λ (t : Store). t.start) c.store.view_is in
    let given : c.number-number.result < c.deref_mut.result.now.start.passes = subst (λ n. n < c.deref_mut.result.now.start.passes) (sym number) (subst (λ (t : Start). s.number < t.passes) (sym began) (c.self.invariant.0.events start starts).1) in
    search (rules, given)

pub give_back-self-inside-requires-clause-goes_on : goal.give_back-self-inside-requires-clause-goes_on
give_back-self-inside-requires-clause-goes_on g c κs within =
    let start = c.args.store.now.start in
    let v = c.deref_mut.result.now in
    let v2 = c.commit-landed.new.self in
    let s = c.self.inside.seat in
    let number : c.number-number.result ≡ s.number = c.number-number.ensures ∙ ap (λ (t : SeatState Event Start). t.number) c.take_out-vault.ensures.takes in
    let own = AddsNamed-landing c.number-number.result (landing.Direct c.args.batch.now) (attempt.Lands (landing.Direct c.args.batch.now)) commit_faults v v2 c.commit-landed.result c.commit-landed.ensures.landed c.commit-landed.ensures.failed in
    let took : HasTaken s c.take_out-vault.new.seat v start = HasTaken-boxed s c.take_out-vault.new.seat v c.take_out-vault.result.value start c.deref_mut.ensures.value (c.take_out-vault.ensures.start ∙ ap (λ (t : Store). t.start) c.store.view_is) c.take_out-vault.ensures.begins c.take_out-vault.ensures.others c.take_out-vault.ensures.takes in
    MayGive-taken s c.take_out-vault.new.seat v v2 start c.number-number.result took number own

pub invariant_of-self : goal.invariant_of-self
invariant_of-self g c =
    let start = c.args.store.now.start in
    let s = c.self.inside.seat in
    let v = c.deref_mut.result.now in
    let v2 = c.commit-landed.new.self in
    let starts : s.start ≡ Some start = ap (λ (p : Pass). p.start) c.self.view_is ∙ c.requires.1 in
    let took : HasTaken s c.take_out-vault.new.seat v start = HasTaken-boxed s c.take_out-vault.new.seat v c.take_out-vault.result.value start c.deref_mut.ensures.value (c.take_out-vault.ensures.start ∙ ap (λ (t : Store). t.start) c.store.view_is) c.take_out-vault.ensures.begins c.take_out-vault.ensures.others c.take_out-vault.ensures.takes in
    let known = c.self.invariant.0.events start starts in
    let h : HasPassed s c.give_back-self-inside.new.seat c.self.inside.pins v v2 start = HasPassed-given s c.take_out-vault.new.seat c.give_back-self-inside.new.seat c.self.inside.pins v v2 start took c.self.invariant.0 c.give_back-self-inside.ensures.seat in
    (IsPass-passed s c.give_back-self-inside.new.seat c.self.inside.pins v v2 start h c.give_back-self-inside.ensures.events c.commit-landed.ensures.start starts known.1 known.2, IsCounted-passed s c.give_back-self-inside.new.seat c.self.inside.pins v v2 start h c.give_back-self-inside.result c.give_back-self-inside.ensures.counted)

pub returns-clause-landed : goal.returns-clause-landed
returns-clause-landed g c =
    let start = c.args.store.now.start in
    let s = c.self.inside.seat in
    let v = c.deref_mut.result.now in
    let v2 = c.commit-landed.new.self in
    let number : c.number-number.result ≡ s.number = c.number-number.ensures ∙ ap (λ (t : SeatState Event Start). t.number) c.take_out-vault.ensures.takes in
    let took : HasTaken s c.take_out-vault.new.seat v start = HasTaken-boxed s c.take_out-vault.new.seat v c.take_out-vault.result.value start c.deref_mut.ensures.value (c.take_out-vault.ensures.start ∙ ap (λ (t : Store). t.start) c.store.view_is) c.take_out-vault.ensures.begins c.take_out-vault.ensures.others c.take_out-vault.ensures.takes in
    let h : HasPassed s c.give_back-self-inside.new.seat c.self.inside.pins v v2 start = HasPassed-given s c.take_out-vault.new.seat c.give_back-self-inside.new.seat c.self.inside.pins v v2 start took c.self.invariant.0 c.give_back-self-inside.ensures.seat in
    subst (λ (q : Pass). IfOk c.commit-landed.result (HasLanded start (landing.Direct c.args.batch.now) c.args.self.now q)) (sym c.show.ensures)
    (subst (λ (p : Pass). IfOk c.commit-landed.result (HasLanded start (landing.Direct c.args.batch.now) p (pass_of c.give_back-self-inside.new.seat c.self.inside.pins))) c.self.view_is
    (HasLanded-passed s c.give_back-self-inside.new.seat c.self.inside.pins v v2 start h c.number-number.result (landing.Direct c.args.batch.now) c.commit-landed.result number c.commit-landed.ensures.landed))

pub returns-clause-failed : goal.returns-clause-failed
returns-clause-failed g c =
    let start = c.args.store.now.start in
    let s = c.self.inside.seat in
    let v = c.deref_mut.result.now in
    let v2 = c.commit-landed.new.self in
    let number : c.number-number.result ≡ s.number = c.number-number.ensures ∙ ap (λ (t : SeatState Event Start). t.number) c.take_out-vault.ensures.takes in
    let took : HasTaken s c.take_out-vault.new.seat v start = HasTaken-boxed s c.take_out-vault.new.seat v c.take_out-vault.result.value start c.deref_mut.ensures.value (c.take_out-vault.ensures.start ∙ ap (λ (t : Store). t.start) c.store.view_is) c.take_out-vault.ensures.begins c.take_out-vault.ensures.others c.take_out-vault.ensures.takes in
    let h : HasPassed s c.give_back-self-inside.new.seat c.self.inside.pins v v2 start = HasPassed-given s c.take_out-vault.new.seat c.give_back-self-inside.new.seat c.self.inside.pins v v2 start took c.self.invariant.0 c.give_back-self-inside.ensures.seat in
    subst (λ (q : Pass). IfErr c.commit-landed.result (HasFailed start (attempt.Lands (landing.Direct c.args.batch.now)) commit_faults c.args.self.now q)) (sym c.show.ensures)
    (subst (λ (p : Pass). IfErr c.commit-landed.result (HasFailed start (attempt.Lands (landing.Direct c.args.batch.now)) commit_faults p (pass_of c.give_back-self-inside.new.seat c.self.inside.pins))) c.self.view_is
    (HasFailed-passed s c.give_back-self-inside.new.seat c.self.inside.pins v v2 start h c.number-number.result (attempt.Lands (landing.Direct c.args.batch.now)) commit_faults c.commit-landed.result number c.commit-landed.ensures.failed))
