use Rattle.std.proofs.Common.{rules, ◌≡◌, ◌<◌, ◌∙◌, ap, sym, subst, Some}
use Rattle.std.specs.Prelude.{IfOk, IfErr}
use Rattle.jf_turn.specs.Seats.{SeatState}
use Rattle.jf_store.specs.declared.event.Event.{Event}
use Rattle.jf_store.specs.Starts.{Start}
use Rattle.jf_store.specs.Refusals.{make_faults}
use Rattle.jf_store.specs.Forkings.{HasMade, HasBeenRefused}
use Rattle.jf_store.specs.Passes.{Pass, Store, pass_of}
use Rattle.jf_store.specs.Vaults.{Vault}
use Rattle.jf_store.proofs.PassLaws.{HasTaken, HasTaken-boxed, MayGive-taken, HasPassed, HasPassed-given, IsPass-passed, IsCounted-passed}
use Rattle.jf_store.proofs.ForkCalls.{AddsNamed-making, HasMade-passed, HasBeenRefused-passed}
use Rattle.jf_store.proofs.pass.Pass.fork.Goals as goal

pub make_fork-forked-requires : goal.make_fork-forked-requires
make_fork-forked-requires g c =
    let start = c.args.store.now.start in
    let s = c.self.inside.seat in
    let starts : s.start ≡ Some start = ap (λ (p : Pass). p.start) c.self.view_is ∙ c.requires.1 in
    let number : c.number-number.result ≡ s.number = c.number-number.ensures ∙ ap (λ (t : SeatState Event Start). t.number) c.take_out-vault.ensures.takes in
    let began : c.deref_mut.result.now.start ≡ start = ap (λ (w : Vault). w.start) c.deref_mut.ensures.value ∙ c.take_out-vault.ensures.start ∙ ap (λ (t : Store). t.start) c.store.view_is in
    (search rules, subst (λ n. n < c.deref_mut.result.now.start.passes) (sym number) (subst (λ (t : Start). s.number < t.passes) (sym began) (c.self.invariant.0.events start starts).1))

pub give_back-self-inside-requires-clause-goes_on : goal.give_back-self-inside-requires-clause-goes_on
give_back-self-inside-requires-clause-goes_on g c κs within =
    let start = c.args.store.now.start in
    let v = c.deref_mut.result.now in
    let v2 = c.make_fork-forked.new.self in
    let s = c.self.inside.seat in
    let number : c.number-number.result ≡ s.number = c.number-number.ensures ∙ ap (λ (t : SeatState Event Start). t.number) c.take_out-vault.ensures.takes in
    let own = AddsNamed-making c.number-number.result c.args.parent c.args.batch.now v v2 c.make_fork-forked.result c.make_fork-forked.ensures.made c.make_fork-forked.ensures.refused in
    let took : HasTaken s c.take_out-vault.new.seat v start = HasTaken-boxed s c.take_out-vault.new.seat v c.take_out-vault.result.value start c.deref_mut.ensures.value (c.take_out-vault.ensures.start ∙ ap (λ (t : Store). t.start) c.store.view_is) c.take_out-vault.ensures.begins c.take_out-vault.ensures.others c.take_out-vault.ensures.takes in
    MayGive-taken s c.take_out-vault.new.seat v v2 start c.number-number.result took number own

pub invariant_of-self : goal.invariant_of-self
invariant_of-self g c =
    let start = c.args.store.now.start in
    let s = c.self.inside.seat in
    let v = c.deref_mut.result.now in
    let v2 = c.make_fork-forked.new.self in
    let starts : s.start ≡ Some start = ap (λ (p : Pass). p.start) c.self.view_is ∙ c.requires.1 in
    let took : HasTaken s c.take_out-vault.new.seat v start = HasTaken-boxed s c.take_out-vault.new.seat v c.take_out-vault.result.value start c.deref_mut.ensures.value (c.take_out-vault.ensures.start ∙ ap (λ (t : Store). t.start) c.store.view_is) c.take_out-vault.ensures.begins c.take_out-vault.ensures.others c.take_out-vault.ensures.takes in
    let known = c.self.invariant.0.events start starts in
    let h : HasPassed s c.give_back-self-inside.new.seat c.self.inside.pins v v2 start = HasPassed-given s c.take_out-vault.new.seat c.give_back-self-inside.new.seat c.self.inside.pins v v2 start took c.self.invariant.0 c.give_back-self-inside.ensures.seat in
    (IsPass-passed s c.give_back-self-inside.new.seat c.self.inside.pins v v2 start h c.give_back-self-inside.ensures.events c.make_fork-forked.ensures.start starts known.1 known.2, IsCounted-passed s c.give_back-self-inside.new.seat c.self.inside.pins v v2 start h c.give_back-self-inside.result c.give_back-self-inside.ensures.counted)

pub returns-clause-made : goal.returns-clause-made
returns-clause-made g c =
    let start = c.args.store.now.start in
    let s = c.self.inside.seat in
    let v = c.deref_mut.result.now in
    let v2 = c.make_fork-forked.new.self in
    let number : c.number-number.result ≡ s.number = c.number-number.ensures ∙ ap (λ (t : SeatState Event Start). t.number) c.take_out-vault.ensures.takes in
    let took : HasTaken s c.take_out-vault.new.seat v start = HasTaken-boxed s c.take_out-vault.new.seat v c.take_out-vault.result.value start c.deref_mut.ensures.value (c.take_out-vault.ensures.start ∙ ap (λ (t : Store). t.start) c.store.view_is) c.take_out-vault.ensures.begins c.take_out-vault.ensures.others c.take_out-vault.ensures.takes in
    let h : HasPassed s c.give_back-self-inside.new.seat c.self.inside.pins v v2 start = HasPassed-given s c.take_out-vault.new.seat c.give_back-self-inside.new.seat c.self.inside.pins v v2 start took c.self.invariant.0 c.give_back-self-inside.ensures.seat in
    subst (λ (q : Pass). IfOk c.make_fork-forked.result (HasMade start c.args.parent c.args.batch.now c.args.self.now q)) (sym c.show.ensures)
    (subst (λ (p : Pass). IfOk c.make_fork-forked.result (HasMade start c.args.parent c.args.batch.now p (pass_of c.give_back-self-inside.new.seat c.self.inside.pins))) c.self.view_is
    (HasMade-passed s c.give_back-self-inside.new.seat c.self.inside.pins v v2 start h c.number-number.result c.args.parent c.args.batch.now c.make_fork-forked.result number c.make_fork-forked.ensures.made))

pub returns-clause-refused : goal.returns-clause-refused
returns-clause-refused g c =
    let start = c.args.store.now.start in
    let s = c.self.inside.seat in
    let v = c.deref_mut.result.now in
    let v2 = c.make_fork-forked.new.self in
    let number : c.number-number.result ≡ s.number = c.number-number.ensures ∙ ap (λ (t : SeatState Event Start). t.number) c.take_out-vault.ensures.takes in
    let took : HasTaken s c.take_out-vault.new.seat v start = HasTaken-boxed s c.take_out-vault.new.seat v c.take_out-vault.result.value start c.deref_mut.ensures.value (c.take_out-vault.ensures.start ∙ ap (λ (t : Store). t.start) c.store.view_is) c.take_out-vault.ensures.begins c.take_out-vault.ensures.others c.take_out-vault.ensures.takes in
    let h : HasPassed s c.give_back-self-inside.new.seat c.self.inside.pins v v2 start = HasPassed-given s c.take_out-vault.new.seat c.give_back-self-inside.new.seat c.self.inside.pins v v2 start took c.self.invariant.0 c.give_back-self-inside.ensures.seat in
    subst (λ (q : Pass). IfErr c.make_fork-forked.result (HasBeenRefused start (make_faults c.args.parent) c.args.self.now q)) (sym c.show.ensures)
    (subst (λ (p : Pass). IfErr c.make_fork-forked.result (HasBeenRefused start (make_faults c.args.parent) p (pass_of c.give_back-self-inside.new.seat c.self.inside.pins))) c.self.view_is
    (HasBeenRefused-passed s c.give_back-self-inside.new.seat c.self.inside.pins v v2 start h c.number-number.result (make_faults c.args.parent) c.make_fork-forked.result c.make_fork-forked.ensures.refused))
