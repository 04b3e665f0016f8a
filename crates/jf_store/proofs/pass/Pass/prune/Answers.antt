use Rattle.std.proofs.Common.{◌≡◌, ◌<◌, ◌∙◌, ap, sym, subst, Some}
use Rattle.std.specs.Prelude.{IfOk, IfErr}
use Rattle.jf_turn.specs.Seats.{SeatState}
use Rattle.jf_store.specs.declared.event.Event.{Event}
use Rattle.jf_store.specs.Starts.{Start}
use Rattle.jf_store.specs.Passes.{Pass, PinsState, Store, pass_of, IsPass}
use Rattle.jf_store.specs.Prunings.{HasPruned, HasFailedPruning}
use Rattle.jf_store.specs.Vaults.{Vault}
use Rattle.jf_store.proofs.PassLaws.{HasTaken, HasTaken-boxed, MayGive-taken, HasPassed, HasPassed-given, IsPass-passed, IsCounted-passed}
use Rattle.jf_store.proofs.PinLaws.{pins-board}
use Rattle.jf_store.proofs.PruneCallLaws.{AddsNamed-pruning, HasPruned-passed, HasFailedPruning-passed}
use Rattle.jf_store.proofs.pass.Pass.prune.Goals as goal

pub prune-pruned-requires-clause-pass : goal.prune-pruned-requires-clause-pass
prune-pruned-requires-clause-pass g c κs within =
    let start = c.args.store.now.start in
    let s = c.self.inside.seat in
    let starts : s.start ≡ Some start = ap (λ (p : Pass). p.start) c.self.view_is ∙ c.requires.1 in
    let number : c.number-number.result ≡ s.number = c.number-number.ensures ∙ ap (λ (t : SeatState Event Start). t.number) c.take_out-vault.ensures.takes in
    let began : c.deref_mut.result.now.start ≡ start = ap (λ (w : Vault). w.start) c.deref_mut.ensures.value ∙ c.take_out-vault.ensures.start ∙ ap (λ (t : Store). t.start) c.store.view_is in
    subst (λ n. n < c.deref_mut.result.now.start.passes) (sym number) (subst (λ (t : Start). s.number < t.passes) (sym began) (c.self.invariant.0.events start starts).1)

pub prune-pruned-requires-clause-own : goal.prune-pruned-requires-clause-own
prune-pruned-requires-clause-own g c κs within = pins-board c.self.inside.seat c.self.inside.pins _ c.store.inside.turn c.store.inside.board _ c.self.view_is c.self.invariant.0 c.store.view_is c.store.invariant.3 c.requires

pub give_back-self-inside-requires-clause-goes_on : goal.give_back-self-inside-requires-clause-goes_on
give_back-self-inside-requires-clause-goes_on g c κs within =
    let start = c.args.store.now.start in
    let v = c.deref_mut.result.now in
    let v2 = c.prune-pruned.new.vault in
    let s = c.self.inside.seat in
    let number : c.number-number.result ≡ s.number = c.number-number.ensures ∙ ap (λ (t : SeatState Event Start). t.number) c.take_out-vault.ensures.takes in
    let own = AddsNamed-pruning c.number-number.result c.args.bound c.self.inside.pins.known v v2 c.prune-pruned.result c.prune-pruned.ensures.pruned c.prune-pruned.ensures.failed in
    let took : HasTaken s c.take_out-vault.new.seat v start = HasTaken-boxed s c.take_out-vault.new.seat v c.take_out-vault.result.value start c.deref_mut.ensures.value (c.take_out-vault.ensures.start ∙ ap (λ (t : Store). t.start) c.store.view_is) c.take_out-vault.ensures.begins c.take_out-vault.ensures.others c.take_out-vault.ensures.takes in
    MayGive-taken s c.take_out-vault.new.seat v v2 start c.number-number.result took number own

pub returns-clause-pruned : goal.returns-clause-pruned
returns-clause-pruned g c =
    let start = c.args.store.now.start in
    let s = c.self.inside.seat in
    let v = c.deref_mut.result.now in
    let v2 = c.prune-pruned.new.vault in
    let number : c.number-number.result ≡ s.number = c.number-number.ensures ∙ ap (λ (t : SeatState Event Start). t.number) c.take_out-vault.ensures.takes in
    let took : HasTaken s c.take_out-vault.new.seat v start = HasTaken-boxed s c.take_out-vault.new.seat v c.take_out-vault.result.value start c.deref_mut.ensures.value (c.take_out-vault.ensures.start ∙ ap (λ (t : Store). t.start) c.store.view_is) c.take_out-vault.ensures.begins c.take_out-vault.ensures.others c.take_out-vault.ensures.takes in
    let h : HasPassed s c.give_back-self-inside.new.seat c.self.inside.pins v v2 start = HasPassed-given s c.take_out-vault.new.seat c.give_back-self-inside.new.seat c.self.inside.pins v v2 start took c.self.invariant.0 c.give_back-self-inside.ensures.seat in
    subst (λ (q : Pass). IfOk c.prune-pruned.result (HasPruned start c.args.bound c.args.self.now q)) (sym c.show.ensures)
    (subst (λ (q : PinsState). IfOk c.prune-pruned.result (HasPruned start c.args.bound c.args.self.now (pass_of c.give_back-self-inside.new.seat q))) (sym c.prune-pruned.ensures.unchanged)
    (subst (λ (p : Pass). IfOk c.prune-pruned.result (HasPruned start c.args.bound p (pass_of c.give_back-self-inside.new.seat c.self.inside.pins))) c.self.view_is
    (HasPruned-passed s c.give_back-self-inside.new.seat c.self.inside.pins v v2 start h c.number-number.result c.args.bound number c.prune-pruned.ensures.pins c.prune-pruned.result c.prune-pruned.ensures.pruned)))

pub returns-clause-failed : goal.returns-clause-failed
returns-clause-failed g c =
    let start = c.args.store.now.start in
    let s = c.self.inside.seat in
    let v = c.deref_mut.result.now in
    let v2 = c.prune-pruned.new.vault in
    let number : c.number-number.result ≡ s.number = c.number-number.ensures ∙ ap (λ (t : SeatState Event Start). t.number) c.take_out-vault.ensures.takes in
    let took : HasTaken s c.take_out-vault.new.seat v start = HasTaken-boxed s c.take_out-vault.new.seat v c.take_out-vault.result.value start c.deref_mut.ensures.value (c.take_out-vault.ensures.start ∙ ap (λ (t : Store). t.start) c.store.view_is) c.take_out-vault.ensures.begins c.take_out-vault.ensures.others c.take_out-vault.ensures.takes in
    let h : HasPassed s c.give_back-self-inside.new.seat c.self.inside.pins v v2 start = HasPassed-given s c.take_out-vault.new.seat c.give_back-self-inside.new.seat c.self.inside.pins v v2 start took c.self.invariant.0 c.give_back-self-inside.ensures.seat in
    subst (λ (q : Pass). IfErr c.prune-pruned.result (HasFailedPruning start c.args.bound c.args.self.now q)) (sym c.show.ensures)
    (subst (λ (q : PinsState). IfErr c.prune-pruned.result (HasFailedPruning start c.args.bound c.args.self.now (pass_of c.give_back-self-inside.new.seat q))) (sym c.prune-pruned.ensures.unchanged)
    (subst (λ (p : Pass). IfErr c.prune-pruned.result (HasFailedPruning start c.args.bound p (pass_of c.give_back-self-inside.new.seat c.self.inside.pins))) c.self.view_is
    (HasFailedPruning-passed s c.give_back-self-inside.new.seat c.self.inside.pins v v2 start h c.number-number.result c.args.bound number c.prune-pruned.ensures.pins c.prune-pruned.result c.prune-pruned.ensures.failed)))

pub invariant_of-self : goal.invariant_of-self
invariant_of-self g c =
    let start = c.args.store.now.start in
    let s = c.self.inside.seat in
    let v = c.deref_mut.result.now in
    let v2 = c.prune-pruned.new.vault in
    let starts : s.start ≡ Some start = ap (λ (p : Pass). p.start) c.self.view_is ∙ c.requires.1 in
    let took : HasTaken s c.take_out-vault.new.seat v start = HasTaken-boxed s c.take_out-vault.new.seat v c.take_out-vault.result.value start c.deref_mut.ensures.value (c.take_out-vault.ensures.start ∙ ap (λ (t : Store). t.start) c.store.view_is) c.take_out-vault.ensures.begins c.take_out-vault.ensures.others c.take_out-vault.ensures.takes in
    let known = c.self.invariant.0.events start starts in
    let h : HasPassed s c.give_back-self-inside.new.seat c.self.inside.pins v v2 start = HasPassed-given s c.take_out-vault.new.seat c.give_back-self-inside.new.seat c.self.inside.pins v v2 start took c.self.invariant.0 c.give_back-self-inside.ensures.seat in
    (subst (λ (q : PinsState). IsPass c.give_back-self-inside.new.seat q) (sym c.prune-pruned.ensures.unchanged) (IsPass-passed s c.give_back-self-inside.new.seat c.self.inside.pins v v2 start h c.give_back-self-inside.ensures.events c.prune-pruned.ensures.start starts known.1 known.2), IsCounted-passed s c.give_back-self-inside.new.seat c.self.inside.pins v v2 start h c.give_back-self-inside.result c.give_back-self-inside.ensures.counted)
