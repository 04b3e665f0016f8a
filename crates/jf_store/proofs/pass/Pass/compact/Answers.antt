use Rattle.std.proofs.Common.{rules, ◌≡◌, ◌<◌, ◌∙◌, ap, sym, subst, Some}
use Rattle.std.specs.Prelude.{IfOk, IfErr}
use Rattle.jf_store.specs.declared.tried.Attempt.TheVariants as attempt
use Rattle.jf_turn.specs.Seats.{SeatState}
use Rattle.jf_store.specs.declared.event.Event.{Event}
use Rattle.jf_store.specs.Starts.{Start}
use Rattle.jf_store.specs.Compactions.{compact_faults, HasCompacted}
use Rattle.jf_store.specs.Passes.{Pass, Store, pass_of, HasFailed}
use Rattle.jf_store.specs.Vaults.{Vault}
use Rattle.jf_store.proofs.PassLaws.{HasTaken, HasTaken-boxed, MayGive-taken, HasPassed, HasPassed-given, HasFailed-passed, IsPass-passed, IsCounted-passed}
use Rattle.jf_store.proofs.CompactionCalls.{AddsNamed-compaction, HasCompacted-passed}
use Rattle.jf_store.proofs.pass.Pass.compact.Goals as goal

pub compact-compacted-requires : goal.compact-compacted-requires
compact-compacted-requires g c =
    let start = c.args.store.now.start in
    let s = c.self.inside.seat in
    let starts : s.start ≡ Some start = ap (λ (p : Pass). p.start) c.self.view_is ∙ c.requires.1 in
    let number : c.number-number.result ≡ s.number = c.number-number.ensures ∙ ap (λ (t : SeatState Event Start). t.number) c.take_out-vault.ensures.takes in
    let began : c.deref_mut.result.now.start ≡ start = ap (λ (w : Vault). w.start) c.deref_mut.ensures.value ∙ c.take_out-vault.ensures.start ∙ ap (λ (t : Store). t.start) c.store.view_is in
    (search rules, subst (λ n. n < c.deref_mut.result.now.start.passes) (sym number) (subst (λ (t : Start). s.number < t.passes) (sym began) (c.self.invariant.0.events start starts).1))

pub give_back-self-inside-requires-clause-goes_on : goal.give_back-self-inside-requires-clause-goes_on
give_back-self-inside-requires-clause-goes_on g c κs within =
    let start = c.args.store.now.start in
    let v = c.deref_mut.result.now in
    let v2 = c.compact-compacted.new.self in
    let s = c.self.inside.seat in
    let number : c.number-number.result ≡ s.number = c.number-number.ensures ∙ ap (λ (t : SeatState Event Start). t.number) c.take_out-vault.ensures.takes in
    let own = AddsNamed-compaction c.number-number.result v v2 c.compact-compacted.result c.compact-compacted.ensures.compacted c.compact-compacted.ensures.failed in
    let took : HasTaken s c.take_out-vault.new.seat v start = HasTaken-boxed s c.take_out-vault.new.seat v c.take_out-vault.result.value start c.deref_mut.ensures.value (c.take_out-vault.ensures.start ∙ ap (λ (t : Store). t.start) c.store.view_is) c.take_out-vault.ensures.begins c.take_out-vault.ensures.others c.take_out-vault.ensures.takes in
    MayGive-taken s c.take_out-vault.new.seat v v2 start c.number-number.result took number own

pub invariant_of-self : goal.invariant_of-self
invariant_of-self g c =
    let start = c.args.store.now.start in
    let s = c.self.inside.seat in
    let v = c.deref_mut.result.now in
    let v2 = c.compact-compacted.new.self in
    let starts : s.start ≡ Some start = ap (λ (p : Pass). p.start) c.self.view_is ∙ c.requires.1 in
    let took : HasTaken s c.take_out-vault.new.seat v start = HasTaken-boxed s c.take_out-vault.new.seat v c.take_out-vault.result.value start c.deref_mut.ensures.value (c.take_out-vault.ensures.start ∙ ap (λ (t : Store). t.start) c.store.view_is) c.take_out-vault.ensures.begins c.take_out-vault.ensures.others c.take_out-vault.ensures.takes in
    let known = c.self.invariant.0.events start starts in
    let h : HasPassed s c.give_back-self-inside.new.seat c.self.inside.pins v v2 start = HasPassed-given s c.take_out-vault.new.seat c.give_back-self-inside.new.seat c.self.inside.pins v v2 start took c.self.invariant.0 c.give_back-self-inside.ensures.seat in
    (IsPass-passed s c.give_back-self-inside.new.seat c.self.inside.pins v v2 start h c.give_back-self-inside.ensures.events c.compact-compacted.ensures.start starts known.1 known.2, IsCounted-passed s c.give_back-self-inside.new.seat c.self.inside.pins v v2 start h c.give_back-self-inside.result c.give_back-self-inside.ensures.counted)

pub returns-clause-compacted : goal.returns-clause-compacted
returns-clause-compacted g c =
    let start = c.args.store.now.start in
    let s = c.self.inside.seat in
    let v = c.deref_mut.result.now in
    let v2 = c.compact-compacted.new.self in
    let number : c.number-number.result ≡ s.number = c.number-number.ensures ∙ ap (λ (t : SeatState Event Start). t.number) c.take_out-vault.ensures.takes in
    let took : HasTaken s c.take_out-vault.new.seat v start = HasTaken-boxed s c.take_out-vault.new.seat v c.take_out-vault.result.value start c.deref_mut.ensures.value (c.take_out-vault.ensures.start ∙ ap (λ (t : Store). t.start) c.store.view_is) c.take_out-vault.ensures.begins c.take_out-vault.ensures.others c.take_out-vault.ensures.takes in
    let h : HasPassed s c.give_back-self-inside.new.seat c.self.inside.pins v v2 start = HasPassed-given s c.take_out-vault.new.seat c.give_back-self-inside.new.seat c.self.inside.pins v v2 start took c.self.invariant.0 c.give_back-self-inside.ensures.seat in
    subst (λ (q : Pass). IfOk c.compact-compacted.result (HasCompacted start c.args.self.now q)) (sym c.show.ensures)
    (subst (λ (p : Pass). IfOk c.compact-compacted.result (HasCompacted start p (pass_of c.give_back-self-inside.new.seat c.self.inside.pins))) c.self.view_is
    (HasCompacted-passed s c.give_back-self-inside.new.seat c.self.inside.pins v v2 start h c.number-number.result c.compact-compacted.result number c.compact-compacted.ensures.compacted))

pub returns-clause-failed : goal.returns-clause-failed
returns-clause-failed g c =
    let start = c.args.store.now.start in
    let s = c.self.inside.seat in
    let v = c.deref_mut.result.now in
    let v2 = c.compact-compacted.new.self in
    let number : c.number-number.result ≡ s.number = c.number-number.ensures ∙ ap (λ (t : SeatState Event Start). t.number) c.take_out-vault.ensures.takes in
    let took : HasTaken s c.take_out-vault.new.seat v start = HasTaken-boxed s c.take_out-vault.new.seat v c.take_out-vault.result.value start c.deref_mut.ensures.value (c.take_out-vault.ensures.start ∙ ap (λ (t : Store). t.start) c.store.view_is) c.take_out-vault.ensures.begins c.take_out-vault.ensures.others c.take_out-vault.ensures.takes in
    let h : HasPassed s c.give_back-self-inside.new.seat c.self.inside.pins v v2 start = HasPassed-given s c.take_out-vault.new.seat c.give_back-self-inside.new.seat c.self.inside.pins v v2 start took c.self.invariant.0 c.give_back-self-inside.ensures.seat in
    subst (λ (q : Pass). IfErr c.compact-compacted.result (HasFailed start attempt.Compacts compact_faults c.args.self.now q)) (sym c.show.ensures)
    (subst (λ (p : Pass). IfErr c.compact-compacted.result (HasFailed start attempt.Compacts compact_faults p (pass_of c.give_back-self-inside.new.seat c.self.inside.pins))) c.self.view_is
    (HasFailed-passed s c.give_back-self-inside.new.seat c.self.inside.pins v v2 start h c.number-number.result attempt.Compacts compact_faults c.compact-compacted.result number c.compact-compacted.ensures.failed))
