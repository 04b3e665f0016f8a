use Rattle.std.proofs.Common.{◌≡◌, ◌∙◌, ap, sym, subst, Some, None, refl, List}
use Rattle.std.specs.Prelude.{IfOk, IfErr, OnOk}
use Rattle.jf_path.specs.Checks.{first_of}
use Rattle.jf_turn.specs.Seats.{SeatState, MayGive, giving}
use Rattle.jf_store.specs.declared.event.Event.{Event}
use Rattle.jf_store.specs.Starts.{Start}
use Rattle.jf_store.specs.Events.{pass_named_by}
use Rattle.jf_store.specs.Ledgers.{state_after_events}
use Rattle.jf_store.specs.Looks.{IsLook}
use Rattle.jf_store.specs.Refusals.{IsRefusal, look_faults}
use Rattle.jf_store.specs.Passes.{Pass, Store, pass_of, Sees}
use Rattle.jf_store.specs.Vaults.{Vault}
use Rattle.jf_store.proofs.PassLaws.{HasPassed, AddsNamed-none, Sees-passed, IsPass-passed, IsCounted-passed}
use Rattle.jf_store.proofs.pass.Pass.look_in_turn.Goals as goal

pub give_back-self-inside-requires-clause-goes_on : goal.give_back-self-inside-requires-clause-goes_on
give_back-self-inside-requires-clause-goes_on g c κs within =
    let v = c.take_out-vault.result.value in
    let own = AddsNamed-none c.self.inside.seat.number v.events v.events refl in
    subst (λ (t : SeatState Event Start). MayGive pass_named_by t v.events) (sym c.take_out-vault.ensures.takes) (v.events, own.0, refl, own.1, own.2)

pub invariant_of-self : goal.invariant_of-self
invariant_of-self g c =
    let start = c.args.store.now.start in
    let s = c.self.inside.seat in
    let v = c.take_out-vault.result.value in
    let starts : s.start ≡ Some start = ap (λ (p : Pass). p.start) c.self.view_is ∙ c.requires.1 in
    let began : v.start ≡ start = c.take_out-vault.ensures.start ∙ ap (λ (t : Store). t.start) c.store.view_is in
    let known = c.self.invariant.0.events start starts in
    let h : HasPassed s c.give_back-self-inside.new.seat c.self.inside.pins v v start = record {
      is = c.self.invariant.0;
      after = c.give_back-self-inside.ensures.seat ∙ ap (λ (t : SeatState Event Start). giving t v.events) c.take_out-vault.ensures.takes;
      began = began;
      begins = c.take_out-vault.ensures.begins;
      others = c.take_out-vault.ensures.others;
    } in
    (IsPass-passed s c.give_back-self-inside.new.seat c.self.inside.pins v v start h c.give_back-self-inside.ensures.events refl starts known.1 known.2, IsCounted-passed s c.give_back-self-inside.new.seat c.self.inside.pins v v start h c.give_back-self-inside.result c.give_back-self-inside.ensures.counted)

pub returns-clause-sees : goal.returns-clause-sees
returns-clause-sees g c =
    let start = c.args.store.now.start in
    let s = c.self.inside.seat in
    let v = c.take_out-vault.result.value in
    let began : v.start ≡ start = c.take_out-vault.ensures.start ∙ ap (λ (t : Store). t.start) c.store.view_is in
    let h : HasPassed s c.give_back-self-inside.new.seat c.self.inside.pins v v start = record {
      is = c.self.invariant.0;
      after = c.give_back-self-inside.ensures.seat ∙ ap (λ (t : SeatState Event Start). giving t v.events) c.take_out-vault.ensures.takes;
      began = began;
      begins = c.take_out-vault.ensures.begins;
      others = c.take_out-vault.ensures.others;
    } in
    subst (λ (q : Pass). Sees c.args.self.now q) (sym c.show.ensures)
    (subst (λ (p : Pass). Sees p (pass_of c.give_back-self-inside.new.seat c.self.inside.pins)) c.self.view_is (Sees-passed s c.give_back-self-inside.new.seat c.self.inside.pins v v start h refl))

pub returns-clause-look : goal.returns-clause-look
returns-clause-look g c =
    let start = c.args.store.now.start in
    let v = c.take_out-vault.result.value in
    let began : v.start ≡ start = c.take_out-vault.ensures.start ∙ ap (λ (t : Store). t.start) c.store.view_is in
    let seen : c.give_back-self-inside.new.seat.seen ≡ v.events = ap (λ (t : SeatState Event Start). t.seen) c.give_back-self-inside.ensures.seat in
    subst (λ (q : Pass). IfOk c.look-look.result (IsLook (state_after_events start q.seen))) (sym c.show.ensures)
    (subst (λ (es : List Event). IfOk c.look-look.result (IsLook (state_after_events start es))) (sym seen)
    (subst (λ (t : Start). IfOk c.look-look.result (IsLook (state_after_events t v.events))) began (subst (λ (u : Vault). IfOk c.look-look.result (IsLook (state_after_events u.start u.events))) c.deref.ensures c.look-look.ensures.look)))

pub returns-clause-refused : goal.returns-clause-refused
returns-clause-refused g c =
    let start = c.args.store.now.start in
    let v = c.take_out-vault.result.value in
    let began : v.start ≡ start = c.take_out-vault.ensures.start ∙ ap (λ (t : Store). t.start) c.store.view_is in
    let seen : c.give_back-self-inside.new.seat.seen ≡ v.events = ap (λ (t : SeatState Event Start). t.seen) c.give_back-self-inside.ensures.seat in
    subst (λ (q : Pass). IfErr c.look-look.result (IsRefusal (look_faults start q.seen))) (sym c.show.ensures)
    (subst (λ (es : List Event). IfErr c.look-look.result (IsRefusal (look_faults start es))) (sym seen)
    (subst (λ (t : Start). IfErr c.look-look.result (IsRefusal (look_faults t v.events))) began (subst (λ (u : Vault). IfErr c.look-look.result (IsRefusal (look_faults u.start u.events))) c.deref.ensures c.look-look.ensures.refused)))

pub returns-clause-granted : goal.returns-clause-granted
returns-clause-granted g c =
    let start = c.args.store.now.start in
    let v = c.take_out-vault.result.value in
    let began : v.start ≡ start = c.take_out-vault.ensures.start ∙ ap (λ (t : Store). t.start) c.store.view_is in
    let seen : c.give_back-self-inside.new.seat.seen ≡ v.events = ap (λ (t : SeatState Event Start). t.seen) c.give_back-self-inside.ensures.seat in
    subst (λ (q : Pass). OnOk c.look-look.result (first_of (look_faults start q.seen) ≡ None)) (sym c.show.ensures)
    (subst (λ (es : List Event). OnOk c.look-look.result (first_of (look_faults start es) ≡ None)) (sym seen)
    (subst (λ (t : Start). OnOk c.look-look.result (first_of (look_faults t v.events) ≡ None)) began (subst (λ (u : Vault). OnOk c.look-look.result (first_of (look_faults u.start u.events) ≡ None)) c.deref.ensures c.look-look.ensures.granted)))
