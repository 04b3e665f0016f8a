-- Laws on a pass that learned what is shown.
use Rattle.std.proofs.Common.{◌≡◌, ℕ, ◌<◌, ◌≤◌, Bool, true, false, cond, ltb, Some, None, List, [], ◌∷◌, length, refl, sym, ap, ◌∙◌, subst}
use mathlib.Core.Option as maybe
use lib.ListN.{get_elem?}
use Rattle.jf_path.specs.Checks.{first_of}
use Rattle.jf_path.proofs.OptionLaws.{some_same}
use Rattle.jf_turn.specs.Lists.{StartsWith, longer}
use Rattle.jf_turn.specs.Seats.{SeatState, NoteState, OthersFollow, learning, note_of}
use Rattle.jf_turn.proofs.Lists.{prefix_whole}
use Rattle.jf_store.specs.declared.event.Event.{Event}
use Rattle.jf_store.specs.declared.look.Look.{Look}
use Rattle.jf_store.specs.declared.fault.StoreFault.TheVariants as store_fault
use Rattle.jf_store.specs.Events.{pass_named_by, is_marked}
use Rattle.jf_store.specs.Starts.{Start}
use Rattle.jf_store.specs.Ledgers.{state_after_events, AreEvents}
use Rattle.jf_store.specs.Looks.{IsLook}
use Rattle.jf_store.specs.Refusals.{look_faults}
use Rattle.jf_store.specs.News.{IsShownLook}
use Rattle.jf_store.specs.Passes.{Store, PinsState, IsPass, IsCounted, pass_of, Sees}
use Rattle.jf_store.proofs.EventLaws.{IsCounted-events}

longer_other : (b : Bool) (xs ys : List Event) → length xs ≤ length ys → StartsWith (cond b ys xs) ys → cond b ys xs ≡ ys
longer_other true xs ys le begins = refl
longer_other false xs ys le begins = prefix_whole xs ys begins le

-- no fault of a look holds over events without a mark
none_faulty : (start : Start) (events : List Event) → is_marked events ≡ false → first_of (look_faults start events) ≡ None
none_faulty start events unmarked = ap (λ (t : Bool). first_of ((t, store_fault.Broken) ∷ [])) unmarked

unmarked_by : (b : Bool) → first_of ((b, store_fault.Broken) ∷ []) ≡ None → b ≡ false
unmarked_by false none = refl
unmarked_by true none = absurd (let e : Some store_fault.Broken ≡ None = none in cc)

-- what a pass shows that has seen these events
pub IsShownLook-note_of : (s : SeatState Event Start) (p : PinsState) (store : Store) (n : NoteState Event Start) (l : Look) → IsPass s p → s.turn ≡ store.id → s.start ≡ Some store.start → n ≡ note_of s → IsLook (state_after_events store.start s.seen) l → first_of (look_faults store.start s.seen) ≡ None → IsShownLook store n l
IsShownLook-note_of s p store n l is turn starts noted_is look none = subst (λ (m : NoteState Event Start). IsShownLook store m l) (sym noted_is) record {
  turn = turn;
  start = starts;
  events = (is.events store.start starts).0;
  unmarked = unmarked_by (is_marked s.seen) none;
  look = look;
}

-- the seat learned a note that has as many events as it had seen
pub record HasLearned (s s' : SeatState Event Start) (n : NoteState Event Start) : Type 0 where
  pub after : s' ≡ learning s n
  pub more : length s.seen ≤ length n.seen
  pub begins : StartsWith s'.seen s.seen
  pub note_begins : StartsWith s'.seen n.seen
  pub others : OthersFollow pass_named_by s s'.seen

module _ (s s' : SeatState Event Start) (n : NoteState Event Start) (p : PinsState) (store : Store) (l : Look) (is : IsPass s p) (h : HasLearned s s' n) (news : IsShownLook store n l) where
  seen_longer : s'.seen ≡ longer s.seen n.seen
  seen_longer = ap (λ (t : SeatState Event Start). t.seen) h.after

  pub seen_is : s'.seen ≡ n.seen
  seen_is = seen_longer ∙ longer_other (ltb (length s.seen) (length n.seen)) s.seen n.seen h.more (subst (λ (es : List Event). StartsWith es n.seen) seen_longer h.note_begins)

  shown : pass_of s' p ≡ record (pass_of s p) { seen = s'.seen }
  shown = ap (λ (t : SeatState Event Start). pass_of t p) h.after ∙ ap (λ (es : List Event). record (pass_of s p) { seen = es }) (sym seen_longer)

  pub Sees-learned : Sees (pass_of s p) (pass_of s' p)
  Sees-learned = record {
    begins = h.begins;
    others = λ x has name. h.others x has (0, ap (λ (ns : List ℕ). get_elem? ns 0) is.numbers ∙ ap (λ (m : ℕ). maybe.some m) (sym name));
    same = shown;
  }

  pub IsLook-learned : IsLook (state_after_events store.start s'.seen) l
  IsLook-learned = subst (λ (es : List Event). IsLook (state_after_events store.start es) l) (sym seen_is) news.look

  pub granted_learned : first_of (look_faults store.start s'.seen) ≡ None
  granted_learned = subst (λ (es : List Event). first_of (look_faults store.start es) ≡ None) (sym seen_is) (none_faulty store.start n.seen news.unmarked)

  pub IsCounted-learned : IsCounted false s'.seen
  IsCounted-learned = subst (IsCounted false) (sym seen_is) (subst (λ b. IsCounted b n.seen) news.unmarked (IsCounted-events store.start n.seen news.events))

  pub IsPass-learned : s.start ≡ Some store.start → IsPass s' p
  IsPass-learned starts = let known = is.events store.start starts in record {
    idle = ap (λ (t : SeatState Event Start). t.taken) h.after ∙ is.idle;
    numbers = ap (λ (t : SeatState Event Start). t.numbers) h.after ∙ is.numbers ∙ ap (λ (m : ℕ). m ∷ []) (sym (ap (λ (t : SeatState Event Start). t.number) h.after));
    place = is.place ∙ sym (ap (λ (t : SeatState Event Start). t.number) h.after);
    events = λ t starts'.
        let same : store.start ≡ t = some_same store.start t (sym starts ∙ sym (ap (λ (u : SeatState Event Start). u.start) h.after) ∙ starts') in
        subst (λ (t : Start). AreEvents t s'.seen × (s'.number < t.passes) × (p.board ≡ t.board)) same (
          subst (AreEvents store.start) (sym seen_is) news.events,
          subst (λ (m : ℕ). m < store.start.passes) (sym (ap (λ (u : SeatState Event Start). u.number) h.after)) known.1,
          known.2,
        );
  }
