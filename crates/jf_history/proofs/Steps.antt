-- Lines answered one after another.
use Rattle.std.proofs.Common.{◌≡◌, ◌⊎◌, inl, inr, ℕ, ◌-◌, ◌≤◌, List, [], ◌∷◌, ◌++◌, filter_map, take, length, sym, ap, ◌∙◌, subst, IfSome, length-append, append_assoc, append-nil, refl, arith}
use Rattle.std.specs.List.{AllByRecursion}
use Rattle.jf_model.specs.Entries.{replay}
use Rattle.jf_model.specs.declared.entries.Entry.{Entry}
use Rattle.jf_turn.specs.Lists.{HasElement}
use Rattle.jf_turn.proofs.Lists.{starts_self}
use Rattle.jf_store.specs.declared.event.Event.{Event}
use Rattle.jf_store.specs.Events.{entries_among}
use Rattle.jf_store.specs.Starts.{Start}
use Rattle.jf_store.specs.Passes.{Pass}
use Rattle.jf_store.proofs.EventLaws.{entries_of-append}
use Rattle.jf_store.proofs.ClosingLaws.{starts_further}
use Rattle.jf_answers.specs.Own.{Own, begun_session}
use Rattle.jf_answers.specs.OwnLines.{pin_of}
use Rattle.jf_answers.specs.Explains.{Timeline, IsAmong, LineReply, IsAnswered, AreAnswered, own_after_replies, places_in_reply, places_owned}
use Rattle.jf_history.specs.Sessions.{Session, HaveMet, HeldFloor, HasReplied, seen_by, timeline, entry_place}
use Rattle.jf_history.specs.Runs.{AreHeld, HasAnswered}
use Rattle.jf_history.specs.Laws.{NoneAnswered, OneMoreAnswered}
use Rattle.jf_history.proofs.Announced.{named-front, named-line}
use Rattle.jf_history.proofs.Fronts.{AreMet-front, places_owned-within, AreAnswered-push, places_told-push, own_after-push, seen_after-push, AreHeld-push, AreHeld-later}
use Rattle.jf_history.proofs.Later.{stay}
use Rattle.jf_history.proofs.OnePass.{all_back}

module _ (start : Start) (old : Pass) (mid new : Session) (ls : List (List ℕ)) (rs : List LineReply) (line : List ℕ) (r : LineReply) (a : HasAnswered start old mid ls rs) (t : HasReplied start mid new line r) where
  abbrev more : List Event
  more = t.follows.begins.0

  entries_more : seen_by new.pass ≡ seen_by mid.pass ++ entries_among more
  entries_more = ap entries_among t.follows.begins.1 ∙ entries_of-append mid.pass.seen more

  number_same : mid.pass.number ≡ old.number
  number_same = ap (λ (p : Pass). p.number) a.same

  same_more : new.pass ≡ record old { seen = new.pass.seen; place = new.pass.place; pinned = new.pass.pinned }
  same_more = t.follows.same ∙ ap (λ (p : Pass). record p { seen = new.pass.seen; place = new.pass.place; pinned = new.pass.pinned }) a.same

  announced_more : (version : ℕ) → HasElement new.pass.place.announced version → HasElement old.place.announced version ⊎ IsAmong (filter_map pin_of (ls ++ line ∷ [])) version
  announced_more version there = elim (t.follows.announced version there) as (λ o. HasElement old.place.announced version ⊎ IsAmong (filter_map pin_of (ls ++ line ∷ [])) version) [
    | inl before ↦ elim (a.announced version before) as (λ o. HasElement old.place.announced version ⊎ IsAmong (filter_map pin_of (ls ++ line ∷ [])) version) [
      | inl first ↦ inl first
      | inr named ↦ inr (named-front ls (line ∷ []) version named)
    ]
    | inr named ↦ inr (named-line ls line [] version named)
  ]

  longer : (pins : List ℕ) → record { start = start.state; entries = seen_by mid.pass ++ entries_among more; pins = pins } ≡ timeline start pins new.pass.seen
  longer pins = ap (λ (es : List Entry). record { start = start.state; entries = es; pins = pins }) (sym entries_more)

  answered_more : (pins : List ℕ) → HaveMet pins start new.pass.seen → AreAnswered (timeline start pins new.pass.seen) (begun_session old.number) (length (seen_by old)) (ls ++ line ∷ []) (rs ++ r ∷ [])
  answered_more pins met =
      let met' : HaveMet pins start mid.pass.seen = AreMet-front (λ pin. IsAmong pins pin.1) start.state mid.pass.seen more (subst (HaveMet pins start) t.follows.begins.1 met) in
      let before = subst (λ (h : Timeline). AreAnswered h (begun_session old.number) (length (seen_by old)) ls rs) (longer pins) (stay start.state pins (seen_by mid.pass) (entries_among more) (begun_session old.number) (length (seen_by old)) ls rs (a.answered pins met')) in
      AreAnswered-push (timeline start pins new.pass.seen) (begun_session old.number) (length (seen_by old)) ls rs line r a.all before
      (subst (λ (k : ℕ). IsAnswered (timeline start pins new.pass.seen) (own_after_replies (begun_session old.number) rs) k line r) (sym a.number)
      (subst (λ (o : Own). IsAnswered (timeline start pins new.pass.seen) o (length (seen_by mid.pass)) line r) a.own (t.answered pins met)))

  held_more : AreHeld start (seen_by new.pass) (begun_session old.number) (rs ++ r ∷ [])
  held_more =
      let within =
      all_back (λ n. n ≤ length (seen_by mid.pass)) (places_owned old.number 0 (seen_by old)) (places_in_reply rs)
      (subst (AllByRecursion (λ n. n ≤ length (seen_by mid.pass))) a.places (places_owned-within old.number 0 (length (seen_by mid.pass)) (seen_by mid.pass) (omega arith))) in
      let before = AreHeld-later start (seen_by mid.pass) (entries_among more) (begun_session old.number) rs within a.held in
      AreHeld-push start (seen_by new.pass) (begun_session old.number) rs r (subst (λ (es : List Entry). AreHeld start es (begun_session old.number) rs) (sym entries_more) before)
      (subst (λ (o : Own). IfSome r.entry (HeldFloor start o (replay start.state (take (r.number - 1) (seen_by new.pass))))) a.own t.held)

  places_more : places_owned old.number 0 (seen_by new.pass) ≡ places_owned old.number 0 (seen_by old) ++ places_in_reply (rs ++ r ∷ [])
  places_more =
      subst (λ (n : ℕ). places_owned n 0 (seen_by new.pass) ≡ places_owned n 0 (seen_by mid.pass) ++ entry_place r) number_same t.places ∙ ap (λ ns. ns ++ entry_place r) a.places
      ∙ append_assoc (places_owned old.number 0 (seen_by old)) (places_in_reply rs) (entry_place r) ∙ ap (λ ns. places_owned old.number 0 (seen_by old) ++ ns) (sym (places_told-push rs r))

pub one_more_answered : OneMoreAnswered
one_more_answered start old mid new ls rs line r a t = record {
  begins = starts_further new.pass.seen mid.pass.seen old.seen t.follows.begins a.begins;
  same = same_more start old mid new ls rs line r a t;
  announced = announced_more start old mid new ls rs line r a t;
  unmarked = t.unmarked;
  pins = t.pins;
  all = (let same = a.all in omega (arith, length-append rs (r ∷ []), length-append ls (line ∷ [])));
  answered = answered_more start old mid new ls rs line r a t;
  held = held_more start old mid new ls rs line r a t;
  places = places_more start old mid new ls rs line r a t;
  own = t.own ∙ sym (own_after-push (begun_session old.number) rs r);
  number = seen_after-push (length (seen_by old)) rs r ∙ t.number;
}

pub none_answered : NoneAnswered
none_answered start p unmarked holds = record {
  begins = starts_self p.seen;
  same = refl;
  announced = λ version there. inl there;
  unmarked = unmarked;
  pins = holds;
  all = refl;
  answered = λ pins met. tt;
  held = tt;
  places = sym (append-nil (places_owned p.number 0 (seen_by p)));
  own = refl;
  number = refl;
}
