-- Replies to single lines.
use Rattle.std.proofs.Common.{◌≡◌, inl, inr, ℕ, ◌+◌, ◌-◌, ◌≤◌, cond, None, List, [], ◌∷◌, ◌++◌, take, length, refl, sym, ap, ◌∙◌, subst, arith, append-nil, length-append}
use Rattle.std.specs.Prelude.{slice_get}
use Rattle.std.proofs.lemmas.Bool.{eq-eqb}
use Rattle.std.proofs.Math.Seq.{take-length, take-append_seam}
use Rattle.jf_model.specs.States.{State}
use Rattle.jf_model.specs.Entries.{replay, owner_of}
use Rattle.jf_model.specs.declared.entries.Entry.{Entry}
use Rattle.jf_turn.specs.Lists.{HasElement, StartsWith}
use Rattle.jf_store.specs.declared.event.Event.{Event}
use Rattle.jf_store.specs.declared.event.Event.TheVariants.{Done}
use Rattle.jf_store.specs.Events.{entries_among, is_marked}
use Rattle.jf_store.specs.Starts.{Start}
use Rattle.jf_store.specs.Ledgers.{state_after_events}
use Rattle.jf_store.specs.Passes.{Pass}
use Rattle.jf_store.proofs.EventLaws.{entries_of-append, entries_of-done, is_marked-append}
use Rattle.jf_store.proofs.ClosingLaws.{starts_further}
use Rattle.jf_answers.specs.Answers.{answer}
use Rattle.jf_answers.specs.Runs.{answer_text}
use Rattle.jf_answers.proofs.OneSession.{element-seam, length-push}
use Rattle.jf_answers.specs.Explains.{IsQuietReply, HasAnsweredChange, GivesEntry, answer_with, floor_in, state_after, places_owned}
use Rattle.jf_history.specs.Sessions.{Session, HaveMet, HeldFloor, FollowsLine, HasLooked, HasChanged, look_reply, change_reply, seen_by, timeline}
use Rattle.jf_history.specs.Laws.{LooksReply, ChangesReply}
use Rattle.jf_history.proofs.Places.{places_append, places_on}

-- as many entries as a front has, or more
more_entries : (events seen : List Event) → StartsWith events seen → length (entries_among seen) ≤ length (entries_among events)
more_entries events seen s =
    let same : length (entries_among events) ≡ length (entries_among seen ++ entries_among s.0) = ap (λ (es : List Entry). length es) (ap entries_among s.1 ∙ entries_of-append seen s.0) in
    omega (arith, length-append (entries_among seen) (entries_among s.0))

-- ---- a line that gives no entry
module _ (start : Start) (old new : Session) (line : List ℕ) (q : HasLooked start old new line) where
  now : (pins : List ℕ) → state_after (timeline start pins new.pass.seen) (length (seen_by new.pass)) ≡ state_after_events start new.pass.seen
  now pins = ap (replay start.state) (take-length (seen_by new.pass))

  looks : (pins : List ℕ) → IsQuietReply (timeline start pins new.pass.seen) old.own (length (seen_by old.pass)) line (look_reply start old new.pass line)
  looks pins =
      let back = sym (now pins) in
      record {
        quiet = subst (λ (t : State). (answer t old.own line).entry ≡ None) back q.quiet;
        text = ap (λ (t : State). answer_text (length (seen_by new.pass)) (answer t old.own line)) back;
        none = refl;
        own_after = ap (λ (t : State). (answer t old.own line).own) back;
        by_itself = λ own. ap (λ (xs : List Event). length (entries_among xs)) (q.by_itself own);
      }

pub looks_reply : LooksReply
looks_reply start old new line q = record {
  follows = q.follows;
  unmarked = q.unmarked;
  pins = q.pins;
  own = q.own;
  number = refl;
  answered = λ pins met. record { rises = more_entries new.pass.seen old.pass.seen q.follows.begins; within = omega arith; answered = inl (looks start old new line q pins) };
  held = tt;
  places = places_on old.pass new.pass.seen q.follows.begins q.others ∙ sym (append-nil (places_owned old.pass.number 0 (seen_by old.pass)));
}

-- ---- a line that gives an entry
module _ (start : Start) (old new : Session) (before : List Event) (e : Entry) (line : List ℕ) (q : HasChanged start old new before e line) where
  seen_is : new.pass.seen ≡ before ++ Done e ∷ []
  seen_is = ap (λ (p : Pass). p.seen) q.sees.last

  entries_are : seen_by new.pass ≡ entries_among before ++ e ∷ []
  entries_are = ap entries_among seen_is ∙ entries_of-done before e

  many : length (seen_by new.pass) ≡ length (entries_among before) + 1
  many = ap (λ (es : List Entry). length es) entries_are ∙ length-push (entries_among before) e

  one_back : length (entries_among before) + 1 - 1 ≡ length (entries_among before)
  one_back = omega arith

  at_entry : (pins : List ℕ) → state_after (timeline start pins new.pass.seen) (length (entries_among before) + 1 - 1) ≡ state_after_events start before
  at_entry pins =
      ap (state_after (timeline start pins new.pass.seen)) one_back ∙ ap (λ (es : List Entry). replay start.state (take (length (entries_among before)) es)) entries_are
      ∙ ap (replay start.state) (take-append_seam (entries_among before) (e ∷ []))

  changes : (pins : List ℕ) → HaveMet pins start new.pass.seen → HasAnsweredChange (timeline start pins new.pass.seen) old.own (length (seen_by old.pass)) line (change_reply start old before e line)
  changes pins met =
      let back = sym (at_entry pins) in
      record {
        event = e;
        later = (let fewer = more_entries before old.pass.seen q.sees.begins in omega arith);
        stands = ap (slice_get (seen_by new.pass)) one_back ∙ ap (λ (es : List Entry). slice_get es (length (entries_among before))) entries_are ∙ element-seam (entries_among before) e [];
        owned = q.owned;
        gives = subst (λ (t : State). GivesEntry (timeline start pins new.pass.seen) t old.own line e) back (q.gives pins met);
        text = ap (λ (t : State). answer_text (length (entries_among before) + 1) (answer_with (floor_in e) t old.own line)) back;
        kept = refl;
        own_after = ap (λ (t : State). (answer_with (floor_in e) t old.own line).own) back;
      }

  same_place : new.pass.place ≡ old.pass.place
  same_place = ap (λ (p : Pass). p.place) q.sees.last

  follows : FollowsLine old.pass new.pass line
  follows = record {
    begins = starts_further new.pass.seen before old.pass.seen (Done e ∷ [], seen_is) q.sees.begins;
    same = q.sees.last ∙ ap (λ (p : Pass). record old.pass { seen = p.seen; place = p.place; pinned = p.pinned }) (sym q.sees.last);
    announced = λ version h. inl (subst (λ (v : _). HasElement v.announced version) same_place h);
  }

  last_place : places_owned old.pass.number (length (entries_among before)) (e ∷ []) ≡ (length (entries_among before) + 1) ∷ []
  last_place = ap (λ b. cond b ((length (entries_among before) + 1) ∷ []) []) (eq-eqb (owner_of e) old.pass.number (q.owned ∙ q.numbers))

  places : places_owned old.pass.number 0 (seen_by new.pass) ≡ places_owned old.pass.number 0 (seen_by old.pass) ++ (length (entries_among before) + 1) ∷ []
  places =
      let start_at : 0 + length (entries_among before) ≡ length (entries_among before) = omega arith in
      ap (places_owned old.pass.number 0) entries_are ∙ places_append old.pass.number 0 (entries_among before) (e ∷ [])
      ∙ ap (λ n. places_owned old.pass.number 0 (entries_among before) ++ places_owned old.pass.number n (e ∷ [])) start_at
      ∙ ap (λ ns. places_owned old.pass.number 0 (entries_among before) ++ ns) last_place ∙ ap (λ ns. ns ++ (length (entries_among before) + 1) ∷ []) (places_on old.pass before q.sees.begins q.sees.others)

pub changes_reply : ChangesReply
changes_reply start old new before e line q = record {
  follows = follows start old new before e line q;
  unmarked = ap is_marked (seen_is start old new before e line q) ∙ is_marked-append before (Done e ∷ []) q.sees.unmarked;
  pins = q.pins;
  own = q.own;
  number = sym (many start old new before e line q);
  answered = λ pins met. record {
    rises = (let fewer = more_entries before old.pass.seen q.sees.begins in omega arith);
    within = (let n = many start old new before e line q in omega arith);
    answered = inr (changes start old new before e line q pins met);
  };
  held = subst (λ (t : State). HeldFloor start old.own t e) (sym (at_entry start old new before e line q [])) q.held;
  places = places start old new before e line q;
}
