-- The replies to one session that runs alone are explained by its own entries.
use Rattle.std.proofs.Common.{◌≡◌, inl, inr, ℕ, ◌+◌, ◌-◌, ◌<◌, ◌≤◌, zero, suc, Option, Some, None, IfSome, List, [], ◌∷◌, ◌++◌, map, take, length, refl, sym, ap, ◌∙◌, subst, arith, le_refl, append_assoc, length-append}
use Rattle.std.proofs.lemmas.Bool.{eq-eqb}
use Rattle.std.proofs.Math.Seq.{take-append_seam, take-length}
use Rattle.std.specs.Prelude.{if◌then◌else◌, slice_get, option_to_list}
use Rattle.std.specs.List.{AllByRecursion}
use Rattle.jf_model.specs.States.{State}
use Rattle.jf_model.specs.Entries.{after, replay, owner_of, timeless}
use Rattle.jf_model.proofs.EntryLaws.{after-count, after-at_moment, replay-push}
use Rattle.jf_model.specs.declared.entries.Entry.{Entry}
use Rattle.jf_model.specs.declared.entries.Entry.TheVariants as entry
use Rattle.jf_answers.specs.Own.{Own, begun_session}
use Rattle.jf_answers.specs.OwnLines.{pin_of}
use Rattle.jf_answers.specs.Answers.{Answer, answer, retired_below}
use Rattle.jf_answers.proofs.AnswerLaws.{IsPruned, IsOf, Follows, EachPin, answer-IsSoundAnswer, answer-EachPin}
use Rattle.jf_answers.specs.Prunings.{next_floor}
use Rattle.jf_answers.specs.Runs.{Run, answers_from, answers, answer_text, text_of, run_entries}
use Rattle.jf_answers.specs.Explains.{Timeline, IsAmong, state_after, answered_with_floor, answer_with, floor_in, HasFloor, LineReply, IsQuietReply, HasAnsweredChange, AreAnswered, text_in, places_in_reply, places_owned, timeline_of, Explains}
use Rattle.jf_answers.specs.Laws.{OneSessionExplainsItself, OneSessionExplainsAll}
use Rattle.jf_answers.proofs.Pins.{EachNamed, EachNamed-one, IsFloor-next}

-- ---- entries without their moments

pub owner-timeless : (e : Entry) → owner_of (timeless e) ≡ owner_of e
owner-timeless (entry.Made owner fork parent batch root) = refl
owner-timeless (entry.Landed owner version how root moment) = refl
owner-timeless (entry.Dropped owner fork) = refl
owner-timeless (entry.Retired owner bound floor) = refl
owner-timeless (entry.Compacted owner generation) = refl

-- an answer that retires versions has the floor that the own pins let it have
floor_same : (s : State) (own : Own) (a : Answer) (owner bound floor : ℕ) → a.entry ≡ Some (entry.Retired owner bound floor) → IsPruned s own a (entry.Retired owner bound floor) → floor ≡ next_floor bound s own
floor_same s own a owner bound floor some p =
    let both : Some (entry.Retired owner bound floor) ≡ Some (entry.Retired own.number bound (next_floor bound s own)) = sym some ∙ ap (λ (x : Answer). x.entry) p in
    cc

-- an answer that gives an entry is the answer with that entry's floor
pub floor_stays : (s : State) (own : Own) (a : Answer) (e : Entry) → a.entry ≡ Some (timeless e) → IsPruned s own a (timeless e) → answered_with_floor (floor_in e) s own a (Some (timeless e)) ≡ a
floor_stays s own a (entry.Retired owner bound floor) some p =
    ap (λ f. retired_below bound f s own) (floor_same s own a owner bound floor some p) ∙ sym p
floor_stays s own a (entry.Made owner fork parent batch root) some p = refl
floor_stays s own a (entry.Landed owner version how root moment) some p = refl
floor_stays s own a (entry.Dropped owner fork) some p = refl
floor_stays s own a (entry.Compacted owner generation) some p = refl

-- the floor of an entry that an answer gives is one that pins allow
floor_is : (h : Timeline) (s : State) (own : Own) (a : Answer) (e : Entry) → EachPin (IsAmong h.pins) own → a.entry ≡ Some (timeless e) → IsPruned s own a (timeless e) → HasFloor h s own e
floor_is h s own a (entry.Retired owner bound floor) named some p =
    subst (λ f. HasFloor h s own (entry.Retired owner bound f)) (sym (floor_same s own a owner bound floor some p)) (IsFloor-next h s own bound named)
floor_is h s own a (entry.Made owner fork parent batch root) named some p = tt
floor_is h s own a (entry.Landed owner version how root moment) named some p = tt
floor_is h s own a (entry.Dropped owner fork) named some p = tt
floor_is h s own a (entry.Compacted owner generation) named some p = tt

-- ---- lists

pub element-seam : {X : Type 0} (xs : List X) (y : X) (ys : List X) → slice_get (xs ++ y ∷ ys) (length xs) ≡ Some y
element-seam [] y ys = refl
element-seam (x ∷ xs) y ys = element-seam xs y ys

pub length-push : (es : List Entry) (e : Entry) → length (es ++ e ∷ []) ≡ length es + 1
length-push es e = length-append es (e ∷ [])

-- ---- lines in turn

-- replies to the first of these lines, with the text of a run and the places of its entries
record FirstReplies (h : Timeline) (own : Own) (seen : ℕ) (lines : List (List ℕ)) (run : Run) (left : List Entry) : Type 0 where
  replies : List LineReply
  answered : AreAnswered h own seen lines replies
  text : text_in replies ≡ text_of run
  places : places_in_reply replies ≡ places_owned own.number seen left
  owned : AllByRecursion (λ e. owner_of e < own.number + 1) left

-- how far a run is: the entries done, and the entries to come
record Stands (h : Timeline) (s : State) (own : Own) (done left : List Entry) (run : Run) : Type 0 where
  split : h.entries ≡ done ++ left
  at : s ≡ replay h.start done
  count : s.count ≡ length done
  coming : map timeless left ≡ run_entries run
  named : EachPin (IsAmong h.pins) own

none_left : (h : Timeline) (own : Own) (seen : ℕ) (lines : List (List ℕ)) (s : State) (left : List Entry) → map timeless left ≡ run_entries (answers_from s own []) → FirstReplies h own seen lines (answers_from s own []) left
unfolding answers_from
none_left h own seen lines s [] none = record { replies = []; answered = tt; text = refl; places = refl; owned = tt }
none_left h own seen lines s (e ∷ es) none = absurd (cc)

module _ (h : Timeline) (s : State) (own : Own) (line : List ℕ) (lines : List (List ℕ)) (d : ℕ) where
  abbrev a : Answer
  a = answer s own line

  abbrev run : Run
  run = answers_from s own (line ∷ take d lines)

  abbrev rest : Run
  rest = answers_from a.state a.own (take d lines)

  -- the state over the entries done
  here : (done left : List Entry) → Stands h s own done left run → state_after h (length done) ≡ s
  here done left w = ap (λ (es : List Entry). replay h.start (take (length done) es)) w.split ∙ ap (replay h.start) (take-append_seam done left) ∙ sym w.at

  room : (done left : List Entry) → h.entries ≡ done ++ left → length done ≤ length h.entries
  room done left split = let e = ap (λ (es : List Entry). length es) split in let f = length-append done left in omega arith

  -- ---- a line that gives no entry

  stands_quiet : (done left : List Entry) → Stands h s own done left run → a.entry ≡ None → IfSome (pin_of line) (IsAmong h.pins) → Stands h a.state a.own done left rest
  unfolding answers_from
  stands_quiet done left w none named =
      let stays : a.state ≡ s = subst (Follows s own a) none (answer-IsSoundAnswer s own line).follows in
      record {
        split = w.split;
        at = stays ∙ w.at;
        count = ap (λ (t : State). t.count) stays ∙ w.count;
        coming = w.coming ∙ ap (λ o. option_to_list o ++ run_entries rest) none;
        named = answer-EachPin (IsAmong h.pins) s own line named w.named;
      }

  looks : (done left : List Entry) → Stands h s own done left run → a.entry ≡ None
      → IsQuietReply h own (length done) line (record { number = length done; text = answer_text (length done) a; entry = None; own = a.own })
  looks done left w none =
      let back = sym (here done left w) in
      record {
        quiet = subst (λ t. (answer t own line).entry ≡ None) back none;
        text = ap (λ t. answer_text (length done) (answer t own line)) back;
        none = refl;
        own_after = ap (λ (t : State). (answer t own line).own) back;
        by_itself = λ _. refl;
      }

  reply_quiet : (done left : List Entry) → Stands h s own done left run → a.entry ≡ None → FirstReplies h a.own (length done) lines rest left → FirstReplies h own (length done) (line ∷ lines) run left
  unfolding answers_from
  reply_quiet done left w none more =
      let stays : a.state ≡ s = subst (Follows s own a) none (answer-IsSoundAnswer s own line).follows in
      let number = (answer-IsSoundAnswer s own line).number in
      let count : a.state.count ≡ length done = ap (λ (t : State). t.count) stays ∙ w.count in
      record {
        replies = record { number = length done; text = answer_text (length done) a; entry = None; own = a.own } ∷ more.replies;
        answered = (record { rises = le_refl (length done); within = room done left w.split; answered = inl (looks done left w none) }, more.answered);
        text = ap (λ t. answer_text (length done) a ++ t) more.text ∙ ap (λ n. answer_text n a ++ text_of rest) (sym count);
        places = more.places ∙ ap (λ n. places_owned n (length done) left) number;
        owned = subst (λ n. AllByRecursion (λ e. owner_of e < n + 1) left) number more.owned;
      }

  -- ---- a line that gives an entry

  module _ (done : List Entry) (e : Entry) (left : List Entry) (w : Stands h s own done (e ∷ left) run) (some : a.entry ≡ Some (timeless e)) (of : IsOf s own a (timeless e)) where
    made : a.state ≡ after e s
    made = of.state ∙ after-at_moment 0 e s

    grown : a.state ≡ replay h.start (done ++ e ∷ [])
    grown = made ∙ ap (after e) w.at ∙ sym (replay-push h.start done e)

    counted : a.state.count ≡ length (done ++ e ∷ [])
    counted = ap (λ (t : State). t.count) made ∙ after-count e s ∙ ap (λ n. n + 1) w.count ∙ sym (length-push done e)

    owner : owner_of e ≡ own.number
    owner = sym (owner-timeless e) ∙ of.owned

    stands_change : map timeless left ≡ run_entries rest → IfSome (pin_of line) (IsAmong h.pins) → Stands h a.state a.own (done ++ e ∷ []) left rest
    stands_change coming named = record {
      split = w.split ∙ sym (append_assoc done (e ∷ []) left);
      at = grown;
      count = counted;
      coming = coming;
      named = answer-EachPin (IsAmong h.pins) s own line named w.named;
    }

    abbrev reply : LineReply
    reply = record { number = length (done ++ e ∷ []); text = answer_text (length (done ++ e ∷ [])) a; entry = Some e; own = a.own }

    one_back : length (done ++ e ∷ []) - 1 ≡ length done
    one_back = let l = length-push done e in omega arith

    before : state_after h (length (done ++ e ∷ []) - 1) ≡ s
    before = ap (state_after h) one_back ∙ here done (e ∷ left) w

    same : answer_with (floor_in e) (state_after h (length (done ++ e ∷ []) - 1)) own line ≡ a
    same = ap (λ (t : State). answer_with (floor_in e) t own line) before ∙ ap (answered_with_floor (floor_in e) s own a) some ∙ floor_stays s own a e some of.pruned_so

    changes : HasAnsweredChange h own (length done) line reply
    changes = record {
      event = e;
      later = let l = length-push done e in omega arith;
      stands = ap (slice_get h.entries) one_back ∙ ap (λ (es : List Entry). slice_get es (length done)) w.split ∙ element-seam done e left;
      owned = owner;
      gives = record { same = ap (λ (x : Answer). x.entry) same ∙ some; floor = subst (λ (t : State). HasFloor h t own e) (sym before) (floor_is h s own a e w.named some of.pruned_so) };
      text = ap (answer_text (length (done ++ e ∷ []))) (sym same);
      kept = refl;
      own_after = ap (λ (x : Answer). x.own) (sym same);
    }

    reply_change : FirstReplies h a.own (length (done ++ e ∷ [])) lines rest left → FirstReplies h own (length done) (line ∷ lines) run (e ∷ left)
    unfolding answers_from
    reply_change more =
        let number = (answer-IsSoundAnswer s own line).number in
        let l = length-push done e in
        record {
          replies = reply ∷ more.replies;
          answered = (
            record {
              rises = omega arith;
              within = room (done ++ e ∷ []) left (w.split ∙ sym (append_assoc done (e ∷ []) left));
              answered = inr changes;
            },
            more.answered,
          );
          text = ap (λ t. answer_text (length (done ++ e ∷ [])) a ++ t) more.text ∙ ap (λ n. answer_text n a ++ text_of rest) (sym counted);
          places =
              ap (λ ns. length (done ++ e ∷ []) ∷ ns) (more.places ∙ ap (λ n. places_owned n (length (done ++ e ∷ [])) left) number)
              ∙ ap (λ n. n ∷ places_owned own.number n left) l
              ∙ ap (λ b. if b then (length done + 1) ∷ places_owned own.number (length done + 1) left else places_owned own.number (length done + 1) left) (sym (eq-eqb (owner_of e) own.number owner));
          owned = (omega (arith, owner), subst (λ n. AllByRecursion (λ e. owner_of e < n + 1) left) number more.owned);
        }

-- ---- all lines

abbrev Goal : Timeline → ℕ → List (List ℕ) → Type 0
Goal h d lines =
    (s : State) (own : Own) (done left : List Entry) → EachNamed h.pins lines → Stands h s own done left (answers_from s own (take d lines))
    → FirstReplies h own (length done) lines (answers_from s own (take d lines)) left

line_first : (h : Timeline) (d : ℕ) (line : List ℕ) (lines : List (List ℕ)) → Goal h d lines → (s : State) (own : Own) (done left : List Entry) → EachNamed h.pins (line ∷ lines)
    → Stands h s own done left (answers_from s own (line ∷ take d lines)) → (o : Option Entry) → (answer s own line).entry ≡ o → FirstReplies h own (length done) (line ∷ lines) (answers_from s own (line ∷ take d lines)) left
unfolding answers_from
line_first h d line lines more s own done left named w None is =
    let a = answer s own line in
    reply_quiet h s own line lines d done left w is (more a.state a.own done left named.1 (stands_quiet h s own line lines d done left w is named.0))
line_first h d line lines more s own done [] named w (Some x) is =
    let rest = answers_from (answer s own line).state (answer s own line).own (take d lines) in
    let coming : [] ≡ x ∷ run_entries rest = w.coming ∙ ap (λ o. option_to_list o ++ run_entries rest) is in
    absurd (cc)
line_first h d line lines more s own done (e ∷ left) named w (Some x) is =
    let a = answer s own line in
    let rest = answers_from a.state a.own (take d lines) in
    let coming : timeless e ∷ map timeless left ≡ x ∷ run_entries rest = w.coming ∙ ap (λ o. option_to_list o ++ run_entries rest) is in
    let first : timeless e ≡ x = cc in
    let later : map timeless left ≡ run_entries rest = cc in
    let some : a.entry ≡ Some (timeless e) = is ∙ ap (λ y. Some y) (sym first) in
    let of : IsOf s own a (timeless e) = subst (Follows s own a) some (answer-IsSoundAnswer s own line).follows in
    reply_change h s own line lines d done e left w some of (more a.state a.own (done ++ e ∷ []) left named.1 (stands_change h s own line lines d done e left w some of later named.0))

reply_all : (h : Timeline) (d : ℕ) (lines : List (List ℕ)) → Goal h d lines
reply_all h zero lines s own done left named w = none_left h own (length done) lines s left w.coming
reply_all h (suc d) [] s own done left named w = none_left h own (length done) [] s left w.coming
reply_all h (suc d) (line ∷ lines) s own done left named w = line_first h d line lines (reply_all h d lines) s own done left named w (answer s own line).entry refl

-- ---- the laws

no_pins_named : (pins : List ℕ) → EachPin (IsAmong pins) (begun_session 0)
no_pins_named pins = (tt, (tt, (tt, (tt, (tt, (tt, (tt, (tt, tt))))))))

pub one_session : OneSessionExplainsItself
unfolding replay
one_session s lines d entries none history timeless_are =
    let h = timeline_of s entries (lines ∷ []) in
    let told : FirstReplies h (begun_session 0) 0 lines (answers s (take d lines)) entries =
    reply_all h d lines s (begun_session 0) [] entries (EachNamed-one lines) (record { split = refl; at = refl; count = none; coming = timeless_are; named = no_pins_named h.pins }) in
    record {
      replies = told.replies ∷ [];
      explained = record { history = history; owners = told.owned; sessions = (record { replies = told.answered; entries = inl (sym told.places) }, tt) };
      texts = ap (λ t. t ∷ []) (sym told.text);
    }

pub one_session_all : OneSessionExplainsAll
one_session_all s lines entries none history timeless_are =
    let whole = take-length lines in
    subst (λ (ls : List (List ℕ)). Explains s entries (lines ∷ []) (text_of (answers s ls) ∷ []) []) whole
    (one_session s lines (length lines) entries none history (timeless_are ∙ ap (λ (ls : List (List ℕ)). run_entries (answers s ls)) (sym whole)))
