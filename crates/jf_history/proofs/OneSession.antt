-- A session that is alone on its store answers as one by itself.
use Rattle.std.proofs.Common.{◌≡◌, inl, inr, ℕ, ◌+◌, ◌-◌, ◌<◌, true, false, cond, Option, Some, None, IfSome, List, [], ◌∷◌, ◌++◌, map, take, length, refl, sym, ap, ◌∙◌, subst, arith, append_assoc, append-nil}
use Rattle.std.proofs.lemmas.Bool.{eq-eqb}
use Rattle.std.proofs.Math.Seq.{take-append_seam}
use Rattle.std.specs.Prelude.{is_some, slice_get, option_to_list}
use Rattle.std.specs.List.{AllByRecursion}
use Rattle.jf_model.specs.States.{State}
use Rattle.jf_model.specs.Entries.{after, replay, owner_of, timeless, IsHistory, RiseFrom, moments_of}
use Rattle.jf_model.proofs.EntryLaws.{after-count, after-at_moment, replay-push}
use Rattle.jf_model.specs.declared.entries.Entry.{Entry}
use Rattle.jf_store.specs.declared.event.Event.{Event}
use Rattle.jf_store.specs.declared.event.Event.TheVariants.{Done, Mark}
use Rattle.jf_store.specs.Events.{pass_named_by, entries_among, attempt_of, is_marked}
use Rattle.jf_store.specs.Starts.{Start}
use Rattle.jf_store.specs.Ledgers.{AreEvents, MarkIsLast, IsUndone, state_after_events}
use Rattle.jf_store.specs.Passes.{Store, Pass, new_pass}
use Rattle.jf_store.proofs.EventLaws.{entries_of-mark, attempt_of-append}
use Rattle.jf_answers.specs.Own.{Own, begun_session}
use Rattle.jf_answers.specs.Answers.{Answer, answer}
use Rattle.jf_answers.specs.Runs.{Run, answers_from, answers, answer_text, texts_of, run_entries}
use Rattle.jf_answers.proofs.AnswerLaws.{IsOf, Follows, answer-IsSoundAnswer}
use Rattle.jf_answers.proofs.OneSession.{element-seam, length-push}
use Rattle.jf_answers.specs.Explains.{Timeline, state_after, answer_with, floor_in, GivesEntry, LineReply, IsQuietReply, HasAnsweredChange, IsAnswered, AreAnswered, own_after_replies, places_in_reply, places_owned}
use Rattle.jf_history.specs.Sessions.{Session, HeldFloor, seen_by, timeline}
use Rattle.jf_history.specs.Runs.{AreHeld, HasAnswered}
use Rattle.jf_history.specs.Laws.{OneSessionIsAlone, OneSessionTries, OneSessionIsNeverBroken}
use Rattle.jf_history.proofs.OnePass.{alone, all_front, one_pass_adds}
use Rattle.jf_history.proofs.HeldFloors.{floors_of, HaveMet-floors, answer_with-alone}

-- ---- numbers

-- the next line that gives an entry gives a later one than any that was seen
told-later : (h : Timeline) (own : Own) (seen p : ℕ) (ls : List (List ℕ)) (rs : List LineReply) (ps : List ℕ) → AreAnswered h own seen ls rs → places_in_reply rs ≡ p ∷ ps → seen < p
told-later h own seen p ls [] ps a e = absurd (cc)
told-later h own seen p [] (r ∷ rs) ps a e = absurd a
told-later h own seen p (line ∷ ls) (r ∷ rs) ps a e = elim a.0.answered as (λ o. seen < p) [
  | inl l ↦ (
      let told : places_in_reply rs ≡ p ∷ ps = sym (ap (λ (o : Option Entry). cond (is_some o) (r.number ∷ places_in_reply rs) (places_in_reply rs)) l.none) ∙ e in
      let more = told-later h r.own r.number p ls rs ps a.1 told in
      let rises = a.0.rises in
      omega arith
      )
  | inr c ↦ (
      let told : r.number ∷ places_in_reply rs ≡ p ∷ ps = sym (ap (λ (o : Option Entry). cond (is_some o) (r.number ∷ places_in_reply rs) (places_in_reply rs)) c.kept) ∙ e in
      let same : r.number ≡ p = cc in
      let later = c.later in
      omega arith
      )
]

-- the first of entries with this owner
owned-first : (k : ℕ) (e : Entry) (es : List Entry) → owner_of e ≡ 0 → places_owned 0 k (e ∷ es) ≡ (k + 1) ∷ places_owned 0 (k + 1) es
owned-first k e es is = ap (λ b. cond b ((k + 1) ∷ places_owned 0 (k + 1) es) (places_owned 0 (k + 1) es)) (eq-eqb (owner_of e) 0 is)

-- ---- how far a session is, and what is to come

-- the state and own part after the entries done, before those to come
record Reached (h : Timeline) (s : State) (own : Own) (seen : ℕ) (done left : List Entry) : Type 0 where
  split : h.entries ≡ done ++ left
  at : s ≡ replay h.start done
  count : s.count ≡ length done
  seen_is : seen ≡ length done
  number : own.number ≡ 0
  owned : AllByRecursion (λ e. owner_of e ≡ 0) left

-- the replies are the answers of a session by itself, and the entries to come are theirs
pub record Agrees (s : State) (own : Own) (ls : List (List ℕ)) (rs : List LineReply) (left : List Entry) : Type 0 where
  pub texts : map (λ r. r.text) rs ≡ texts_of (answers_from s own ls)
  pub entries : map timeless left ≡ run_entries (answers_from s own ls)
  pub state : replay s left ≡ (answers_from s own ls).state
  pub own_after : own_after_replies own rs ≡ (answers_from s own ls).own
  pub number : (own_after_replies own rs).number ≡ 0

none_left : (s : State) (own : Own) (k : ℕ) (left : List Entry) → own.number ≡ 0 → AllByRecursion (λ e. owner_of e ≡ 0) left → [] ≡ places_owned 0 k left → Agrees s own [] [] left
unfolding answers_from replay
none_left s own k [] first owned told = record { texts = refl; entries = refl; state = refl; own_after = refl; number = first }
none_left s own k (e ∷ es) first owned told = absurd (let x : [] ≡ (k + 1) ∷ places_owned 0 (k + 1) es = told ∙ owned-first k e es owned.0 in cc)

module _ (start : Start) (pins : List ℕ) (events : List Event) (one : start.passes ≡ 1) where
  abbrev h : Timeline
  h = timeline start pins events

  module _ (s : State) (own : Own) (seen : ℕ) (line : List ℕ) (ls : List (List ℕ)) (r : LineReply) (rs : List LineReply) where
    abbrev a : Answer
    a = answer s own line

    abbrev rest : Run
    rest = answers_from a.state a.own ls

    here : (done left : List Entry) (n : ℕ) → Reached h s own seen done left → n ≡ length done → state_after h n ≡ s
    here done left n w e =
        ap (state_after h) e ∙ ap (λ (es : List Entry). replay h.start (take (length done) es)) w.split ∙ ap (replay h.start) (take-append_seam done left) ∙ sym w.at

    -- ---- a line that gives no entry
    quiet_number : (done left : List Entry) → Reached h s own seen done left → IsAnswered h own seen line r → AreAnswered h r.own r.number ls rs → places_in_reply rs ≡ places_owned 0 seen left → r.number ≡ length done
    quiet_number done [] w is more told =
        let within = is.within in
        let rises = is.rises in
        let seen_is = w.seen_is in
        let all : length h.entries ≡ length done = ap (λ (es : List Entry). length es) (w.split ∙ append-nil done) in
        omega arith
    quiet_number done (e ∷ left) w is more told =
        let later = told-later h r.own r.number (seen + 1) ls rs (places_owned 0 (seen + 1) left) more (told ∙ owned-first seen e left w.owned.0) in
        let rises = is.rises in
        let seen_is = w.seen_is in
        omega arith

    module _ (done left : List Entry) (w : Reached h s own seen done left) (l : IsQuietReply h own seen line r) (number : r.number ≡ length done) where
      at_here : state_after h r.number ≡ s
      at_here = here done left r.number w number

      gives_none : a.entry ≡ None
      gives_none = sym (ap (λ (t : State). (answer t own line).entry) at_here) ∙ l.quiet

      unchanged : a.state ≡ s
      unchanged = subst (Follows s own a) gives_none (answer-IsSoundAnswer s own line).follows

      own_same : r.own ≡ a.own
      own_same = l.own_after ∙ ap (λ (t : State). (answer t own line).own) at_here

      counted : r.number ≡ a.state.count
      counted = number ∙ sym (ap (λ (t : State). t.count) unchanged ∙ w.count)

      reached_quiet : Reached h a.state r.own r.number done left
      reached_quiet = record {
        split = w.split;
        at = unchanged ∙ w.at;
        count = ap (λ (t : State). t.count) unchanged ∙ w.count;
        seen_is = number;
        number = ap (λ (o : Own). o.number) own_same ∙ (answer-IsSoundAnswer s own line).number ∙ w.number;
        owned = w.owned;
      }

      agrees_quiet : Agrees a.state r.own ls rs left → Agrees s own (line ∷ ls) (r ∷ rs) left
      unfolding answers_from
      agrees_quiet m =
          let more : Agrees a.state a.own ls rs left = subst (λ (o : Own). Agrees a.state o ls rs left) own_same m in
          let text : r.text ≡ answer_text a.state.count a = l.text ∙ ap (λ (t : State). answer_text r.number (answer t own line)) at_here ∙ ap (λ n. answer_text n a) counted in
          record {
            texts = ap (λ t. t ∷ map (λ (x : LineReply). x.text) rs) text ∙ ap (λ ts. answer_text a.state.count a ∷ ts) more.texts;
            entries = more.entries ∙ sym (ap (λ o. option_to_list o ++ run_entries rest) gives_none);
            state = sym (ap (λ (t : State). replay t left) unchanged) ∙ more.state;
            own_after = ap (λ (o : Own). own_after_replies o rs) own_same ∙ more.own_after;
            number = m.number;
          }

    -- ---- a line that gives an entry
    module _ (done : List Entry) (e : Entry) (left : List Entry) (w : Reached h s own seen done (e ∷ left)) (c : HasAnsweredChange h own seen line r) (held : IfSome r.entry (HeldFloor start own (state_after h (r.number - 1)))) (number : r.number ≡ seen + 1) where
      before_is : r.number - 1 ≡ length done
      before_is = let seen_is = w.seen_is in omega arith

      at_before : state_after h (r.number - 1) ≡ s
      at_before = here done (e ∷ left) (r.number - 1) w before_is

      is : c.event ≡ e
      is =
          let there : slice_get h.entries (r.number - 1) ≡ Some e = ap (slice_get h.entries) before_is ∙ ap (λ (es : List Entry). slice_get es (length done)) w.split ∙ element-seam done e left in
          let both : Some c.event ≡ Some e = sym c.stands ∙ there in
          cc

      gives : GivesEntry h s own line c.event
      gives = subst (λ (t : State). GivesEntry h t own line c.event) at_before c.gives

      held_here : HeldFloor start own s c.event
      held_here = subst (λ (t : State). HeldFloor start own t c.event) at_before (subst (λ (o : Option Entry). IfSome o (HeldFloor start own (state_after h (r.number - 1)))) c.kept held)

      same : answer_with (floor_in c.event) s own line ≡ a
      same = answer_with-alone start h s own line c.event one w.number gives held_here

      same_there : answer_with (floor_in c.event) (state_after h (r.number - 1)) own line ≡ a
      same_there = ap (λ (t : State). answer_with (floor_in c.event) t own line) at_before ∙ same

      some : a.entry ≡ Some (timeless e)
      some = sym (ap (λ (x : Answer). x.entry) same) ∙ gives.same ∙ ap (λ (x : Entry). Some (timeless x)) is

      of : IsOf s own a (timeless e)
      of = subst (Follows s own a) some (answer-IsSoundAnswer s own line).follows

      made : a.state ≡ after e s
      made = of.state ∙ after-at_moment 0 e s

      counted_more : a.state.count ≡ length (done ++ e ∷ [])
      counted_more = ap (λ (t : State). t.count) made ∙ after-count e s ∙ ap (λ n. n + 1) w.count ∙ sym (length-push done e)

      number_is : r.number ≡ length (done ++ e ∷ [])
      number_is = number ∙ ap (λ n. n + 1) w.seen_is ∙ sym (length-push done e)

      own_changed : r.own ≡ a.own
      own_changed = c.own_after ∙ ap (λ (x : Answer). x.own) same_there

      reached_change : Reached h a.state r.own r.number (done ++ e ∷ []) left
      reached_change = record {
        split = w.split ∙ sym (append_assoc done (e ∷ []) left);
        at = made ∙ ap (after e) w.at ∙ sym (replay-push h.start done e);
        count = counted_more;
        seen_is = number_is;
        number = ap (λ (o : Own). o.number) own_changed ∙ (answer-IsSoundAnswer s own line).number ∙ w.number;
        owned = w.owned.1;
      }

      agrees_change : Agrees a.state r.own ls rs left → Agrees s own (line ∷ ls) (r ∷ rs) (e ∷ left)
      unfolding answers_from replay
      agrees_change m =
          let more : Agrees a.state a.own ls rs left = subst (λ (o : Own). Agrees a.state o ls rs left) own_changed m in
          let text : r.text ≡ answer_text a.state.count a = c.text ∙ ap (answer_text r.number) same_there ∙ ap (λ n. answer_text n a) (number_is ∙ sym counted_more) in
          record {
            texts = ap (λ t. t ∷ map (λ (x : LineReply). x.text) rs) text ∙ ap (λ ts. answer_text a.state.count a ∷ ts) more.texts;
            entries = ap (λ es. timeless e ∷ es) more.entries ∙ sym (ap (λ o. option_to_list o ++ run_entries rest) some);
            state = sym (ap (λ (t : State). replay t left) made) ∙ more.state;
            own_after = ap (λ (o : Own). own_after_replies o rs) own_changed ∙ more.own_after;
            number = m.number;
          }

  -- ---- all lines
  abbrev Goal : List LineReply → Type 0
  Goal rs = (s : State) (own : Own) (seen : ℕ) (ls : List (List ℕ)) (done left : List Entry) → Reached h s own seen done left → AreAnswered h own seen ls rs → AreHeld start h.entries own rs
      → places_in_reply rs ≡ places_owned 0 seen left → length rs ≡ length ls → Agrees s own ls rs left

  change_first : (r : LineReply) (rs : List LineReply) → Goal rs → (s : State) (own : Own) (seen : ℕ) (line : List ℕ) (ls : List (List ℕ)) (done left : List Entry) → Reached h s own seen done left
      → HasAnsweredChange h own seen line r → AreAnswered h r.own r.number ls rs → IfSome r.entry (HeldFloor start own (state_after h (r.number - 1))) → AreHeld start h.entries r.own rs
      → r.number ∷ places_in_reply rs ≡ places_owned 0 seen left → length rs ≡ length ls → Agrees s own (line ∷ ls) (r ∷ rs) left
  change_first r rs later s own seen line ls done [] w c more held helds told same = absurd (cc)
  change_first r rs later s own seen line ls done (e ∷ left) w c more held helds told same =
      let both : r.number ∷ places_in_reply rs ≡ (seen + 1) ∷ places_owned 0 (seen + 1) left = told ∙ owned-first seen e left w.owned.0 in
      let number : r.number ≡ seen + 1 = cc in
      let told' : places_in_reply rs ≡ places_owned 0 (seen + 1) left = cc in
      agrees_change s own seen line ls r rs done e left w c held number
      (later (answer s own line).state r.own r.number ls (done ++ e ∷ []) left (reached_change s own seen line ls r rs done e left w c held number) more helds (told' ∙ ap (λ n. places_owned 0 n left) (sym number)) same)

  quiet_first : (r : LineReply) (rs : List LineReply) → Goal rs → (s : State) (own : Own) (seen : ℕ) (line : List ℕ) (ls : List (List ℕ)) (done left : List Entry) → Reached h s own seen done left
      → IsAnswered h own seen line r → IsQuietReply h own seen line r → AreAnswered h r.own r.number ls rs → AreHeld start h.entries r.own rs → places_in_reply rs ≡ places_owned 0 seen left → length rs ≡ length ls → Agrees s own (line ∷ ls) (r ∷ rs) left
  quiet_first r rs later s own seen line ls done left w is l more helds told same =
      let number = quiet_number s own seen line ls r rs done left w is more told in
      agrees_quiet s own seen line ls r rs done left w l number
      (later (answer s own line).state r.own r.number ls done left (reached_quiet s own seen line ls r rs done left w l number) more helds (told ∙ ap (λ n. places_owned 0 n left) (w.seen_is ∙ sym number)) same)

  agree : (rs : List LineReply) → Goal rs
  agree [] s own seen [] done left w a held told same = none_left s own seen left w.number w.owned told
  agree [] s own seen (line ∷ ls) done left w a held told same = absurd (omega arith)
  agree (r ∷ rs) s own seen [] done left w a held told same = absurd a
  agree (r ∷ rs) s own seen (line ∷ ls) done left w a held told same =
      let fewer : length rs ≡ length ls = omega arith in
      elim a.0.answered as (λ o. Agrees s own (line ∷ ls) (r ∷ rs) left) [
        | inl l ↦ quiet_first r rs (agree rs) s own seen line ls done left w a.0 l a.1 held.1
            (sym (ap (λ (o : Option Entry). cond (is_some o) (r.number ∷ places_in_reply rs) (places_in_reply rs)) l.none) ∙ told) fewer
        | inr c ↦ change_first r rs (agree rs) s own seen line ls done left w c a.1 held.0 held.1
            (sym (ap (λ (o : Option Entry). cond (is_some o) (r.number ∷ places_in_reply rs) (places_in_reply rs)) c.kept) ∙ told) fewer
      ]

-- ---- the laws

owners_none : (events : List Event) → AllByRecursion (λ x. pass_named_by x < 1) events → AllByRecursion (λ e. owner_of e ≡ 0) (entries_among events)
owners_none [] h = tt
owners_none (Done e ∷ xs) h = let low = h.0 in (omega arith, owners_none xs h.1)
owners_none (Mark pass e ∷ xs) h = owners_none xs h.1

-- the first replies, as long as all entries are theirs
pub agrees-from : (start : Start) (events : List Event) (ls : List (List ℕ)) (rs : List LineReply) → start.passes ≡ 1 → start.state.count ≡ 0 → AreEvents start events
    → AreAnswered (timeline start (floors_of events) events) (begun_session 0) 0 ls rs → AreHeld start (entries_among events) (begun_session 0) rs → places_owned 0 0 (entries_among events) ≡ places_in_reply rs → length rs ≡ length ls
    → Agrees start.state (begun_session 0) ls rs (entries_among events)
unfolding replay
agrees-from start events ls rs one none are answered held places same =
    agree start (floors_of events) events one rs start.state (begun_session 0) 0 ls [] (entries_among events)
    (record {
      split = refl;
      at = refl;
      count = none;
      seen_is = refl;
      number = refl;
      owned = owners_none events (subst (λ n. AllByRecursion (λ x. pass_named_by x < n) events) one are.named);
    }) answered held (sym places) same

pub agrees-all : (store : Store) (now : Session) (ls : List (List ℕ)) (rs : List LineReply) → store.start.passes ≡ 1 → store.start.state.count ≡ 0 → AreEvents store.start now.pass.seen
    → HasAnswered store.start (new_pass store 0) now ls rs → Agrees store.start.state (begun_session 0) ls rs (seen_by now.pass)
agrees-all store now ls rs one none are a =
    agrees-from store.start now.pass.seen ls rs one none are (a.answered (floors_of now.pass.seen) (HaveMet-floors store.start now.pass.seen are)) a.held a.places a.all

pub one_session_is_alone : OneSessionIsAlone
one_session_is_alone store now ls rs one none are a =
    let g = agrees-all store now ls rs one none are a in
    record { texts = g.texts; entries = g.entries; state = g.state; own = a.own ∙ g.own_after }

-- ---- the mark

-- a mark is that of an entry that was not done
pub mark_there : (s : State) (xs : List Event) (pass : ℕ) (e : Entry) → MarkIsLast s (xs ++ Mark pass e ∷ []) → is_marked xs ≡ false → IsUndone s pass e
mark_there s [] pass e m none = m.1
mark_there s (Done x ∷ xs) pass e m none = mark_there s xs pass e m none
mark_there s (Mark p x ∷ xs) pass e m none = absurd (cc)

unmarked-MarkIsLast : (s : State) (xs : List Event) → is_marked xs ≡ false → MarkIsLast s xs
unmarked-MarkIsLast s [] none = tt
unmarked-MarkIsLast s (Done x ∷ xs) none = unmarked-MarkIsLast s xs none
unmarked-MarkIsLast s (Mark p x ∷ xs) none = absurd (cc)

-- events before a mark
pub AreEvents-before : (start : Start) (xs : List Event) (pass : ℕ) (e : Entry) → AreEvents start (xs ++ Mark pass e ∷ []) → is_marked xs ≡ false → AreEvents start xs
AreEvents-before start xs pass e h none =
    let same = entries_of-mark xs pass e in
    record {
      history = subst (λ (es : List Entry). IsHistory start.state es) same h.history;
      later = subst (λ (es : List Entry). RiseFrom (start.moment + 1) (moments_of es)) same h.later;
      named = all_front (λ x. pass_named_by x < start.passes) xs (Mark pass e ∷ []) h.named;
      marked = unmarked-MarkIsLast (state_after_events start xs) xs none;
    }

pub one_session_tries : OneSessionTries
one_session_tries store mid last ls rs line one none are a t =
    let number : mid.pass.number ≡ 0 = ap (λ (p : Pass). p.number) a.same in
    let seen : last.pass.seen ≡ t.before ++ Mark mid.pass.number t.attempt ∷ [] = ap (λ (p : Pass). p.seen) t.sees.last in
    let are' = subst (AreEvents store.start) seen are in
    let same : t.before ≡ mid.pass.seen = one_pass_adds store.start mid.pass last.pass t.before (Mark mid.pass.number t.attempt) one (omega arith) are t.sees in
    let whole = AreEvents-before store.start t.before mid.pass.number t.attempt are' t.sees.unmarked in
    let g = agrees-all store mid ls rs one none (subst (AreEvents store.start) same whole) a in
    let own : mid.own ≡ (answers store.start.state ls).own = a.own ∙ g.own_after in
    let state : state_after_events store.start t.before ≡ (answers store.start.state ls).state = ap (state_after_events store.start) same ∙ g.state in
    let first : mid.own.number ≡ 0 = ap (λ (o : Own). o.number) a.own ∙ g.number in
    let pins = floors_of last.pass.seen in
    let gives = t.gives pins (HaveMet-floors store.start last.pass.seen are) in
    let with = answer_with-alone store.start (timeline store.start pins t.before) (state_after_events store.start t.before) mid.own line t.attempt one first gives t.held in
    let undated = (mark_there (state_after_events store.start (t.before ++ Mark mid.pass.number t.attempt ∷ [])) t.before mid.pass.number t.attempt are'.marked t.sees.unmarked).undated in
    let here : (answer (state_after_events store.start t.before) mid.own line).entry ≡ Some t.attempt = sym (ap (λ (x : Answer). x.entry) with) ∙ gives.same ∙ ap (λ (x : Entry). Some x) undated in (
      t.attempt,
      ap attempt_of seen ∙ attempt_of-append t.before (Mark mid.pass.number t.attempt ∷ []) t.sees.unmarked,
      subst (λ (o : Own). (answer (answers store.start.state ls).state o line).entry ≡ Some t.attempt) own (subst (λ (x : State). (answer x mid.own line).entry ≡ Some t.attempt) state here),
    )

pub one_session_is_never_broken : OneSessionIsNeverBroken
one_session_is_never_broken store mid last ls rs line one are a b =
    let number : mid.pass.number ≡ 0 = ap (λ (p : Pass). p.number) a.same in
    let same = alone store.start mid.pass last.pass.seen one (omega arith) are.named b.idle.follows.begins b.idle.others in
    let both : true ≡ false = sym b.marked ∙ ap is_marked same ∙ a.unmarked in
    absurd (cc)
