-- A whole run of a session that is alone on its store.
use Rattle.std.proofs.Common.{◌≡◌, ℕ, zero, suc, ◌-◌, ◌<◌, ◌≤◌, Option, Some, None, List, [], ◌∷◌, ◌++◌, map, take, drop, length, refl, sym, ap, ◌∙◌, subst, arith, min, inl, inr}
use Rattle.std.proofs.lemmas.List.{length-take, take-map}
use Rattle.std.specs.List.{AllByRecursion, concat}
use Rattle.jf_io.specs.LinesRead.{lines_read, AreFirst}
use Rattle.jf_model.specs.States.{State}
use Rattle.jf_model.specs.Entries.{replay, timeless}
use Rattle.jf_store.specs.declared.event.Event.{Event}
use Rattle.jf_store.specs.Events.{entries_among, attempt_of}
use Rattle.jf_store.specs.Ledgers.{AreEvents}
use Rattle.jf_store.specs.Passes.{Store, Pass, new_pass}
use Rattle.jf_store.proofs.EventLaws.{attempt_of-none}
use Rattle.jf_answers.specs.Own.{Own, begun_session}
use Rattle.jf_answers.specs.Answers.{answer}
use Rattle.jf_answers.specs.Runs.{answers_from, answers, answer_text, texts_of, text_of}
use Rattle.jf_answers.specs.Explains.{LineReply, text_in}
use Rattle.jf_history.specs.Sessions.{Session, seen_by, IsTry}
use Rattle.jf_history.specs.Runs.{HasAnswered, ReadsBy, HasReadInput, IsCut, IsAtRest, HasRunOver}
use Rattle.jf_history.specs.Alone.{IsCutAnswer, WritesAlone, TriesAlone, RanAlone}
use Rattle.jf_history.specs.declared.end.End.{End}
use Rattle.jf_history.specs.declared.end.End.TheVariants as end
use Rattle.jf_history.specs.Laws.{OneRunIsAlone}
use Rattle.jf_history.proofs.OneEnd.{rest_seen, one_end_is_alone}
use Rattle.jf_history.proofs.Fronts.{AreAnswered-take, AreHeld-take, places_told-take}
use Rattle.jf_history.proofs.HeldFloors.{floors_of, HaveMet-floors}
use Rattle.jf_history.proofs.OneSession.{Agrees, agrees-from}

-- ---- the first lines

pub take-take : {X : Type 0} (m n : ℕ) (xs : List X) → m ≤ n → take m (take n xs) ≡ take m xs
take-take zero n xs le = refl
take-take (suc m) zero xs le = absurd (omega arith)
take-take (suc m) (suc n) [] le = refl
take-take (suc m) (suc n) (x ∷ xs) le = ap (λ t. x ∷ t) (take-take m n xs (omega arith))

pub same_length : {X Y : Type 0} (n : ℕ) (xs : List X) (ys : List Y) → length xs ≡ length ys → length (take n xs) ≡ length (take n ys)
same_length n xs ys e = length-take n xs ∙ ap (min n) e ∙ sym (length-take n ys)

pub texts_of-take : (s : State) (own : Own) (n : ℕ) (ls : List (List ℕ)) → texts_of (answers_from s own (take n ls)) ≡ take n (texts_of (answers_from s own ls))
unfolding answers_from
texts_of-take s own zero ls = refl
texts_of-take s own (suc n) [] = refl
texts_of-take s own (suc n) (line ∷ ls) =
    let a = answer s own line in
    ap (λ ts. answer_text a.state.count a ∷ ts) (texts_of-take a.state a.own n ls)

first_lines : (whole ls : List (List ℕ)) (n : ℕ) → length ls ≤ length whole → take (length ls) whole ≡ ls → take (length (take n ls)) whole ≡ take n ls
first_lines whole ls zero le e = refl
first_lines whole [] (suc n) le e = refl
first_lines [] (l ∷ ls) (suc n) le e = absurd (omega arith)
first_lines (x ∷ whole) (l ∷ ls) (suc n) le e =
    let both : x ∷ take (length ls) whole ≡ l ∷ ls = e in
    let first : x ≡ l = cc in
    let later : take (length ls) whole ≡ ls = cc in
    ap (λ y. y ∷ take (length (take n ls)) whole) first ∙ ap (λ ys. l ∷ ys) (first_lines whole ls n (omega arith) later)

AreFirst-take : (taken left : List ℕ) (ls : List (List ℕ)) (n : ℕ) → AreFirst taken left ls → AreFirst taken left (take n ls)
AreFirst-take taken left ls n f = record {
  enough = (let many = f.enough in omega (arith, length-take n ls));
  are = first_lines (lines_read taken left) ls n f.enough f.are;
}

-- lines after which no entry came gave all entries
pub agrees_first : (store : Store) (mid : Session) (ls : List (List ℕ)) (rs : List LineReply) → store.start.passes ≡ 1 → store.start.state.count ≡ 0 → AreEvents store.start mid.pass.seen → HasAnswered store.start (new_pass store 0) mid ls rs
    → (n : ℕ) → AllByRecursion (λ r. r.entry ≡ None) (drop n rs) → Agrees store.start.state (begun_session 0) (take n ls) (take n rs) (seen_by mid.pass)
agrees_first store mid ls rs one none are a n quiet =
    agrees-from store.start mid.pass.seen (take n ls) (take n rs) one none are
    (AreAnswered-take _ (begun_session 0) 0 n ls rs (a.answered (floors_of mid.pass.seen) (HaveMet-floors store.start mid.pass.seen are)))
    (AreHeld-take store.start (seen_by mid.pass) (begun_session 0) n rs a.held) (a.places ∙ sym (places_told-take n rs quiet)) (same_length n rs ls a.all)

-- ---- what was written

module _ (store : Store) (mid : Session) (ls : List (List ℕ)) (rs : List LineReply) (one : store.start.passes ≡ 1) (none : store.start.state.count ≡ 0) (are : AreEvents store.start mid.pass.seen)
    (a : HasAnswered store.start (new_pass store 0) mid ls rs) (text : List ℕ) (c : IsCut rs text) where
  -- the lines up to the cut gave all entries
  agrees_cut : Agrees store.start.state (begun_session 0) (take c.count ls) (take c.count rs) (seen_by mid.pass)
  agrees_cut = agrees_first store mid ls rs one none are a c.count c.quiet

  cut_answer : IsCutAnswer store.start.state (take c.count ls) text
  cut_answer =
      let g = agrees_cut in
      let many : length (take c.count ls) ≡ c.count = (let within = c.within in let same = a.all in omega (arith, length-take c.count ls)) in
      let fewer : texts_of (answers store.start.state (take (length (take c.count ls) - 1) (take c.count ls))) ≡ map (λ (r : LineReply). r.text) (take (c.count - 1) rs) =
      texts_of-take store.start.state (begun_session 0) (length (take c.count ls) - 1) (take c.count ls) ∙ ap (λ n. take (n - 1) (texts_of (answers store.start.state (take c.count ls)))) many
      ∙ ap (take (c.count - 1)) (sym g.texts) ∙ take-map (λ (r : LineReply). r.text) (c.count - 1) (take c.count rs) ∙ ap (map (λ (r : LineReply). r.text)) (take-take (c.count - 1) c.count rs (omega arith)) in
      record {
        missing = c.missing;
        front = ap concat (sym g.texts) ∙ c.front;
        more = c.more;
        enough = c.enough ∙ ap (λ t. t ++ c.more) (sym (ap concat fewer));
      }

-- ---- the law

module _ (store : Store) (new : Pass) (rest rest' text text' : Option (List ℕ)) (one : store.start.passes ≡ 1) (none : store.start.state.count ≡ 0) (are : AreEvents store.start new.seen) where
  seen_last : (e : End) (r : HasRunOver e store.start (new_pass store 0) new rest rest' text text') → AreEvents store.start r.last.pass.seen
  seen_last e r = subst (λ (p : Pass). AreEvents store.start p.seen) r.pass_is are

  -- a run whose output follows from the replies to all lines done
  ran_texts : (e : End) (r : HasRunOver e store.start (new_pass store 0) new rest rest' text text') → (map (λ (a : LineReply). a.text) r.replies ≡ texts_of (answers store.start.state r.done) → WritesAlone e store.start.state r.done r.writes.text)
      → RanAlone e store.start.state (seen_by new) (attempt_of new.seen) rest rest' text text'
  ran_texts e r writes =
      let g = one_end_is_alone store e r.mid r.last r.done r.replies r.next one none (seen_last e r) r.answered r.ends in
      record {
        done = r.done;
        next = r.next;
        entries_are = ap (λ (p : Pass). map timeless (seen_by p)) r.pass_is ∙ g.0.entries;
        state = ap (λ (p : Pass). replay store.start.state (seen_by p)) r.pass_is ∙ g.0.state;
        tried = subst (λ (p : Pass). TriesAlone e (answers store.start.state r.done) r.next (attempt_of p.seen)) (sym r.pass_is) g.1;
        written = r.writes.text;
        writes = writes g.0.texts;
        appended = r.writes.appended;
        reads = r.reads;
      }

  -- one whose output has the replies to all of them
  ran_whole : (e : End) (r : HasRunOver e store.start (new_pass store 0) new rest rest' text text') → (r.writes.text ≡ text_of (answers store.start.state r.done) → WritesAlone e store.start.state r.done r.writes.text) → r.writes.text ≡ text_in r.replies
      → RanAlone e store.start.state (seen_by new) (attempt_of new.seen) rest rest' text text'
  ran_whole e r writes by = ran_texts e r (λ texts. writes (by ∙ ap concat texts))

  -- and one that may lack the reply to the last
  ran_but_last : (r : HasRunOver end.Memory store.start (new_pass store 0) new rest rest' text text') → RanAlone end.Memory store.start.state (seen_by new) (attempt_of new.seen) rest rest' text text'
  ran_but_last r = ran_texts end.Memory r (λ texts. elim r.writes.by [
    | inl whole ↦ inl (whole ∙ ap concat texts)
    | inr less ↦
        let fewer : texts_of (answers store.start.state (take (length r.done - 1) r.done)) ≡ map (λ (a : LineReply). a.text) (take (length r.replies - 1) r.replies) =
        texts_of-take store.start.state (begun_session 0) (length r.done - 1) r.done ∙ ap (λ n. take (n - 1) (texts_of (answers store.start.state r.done))) (sym r.answered.all)
        ∙ ap (take (length r.replies - 1)) (sym texts) ∙ take-map (λ (a : LineReply). a.text) (length r.replies - 1) r.replies in
        inr (less ∙ sym (ap concat fewer))
  ])

  -- a run whose output was cut
  cut_reads : (e : End) → ((taken left : List ℕ) (ls : List (List ℕ)) → ReadsBy e taken left ls) → (ls : List (List ℕ)) (n : ℕ) (next : Option (List ℕ))
      → ((all : List ℕ) → rest ≡ Some all → (left : List ℕ) × (rest' ≡ Some left) × HasReadInput e all left ls next) → (all : List ℕ) → rest ≡ Some all → (left : List ℕ) × (rest' ≡ Some left) × HasReadInput e all left (take n ls) None
  cut_reads e far ls n next reads all is =
      let x = reads all is in (
        x.0,
        x.1,
        record { taken = x.2.taken; split = x.2.split; first = AreFirst-take x.2.taken x.0 ls n x.2.first; far = far x.2.taken x.0 (take n ls); begun = tt },
      )

  ran_cut : (e : End) → ((taken left : List ℕ) (ls : List (List ℕ)) → ReadsBy e taken left ls) → (r : HasRunOver e store.start (new_pass store 0) new rest rest' text text') → IsAtRest r.mid r.last r.next → (c : IsCut r.replies r.writes.text)
      → (IsCutAnswer store.start.state (take c.count r.done) r.writes.text → WritesAlone e store.start.state (take c.count r.done) r.writes.text)
      → (attempt_of new.seen ≡ None → TriesAlone e (answers store.start.state (take c.count r.done)) None (attempt_of new.seen)) → RanAlone e store.start.state (seen_by new) (attempt_of new.seen) rest rest' text text'
  ran_cut e far r at_rest c writes tries =
      let same : new.seen ≡ r.mid.pass.seen = ap (λ (p : Pass). p.seen) r.pass_is ∙ rest_seen store r.mid r.last r.done r.replies one (seen_last e r) r.answered r.next at_rest in
      let are' = subst (AreEvents store.start) same are in
      let g = subst (λ (xs : List Event). Agrees store.start.state (begun_session 0) (take c.count r.done) (take c.count r.replies) (entries_among xs)) (sym same)
      (agrees_cut store r.mid r.done r.replies one none are' r.answered r.writes.text c) in
      record {
        done = take c.count r.done;
        next = None;
        entries_are = g.entries;
        state = g.state;
        tried = tries (ap attempt_of same ∙ attempt_of-none r.mid.pass.seen r.answered.unmarked);
        written = r.writes.text;
        writes = writes (cut_answer store r.mid r.done r.replies one none are' r.answered r.writes.text c);
        appended = r.writes.appended;
        reads = cut_reads e far r.done c.count r.next r.reads;
      }

pub one_run_is_alone : OneRunIsAlone
one_run_is_alone store end.Done new rest rest' text text' one none are r = ran_whole store new rest rest' text text' one none are end.Done r (λ t. t) r.writes.by
one_run_is_alone store end.ReadFault new rest rest' text text' one none are r = ran_whole store new rest rest' text text' one none are end.ReadFault r (λ t. t) r.writes.by
one_run_is_alone store end.WriteFault new rest rest' text text' one none are r = ran_cut store new rest rest' text text' one none are end.WriteFault (λ taken left ls. tt) r r.ends r.writes.by (λ c. c) (λ t. t)
one_run_is_alone store end.DiskFault new rest rest' text text' one none are r = ran_whole store new rest rest' text text' one none are end.DiskFault r (λ t. t) r.writes.by
one_run_is_alone store end.Broken new rest rest' text text' one none are r =
    let last = seen_last store new rest rest' text text' one none are end.Broken r in
    absurd (one_end_is_alone store end.Broken r.mid r.last r.done r.replies r.next one none last r.answered r.ends).1
one_run_is_alone store end.Memory new rest rest' text text' one none are r = ran_but_last store new rest rest' text text' one none are r
