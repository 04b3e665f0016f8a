-- The reply to a question over a map.
use Rattle.std.specs.Prelude.{Result, Ok, Err, IfOk, IfErr, nat_le, nat_lt, slice_get, slice_index_or}
use Rattle.std.proofs.Common.{◌≡◌, ◌∙◌, ℕ, zero, suc, ◌<◌, ◌≤◌, true, false, cond, Option, Some, None, List, [], ◌∷◌, length, sym, ap, subst, arith, append-nil}
use Rattle.std.proofs.lemmas.Bool.Decides.{nat_tests}
use Rattle.std.proofs.lemmas.Bool.{ltb-true, ltb-false}
use Rattle.std.specs.FinMap.{len, entries}
use Rattle.jf_path.specs.Checks.{first_of}
use Rattle.jf_hash.specs.Maps.{Map}
use Rattle.jf_evidence.specs.Ranges.{chunk_entries, honest_chunk}
use Rattle.jf_script.specs.declared.command.Question.{Question}
use Rattle.jf_script.specs.declared.command.Question.TheVariants as question
use Rattle.jf_script.specs.declared.reply.Refusal.{Refusal}
use Rattle.jf_script.specs.declared.reply.Refusal.TheVariants as refusal
use Rattle.jf_script.specs.declared.reply.Reply.{Reply}
use Rattle.jf_script.specs.declared.reply.Reply.TheVariants as reply
use Rattle.jf_blocks.specs.Blocks.{chunk_lines}
use Rattle.jf_answers.specs.Answers.{answer_of, entry_at}
use Rattle.jf_answers.specs.Refusals.{question_causes, range_causes}
use Rattle.jf_session.specs.Questions.{question_reply, IsReplyTo, IsAnswerTo}
use Rattle.jf_session.specs.declared.stop.Stop.{Stop}

-- ---- the first cause
-- if none holds, the reply is the answer
pub question_reply-free : (q : Question) (m : Map) → first_of (question_causes q m) ≡ None → question_reply q m ≡ answer_of q m
question_reply-free q m free = ap (λ (o : Option Refusal). elim o as (λ x. Reply × List ℕ) [ Some why ↦ (reply.No why, []) | None ↦ answer_of q m ]) free

pub question_reply-refused : (q : Question) (m : Map) (why : Refusal) → first_of (question_causes q m) ≡ Some why → question_reply q m ≡ (reply.No why, [])
question_reply-refused q m why refused = ap (λ (o : Option Refusal). elim o as (λ x. Reply × List ℕ) [ Some why ↦ (reply.No why, []) | None ↦ answer_of q m ]) refused

-- ---- replies without a block
-- nothing is appended for them
pub IsAnswerTo-plain : (q : Question) (m : Map) (lines : List ℕ) (x : Result Reply Stop) → IsReplyTo q m x → IsAnswerTo q m lines lines x
IsAnswerTo-plain q m lines (Ok r) is = ([], sym (append-nil lines), is)
IsAnswerTo-plain q m lines (Err why) is = is

-- ---- places
-- one in the range of the map is no refusal, and one beyond it is
in_range : (m : Map) (place : ℕ) → place < len m → first_of (range_causes m place) ≡ None
in_range m place within = let test : nat_le (len m) place ≡ false = grind (arith, nat_tests) in ap (λ b. cond b (Some (refusal.Range (len m))) None) test

beyond : (m : Map) (place n : ℕ) → n ≡ len m → n ≤ place → first_of (range_causes m place) ≡ Some (refusal.Range n)
beyond m place n number above =
    let high : len m ≤ place = subst (λ k. k ≤ place) number above in
    let test : nat_le (len m) place ≡ true = grind (arith, nat_tests) in
    ap (λ b. cond b (Some (refusal.Range (len m))) None) test ∙ ap (λ k. Some (refusal.Range k)) (sym number)

module _ (m : Map) (start count : ℕ) where
  pub chunk-told : (r : Reply) → start < len m → r ≡ reply.Chunk (length (chunk_entries m start count)) (honest_chunk m start count).depth (length (honest_chunk m start count).siblings)
      → (r, chunk_lines (chunk_entries m start count) (honest_chunk m start count)) ≡ question_reply (question.Chunk start count) m
  chunk-told r within is = ap (λ (x : Reply). (x, chunk_lines (chunk_entries m start count) (honest_chunk m start count))) is ∙ sym (question_reply-free (question.Chunk start count) m (in_range m start within))

  pub chunk-beyond : (n : ℕ) → n ≡ len m → n ≤ start → (reply.No (refusal.Range n), []) ≡ question_reply (question.Chunk start count) m
  chunk-beyond n number above = sym (question_reply-refused (question.Chunk start count) m (refusal.Range n) (beyond m start n number above))

-- the entry that was found at a place is the one that is returned
some_at : {A : Type 0} (xs : List A) (place : ℕ) (x d : A) → slice_get xs place ≡ Some x → slice_index_or xs place d ≡ x
some_at [] place x d there = absurd (cc)
some_at (y ∷ xs) zero x d there = cc
some_at (y ∷ xs) (suc place) x d there = some_at xs place x d there

module _ (m : Map) (place : ℕ) where
  pub nth-told : (key value : List ℕ) (x : Result Reply Stop) → true ≡ nat_lt place (len m) → Some (key, value) ≡ slice_get (entries m) place → IfOk x (λ y. y ≡ reply.Nth key value) → IfErr x (λ why. IsReplyTo (question.Nth place) m (Err why)) → IsReplyTo (question.Nth place) m x
  nth-told key value (Ok y) within at_place is memory =
      let e : entry_at m place ≡ (key, value) = some_at (entries m) place (key, value) ([], []) (sym at_place) in
      ap (λ (z : Reply). (z, [])) (is ∙ ap (λ (x : List ℕ × List ℕ). reply.Nth x.0 x.1) (sym e)) ∙ sym (question_reply-free (question.Nth place) m (in_range m place (ltb-true place (len m) (sym within))))
  nth-told key value (Err why) within at_place is memory = memory

  pub nth-beyond : (n : ℕ) → false ≡ nat_lt place (len m) → n ≡ len m → (reply.No (refusal.Range n), []) ≡ question_reply (question.Nth place) m
  nth-beyond n above number =
      let high : len m ≤ place = ltb-false place (len m) (sym above) in
      sym (question_reply-refused (question.Nth place) m (refusal.Range n) (beyond m place n number (subst (λ k. k ≤ place) (sym number) high)))
