-- An input has the same verdicts judged as a whole and line by line.
use Rattle.std.proofs.Common.{ℕ, ◌+◌, List, ◌++◌, ◌≡◌, drop, ◌-◌, ◌∷◌, ap, ◌∙◌, arith, sym, [], Option, Some, None, Ok, Err, refl, suc, zero, ◌≤◌, length, length-drop}
use Rattle.std.proofs.lemmas.List.{drop_all}
use Rattle.jf_io.specs.Lines.{lines}
use Rattle.jf_blocks.specs.Reading.{LinePlace, ReadResult, line_read, proof_block}
use Rattle.jf_blocks.proofs.Bounds.{IsCounted, proof_block-counted}
use Rattle.jf_many_blocks.specs.ManyReading.{many_body}
use Rattle.jf_many_blocks.proofs.ManyBounds.{many_body-counted}
use Rattle.jf_verify.specs.Openings.{opening_of}
use Rattle.jf_verify.specs.declared.opening.Opening.{Opening}
use Rattle.jf_verify.specs.declared.opening.Opening.TheVariants as opening
use Rattle.jf_verify.specs.Steps.{said_to_end, keeps, no_match, line_step, begins, many_begins, first_step, StreamState, first_stream_state}
use Rattle.jf_verify.specs.Verdicts.{BlockAnswer, Judging, say_block, say_many, wrong_at, verdicts_from, say, verdicts, nothing_known}
use Rattle.jf_verify.specs.Laws.{VerdictsComeLineByLine}
use Rattle.jf_verify.specs.declared.stage.Stage.TheVariants as stage
use Rattle.jf_verify.proofs.KeptLaws.{kept_from}
use Rattle.jf_verify.proofs.LineRead.{knowledge_of, goes, goes_from, wrong_goes_on}
use Rattle.jf_verify.proofs.ProofRead.{block_reads}
use Rattle.jf_verify.proofs.ManyRead.{many_reads}

-- ---- all of the input
said_left : {Y : Type 0} (answer : ReadResult Y → BlockAnswer) (j : Judging) (at : ℕ) (line : List ℕ) (ls : List (List ℕ)) → ((e : ℕ) → answer (Err e) ≡ wrong_at e j (record { at = at; left = line ∷ ls })) → ((x : Y) (q : LinePlace) → (answer (Ok (x, q))).place ≡ q)
    → (n : ℕ) (r : ReadResult Y) → IsCounted (record { at = at + 1; left = ls }) r → length ls ≤ n → length (answer r).place.left ≤ n
said_left answer j at line ls wrong after n (Ok r) h few = let low = h.0 in let same = h.1 in rw (after r.0 r.1) (omega arith)
said_left answer j at line ls wrong after n (Err e) h few = rw (wrong e) (omega (arith, length-drop (e + 1 - at) (line ∷ ls)))

module _ (n : ℕ) (others : (j : Judging) (at : ℕ) (left : List (List ℕ)) → length left ≤ n → verdicts_from n j (record { at = at; left = left }) ≡ said_to_end (record { at = at; known = knowledge_of j; stage = stage.Between }) left) where
  said_goes : (s : BlockAnswer) → length s.place.left ≤ n → s.text ++ verdicts_from n s.known s.place ≡ goes_from s
  said_goes s few = ap (λ t. s.text ++ t) (others s.known s.place.at s.place.left few)

  wrong_first : (j : Judging) (at : ℕ) (line : List ℕ) (ls : List (List ℕ)) → length ls ≤ n
      → (let s = wrong_at at j (record { at = at; left = line ∷ ls }) in s.text ++ verdicts_from n s.known s.place) ≡ goes (keeps (knowledge_of j) (no_match at)) at ls
  wrong_first j at line ls few =
      let start : at ≡ at + 0 = omega arith in
      said_goes (wrong_at at j (record { at = at; left = line ∷ ls })) (omega (arith, length-drop (at + 1 - at) (line ∷ ls)))
      ∙ wrong_goes_on j (record { at = at; left = line ∷ ls }) at line ls (0, start, refl)

  first_goes : (j : Judging) (at : ℕ) (line : List ℕ) (ls : List (List ℕ)) → length ls ≤ n → (o : Option Opening)
      → (let s = say j (record { at = at; left = line ∷ ls }) (record { at = at + 1; left = ls }) o in s.text ++ verdicts_from n s.known s.place) ≡ goes (first_step at (knowledge_of j) o) at ls
  first_goes j at line ls few None = wrong_first j at line ls few
  first_goes j at line ls few (Some (opening.Root root)) =
      said_goes (record { text = []; known = record { root = Some root; claims = j.claims }; place = record { at = at + 1; left = ls } }) few
  first_goes j at line ls few (Some (opening.Proof k)) =
      let p : LinePlace = record { at = at; left = line ∷ ls } in
      let q : LinePlace = record { at = at + 1; left = ls } in
      let start : at + 1 ≡ at + 1 = refl in
      elim j.root as (λ o. (let s : BlockAnswer = elim o [ None ↦ wrong_at at j p | Some root ↦ say_block root j p (proof_block k q) ] in s.text ++ verdicts_from n s.known s.place) ≡ goes (keeps (knowledge_of j) (begins at k o)) at ls) [
        | None ↦ wrong_first j at line ls few
        | Some root ↦ said_goes (say_block root j p (proof_block k q)) (said_left (say_block root j p) j at line ls (λ e. refl) (λ b t. refl) n (proof_block k q) (proof_block-counted k q) few) ∙ sym (block_reads k root j p (at + 1) ls (1, start, refl))
      ]
  first_goes j at line ls few (Some (opening.Many head)) =
      let p : LinePlace = record { at = at; left = line ∷ ls } in
      let q : LinePlace = record { at = at + 1; left = ls } in
      let start : at + 1 ≡ at + 1 = refl in
      elim j.root as (λ o. (let s : BlockAnswer = elim o [ None ↦ wrong_at at j p | Some root ↦ say_many root j p (many_body head q) ] in s.text ++ verdicts_from n s.known s.place) ≡ goes (keeps (knowledge_of j) (many_begins at head o)) at ls) [
        | None ↦ wrong_first j at line ls few
        | Some root ↦ said_goes (say_many root j p (many_body head q)) (said_left (say_many root j p) j at line ls (λ e. refl) (λ b t. refl) n (many_body head q) (many_body-counted head q) few) ∙ sym (many_reads head root j p at ls (1, start, refl))
      ]

verdicts_from-said_to_end : (n : ℕ) (j : Judging) (at : ℕ) (left : List (List ℕ)) → length left ≤ n → verdicts_from n j (record { at = at; left = left }) ≡ said_to_end (record { at = at; known = knowledge_of j; stage = stage.Between }) left
unfolding verdicts_from said_to_end line_step
verdicts_from-said_to_end zero j at [] few = refl
verdicts_from-said_to_end zero j at (line ∷ ls) few = absurd (omega arith)
verdicts_from-said_to_end (suc n) j at [] few = refl
verdicts_from-said_to_end (suc n) j at (line ∷ ls) few = first_goes n (verdicts_from-said_to_end n) j at line ls (omega arith) (line_read opening_of line)

pub verdicts-rest : VerdictsComeLineByLine
unfolding verdicts kept_from
verdicts-rest input = verdicts_from-said_to_end (length (lines input)) nothing_known 1 (lines input) (omega arith)

-- after the last line all verdicts are written
pub all_read : (before written text : List ℕ) (start : ℕ) (s : StreamState) → length text ≤ start → written ++ said_to_end s (lines (drop start text)) ≡ before ++ said_to_end first_stream_state (lines text)
    → written ++ said_to_end s [] ≡ before ++ verdicts text
unfolding lines
all_read before written text start s past so_far =
    let none : [] ≡ drop start text = sym (drop_all start text past) in
    ap (λ t. written ++ said_to_end s (lines t)) none ∙ so_far ∙ ap (λ t. before ++ t) (sym (verdicts-rest text))
