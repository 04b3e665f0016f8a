-- One line of a block, and the text that is said from it on.
use Rattle.std.proofs.Common.{ℕ, ◌+◌, List, ◌++◌, ◌≡◌, drop, ◌-◌, ◌∷◌, ap, ◌∙◌, arith, sym, [], Option, Some, None, Ok, Err, refl, suc, ◌==◌, false}
use Rattle.std.proofs.lemmas.Bool.Decides.{nat_tests}
use Rattle.std.proofs.lemmas.List.{drop-drop, append-nil, append_assoc}
use Rattle.jf_blocks.specs.Reading.{LinePlace, ReadResult, and_then, one_line_read, line_read, line_by, gives}
use Rattle.jf_verify.specs.Steps.{Knowledge, StreamStep, said_to_end, keeps, no_match, line_step, end_text}
use Rattle.jf_verify.specs.Verdicts.{BlockAnswer, Judging, wrong_at, syntax_text}
use Rattle.jf_verify.specs.declared.stage.Stage.{Stage}
use Rattle.jf_verify.specs.declared.stage.Stage.TheVariants as stage
use Rattle.jf_verify.proofs.KeptLaws.{kept_claims}

-- what is kept of what is known
abbrev pub knowledge_of : Judging → Knowledge
knowledge_of j = record { root = j.root; kept = kept_claims j.claims }

-- the text of a step, and then of the lines after it
abbrev pub goes : StreamStep → ℕ → List (List ℕ) → List ℕ
goes step at ls = step.text ++ said_to_end (record { at = at + 1; known = step.known; stage = step.stage }) ls

-- the text of an answer, and then of the lines after it
abbrev pub goes_from : BlockAnswer → List ℕ
goes_from s = s.text ++ said_to_end (record { at = s.place.at; known = knowledge_of s.known; stage = stage.Between }) s.place.left

-- ---- places after a first line
abbrev pub IsPlaceAfter : LinePlace → ℕ → List (List ℕ) → Type 0
IsPlaceAfter p at left = (k : ℕ) × (at ≡ p.at + k) × (left ≡ drop k p.left)

after_one : (k : ℕ) (xs : List (List ℕ)) (x : List ℕ) (ys : List (List ℕ)) → x ∷ ys ≡ drop k xs → ys ≡ drop (k + 1) xs
after_one k xs x ys e = ap (drop 1) e ∙ drop-drop 1 k xs

follows_more : (p : LinePlace) (at : ℕ) (line : List ℕ) (ls : List (List ℕ)) → IsPlaceAfter p at (line ∷ ls) → IsPlaceAfter p (at + 1) ls
follows_more p at line ls h = let e = h.1 in (h.0 + 1, omega arith, after_one h.0 p.left line ls h.2)

left_after : (p : LinePlace) (at : ℕ) (ls : List (List ℕ)) (k : ℕ) → at ≡ p.at + k → ls ≡ drop (k + 1) p.left → drop (at + 1 - p.at) p.left ≡ ls
left_after p at ls k e is = let n : at + 1 - p.at ≡ k + 1 = omega arith in ap (λ m. drop m p.left) n ∙ sym is

-- ---- a line that doesn't match
pub wrong_goes_on : (j : Judging) (p : LinePlace) (at : ℕ) (line : List ℕ) (ls : List (List ℕ)) → IsPlaceAfter p at (line ∷ ls) → goes_from (wrong_at at j p) ≡ goes (keeps (knowledge_of j) (no_match at)) at ls
wrong_goes_on j p at line ls h =
    let same : drop (at + 1 - p.at) p.left ≡ ls = left_after p at ls h.0 h.1 (after_one h.0 p.left line ls h.2) in
    ap (λ xs. syntax_text at ++ said_to_end (record { at = at + 1; known = knowledge_of j; stage = stage.Between }) xs) same

wrong_ends : (j : Judging) (p : LinePlace) (at : ℕ) → IsPlaceAfter p at [] → goes_from (wrong_at at j p) ≡ syntax_text at
unfolding said_to_end
wrong_ends j p at h =
    let none : [] ≡ drop (h.0 + 1) p.left = ap (drop 1) h.2 ∙ drop-drop 1 h.0 p.left in
    let same : drop (at + 1 - p.at) p.left ≡ [] = left_after p at [] h.0 h.1 none in
    ap (λ xs. syntax_text at ++ said_to_end (record { at = at + 1; known = knowledge_of j; stage = stage.Between }) xs) same ∙ append-nil (syntax_text at)

-- ---- one line of a block, of whose reading an answer is made
module _ {Y : Type 0} (answer : ReadResult Y → List ℕ) (j : Judging) (p : LinePlace) (wrong : (e : ℕ) → answer (Err e) ≡ goes_from (wrong_at e j p)) where
  pub by_line : {X : Type 0} (f : List (List ℕ) → Option X) (more : X → LinePlace → ReadResult Y) (step : Option X → StreamStep) (s : Stage) (at : ℕ) (left : List (List ℕ))
      → IsPlaceAfter p at left → end_text at s ≡ syntax_text at → ((line : List ℕ) → line_step at (knowledge_of j) s line ≡ step (line_read f line)) → step None ≡ keeps (knowledge_of j) (no_match at)
      → ((x : X) (ls : List (List ℕ)) → IsPlaceAfter p (at + 1) ls → goes (step (Some x)) at ls ≡ answer (more x (record { at = at + 1; left = ls })))
      → said_to_end (record { at = at; known = knowledge_of j; stage = s }) left ≡ answer (and_then (line_by f (record { at = at; left = left })) more)
  unfolding said_to_end
  by_line f more step s at [] follows ends steps none some = ends ∙ sym (wrong_ends j p at follows) ∙ sym (wrong at)
  by_line f more step s at (line ∷ ls) follows ends steps none some =
      ap (λ a. goes a at ls) (steps line)
      ∙ elim (line_read f line) as (λ o. goes (step o) at ls ≡ answer (and_then (one_line_read at ls o) more)) [
        | None ↦ ap (λ a. goes a at ls) none ∙ sym (wrong_goes_on j p at line ls follows) ∙ sym (wrong at)
        | Some x ↦ some x ls (follows_more p at line ls follows)
      ]

-- ---- lines of one sort
-- a line and then others, after those that were read before
pub lines_by-after : {X Y : Type 0} (r : ReadResult X) (rest : LinePlace → ReadResult (List X)) (give : List X → LinePlace → ReadResult Y) (front : List X)
    → and_then r (λ x q. and_then (rest q) (λ xs t. give ((front ++ x ∷ []) ++ xs) t)) ≡ and_then (and_then r (λ x q. and_then (rest q) (λ xs t. gives (x ∷ xs) t))) (λ xs t. give (front ++ xs) t)
lines_by-after (Err at) rest give front = refl
lines_by-after {X} {Y} (Ok r) rest give front =
    elim (rest r.1) as (λ (o : ReadResult (List X)). and_then o (λ xs t. give ((front ++ r.0 ∷ []) ++ xs) t) ≡ and_then (and_then o (λ xs t. gives (r.0 ∷ xs) t)) (λ xs t. give (front ++ xs) t)) [
      | Err at ↦ refl
      | Ok s ↦ ap (λ (xs : List X). give xs s.1) (append_assoc front (r.0 ∷ []) s.0)
    ]

-- a line more is still to come
pub some_left : (m : ℕ) → (suc m == 0) ≡ false
some_left m = grind (arith, nat_tests)
