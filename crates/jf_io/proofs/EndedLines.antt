-- Lines with their line feeds, and the bytes after them.
use Rattle.std.proofs.Common.{◌≡◌, ℕ, ◌+◌, List, [], ◌∷◌, ◌++◌, refl, sym, ap, ◌∙◌, append_assoc, cond, ◌<◌, length, arith}
use Rattle.std.specs.List.{AllByRecursion, onto_first}
use Rattle.jf_io.specs.Inputs.{text_of_lines, IsPlain}
use Rattle.jf_io.specs.Lines.{lines, whole_lines}
use Rattle.jf_io.proofs.WholeLines.{whole_lines-cons}

pub ended-more : (ls : List (List ℕ)) (l : List ℕ) → text_of_lines (ls ++ l ∷ []) ≡ text_of_lines ls ++ (l ++ 10 ∷ [])
ended-more [] l = refl
ended-more (k ∷ ls) l = ap (λ t. k ++ 10 ∷ t) (ended-more ls l) ∙ sym (append_assoc k (10 ∷ text_of_lines ls) (l ++ 10 ∷ []))

pub plain_more : (ls : List (List ℕ)) (l : List ℕ) → AllByRecursion IsPlain ls → IsPlain l → AllByRecursion IsPlain (ls ++ l ∷ [])
plain_more [] l a p = (p, tt)
plain_more (k ∷ ls) l a p = (a.0, plain_more ls l a.1 p)

-- ---- lines
pub lines-none : lines [] ≡ []
unfolding lines
lines-none = refl

pub lines_one : (l x : List ℕ) → IsPlain l → lines (l ++ 10 ∷ x) ≡ l ∷ lines x
unfolding lines
lines_one [] x p = refl
lines_one (b ∷ l) x p = ap (λ t. cond t ([] ∷ lines (l ++ 10 ∷ x)) (onto_first b (lines (l ++ 10 ∷ x)))) p.0 ∙ ap (onto_first b) (lines_one l x p.1)

-- a last line without a line feed
pub lines_last : (b : ℕ) (l : List ℕ) → IsPlain (b ∷ l) → lines (b ∷ l) ≡ (b ∷ l) ∷ []
unfolding lines
lines_last b [] p = ap (λ t. cond t ([] ∷ []) (onto_first b [])) p.0
lines_last b (c ∷ l) p = ap (λ t. cond t ([] ∷ lines (c ∷ l)) (onto_first b (lines (c ∷ l)))) p.0 ∙ ap (onto_first b) (lines_last c l p.1)

pub lines_front : (ls : List (List ℕ)) (x : List ℕ) → AllByRecursion IsPlain ls → lines (text_of_lines ls ++ x) ≡ ls ++ lines x
lines_front [] x p = refl
lines_front (l ∷ ls) x p = ap lines (append_assoc l (10 ∷ text_of_lines ls) x) ∙ lines_one l (text_of_lines ls ++ x) p.0 ∙ ap (λ t. l ∷ t) (lines_front ls x p.1)

-- an input whose last line has no line feed
pub last_lines : (ls : List (List ℕ)) (l : List ℕ) → AllByRecursion IsPlain ls → IsPlain l → 0 < length l → lines (text_of_lines ls ++ l) ≡ ls ++ l ∷ []
last_lines ls [] p q some = absurd (omega arith)
last_lines ls (b ∷ l) p q some = lines_front ls (b ∷ l) p ∙ ap (λ t. ls ++ t) (lines_last b l q)

-- ---- how many end with a line feed
whole_one : (l x : List ℕ) → IsPlain l → whole_lines (l ++ 10 ∷ x) ≡ 1 + whole_lines x
whole_one [] x p = whole_lines-cons 10 x
whole_one (b ∷ l) x p = whole_lines-cons b (l ++ 10 ∷ x) ∙ ap (λ t. cond t 1 0 + whole_lines (l ++ 10 ∷ x)) p.0 ∙ omega (arith, whole_one l x p.1)

pub whole_none : (l : List ℕ) → IsPlain l → whole_lines l ≡ 0
whole_none [] p = refl
whole_none (b ∷ l) p = whole_lines-cons b l ∙ ap (λ t. cond t 1 0 + whole_lines l) p.0 ∙ omega (arith, whole_none l p.1)

pub whole_front : (ls : List (List ℕ)) (x : List ℕ) → AllByRecursion IsPlain ls → whole_lines (text_of_lines ls ++ x) ≡ length ls + whole_lines x
whole_front [] x p = omega arith
whole_front (l ∷ ls) x p = ap whole_lines (append_assoc l (10 ∷ text_of_lines ls) x) ∙ whole_one l (text_of_lines ls ++ x) p.0 ∙ omega (arith, whole_front ls x p.1)
