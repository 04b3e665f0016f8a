-- What a line between blocks says: a root, a block, or nothing.
use Rattle.std.proofs.Common.{◌≡◌, ℕ, ◌+◌, ◌%◌, ◌^◌, ◌<◌, ◌≤◌, ◌&&◌, nat_lt, Bool, true, false, cond, List, [], ◌∷◌, Option, Some, None, option_map, option_and_then, bytes_eq, codes, decimal, refl, sym, ap, ◌∙◌, subst, arith}
use Rattle.std.proofs.lemmas.Bool.{ltb-true}
use Rattle.std.proofs.lemmas.Fmt.{decimal_by_steps}
use Rattle.std.proofs.lemmas.Slice.Eq.{bytes_eq-Decides}
use Rattle.std.specs.List.{AllByRecursion}
use Rattle.jf_path.proofs.ListLaws.{All-append}
use Rattle.jf_text.specs.Words.{words, is_long, is_word, number, number_upto, hash_of, digits_value}
use Rattle.jf_blocks.specs.Reading.{line_read, first_line_of, word_after}
use Rattle.jf_blocks.specs.declared.first.FirstLine.{FirstLine}
use Rattle.jf_blocks.specs.declared.first.FirstLine.TheVariants as first
use Rattle.jf_many_blocks.specs.ManyReading.{many_of, many_head_of}
use Rattle.jf_many_blocks.specs.declared.head.ManyHead.{ManyHead}
use Rattle.jf_verify.specs.Openings.{opening_from, opening_of}
use Rattle.jf_verify.proofs.OpeningLaws.{line_read-opening_of, many_of-opening_of}

-- what the words after `n ok` say of a root or a proof block
abbrev pub first_from : List (List ℕ) → Option FirstLine
first_from ws =
    elim (option_and_then hash_of (word_after (codes "root") ws)) [
      | Some root ↦ Some (first.Root root)
      | None ↦ option_map (λ n. first.Proof n) (option_and_then (number_upto 65535) (word_after (codes "proof") ws))
    ]

-- ---- lines that say something
-- a line that sets a root, or begins a proof block
pub opening-first : (line : List ℕ) (f : FirstLine) → line_read first_line_of line ≡ Some f → line_read opening_of line ≡ opening_from (Some f) (line_read many_of line)
opening-first line f e = line_read-opening_of line ∙ ap (λ (o : Option FirstLine). opening_from o (line_read many_of line)) e

-- a line that begins a block of many claims
pub opening-many : (line : List ℕ) (head : ManyHead) → line_read many_of line ≡ Some head → line_read opening_of line ≡ opening_from None (Some head)
opening-many line head = elim (is_long line) as (λ b. cond b None (many_of (words line)) ≡ Some head → cond b None (opening_of (words line)) ≡ opening_from None (Some head)) [
  | true ↦ λ e. absurd (cc)
  | false ↦ λ e. many_of-opening_of (words line) head e
]

-- ---- words that say nothing
-- words of which the first isn't `many` begin no block of many claims
many_of-other : (w : List ℕ) (ws : List (List ℕ)) → is_word w (codes "many") ≡ false → many_of (w ∷ ws) ≡ None
many_of-other w [] other = refl
many_of-other w (a ∷ []) other = refl
many_of-other w (a ∷ b ∷ []) other = ap (λ (t : Bool). option_and_then many_head_of (cond t (Some (a, b)) None)) other
many_of-other w (a ∷ b ∷ c ∷ ws) other = refl

-- words that set no root and begin no proof block, of which the first isn't `many`, say nothing
pub opening-none : (w : List ℕ) (ws : List (List ℕ)) → is_word w (codes "many") ≡ false → first_line_of (w ∷ ws) ≡ None → opening_of (w ∷ ws) ≡ None
opening-none w ws other none = ap (λ (o : Option FirstLine). opening_from o (many_of (w ∷ ws))) none ∙ ap (opening_from None) (many_of-other w ws other)

-- ---- numbers and words
decimal-digits : (n : ℕ) → n < 2 ^ 64 → AllByRecursion (λ b. b ≤ 57) (decimal n)
decimal-digits n small =
    decimal_by_steps (λ _ ds. AllByRecursion (λ b. b ≤ 57) ds)
    (λ m digit. (omega arith, tt))
    (λ m ds large so_far. All-append (λ b. b ≤ 57) ds ((48 + m % 10) ∷ []) so_far (omega arith, tt))
    n small

-- no number begins with a letter
decimal-letter : (n b : ℕ) (w : List ℕ) → n < 2 ^ 64 → 57 < b → decimal n ≡ b ∷ w → ⊥
decimal-letter n b w small letter is = let digits : AllByRecursion (λ c. c ≤ 57) (b ∷ w) = subst (AllByRecursion (λ c. c ≤ 57)) is (decimal-digits n small) in absurd (omega (arith, digits.0))

pub number-letter : (b : ℕ) (w : List ℕ) → 57 < b → number (b ∷ w) ≡ None
unfolding number
number-letter b w letter = by_tests (bytes_eq (b ∷ w) (decimal v)) (nat_lt v (2 ^ 64)) refl refl
  where
    v : ℕ
    v = digits_value (b ∷ w)

    by_tests : (s t : Bool) → bytes_eq (b ∷ w) (decimal v) ≡ s → nat_lt v (2 ^ 64) ≡ t → cond (s && t) (Some v) None ≡ None
    by_tests false t same small = refl
    by_tests true false same small = refl
    by_tests true true same small = absurd (decimal-letter v b w (ltb-true v (2 ^ 64) small) letter (sym ((bytes_eq-Decides (b ∷ w) (decimal v)).0 same)))

pub number-many : (n : ℕ) → n < 2 ^ 64 → is_word (decimal n) (codes "many") ≡ false
number-many n small = elim (is_word (decimal n) (codes "many")) as (λ b. is_word (decimal n) (codes "many") ≡ b → b ≡ false) [
  | false ↦ λ is. refl
  | true ↦ λ is. absurd (decimal-letter n 109 (codes "any") small (omega arith) ((bytes_eq-Decides (decimal n) (codes "many")).0 is))
] refl
