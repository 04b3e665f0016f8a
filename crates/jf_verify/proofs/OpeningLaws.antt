-- What a line between blocks says, by what it says as a first line of a proof and as that of a block of many claims.
use Rattle.std.proofs.Common.{◌≡◌, ℕ, true, false, cond, ◌&&◌, List, [], ◌∷◌, codes, Option, Some, None, option_and_then, option_map, refl, ap, ◌∙◌}
use Rattle.std.specs.Option.{is_some}
use Rattle.jf_text.specs.Words.{is_word, number, number_upto, hash_of, is_long, words}
use Rattle.jf_blocks.specs.Reading.{max_siblings, line_read, first_line_of, word_after}
use Rattle.jf_blocks.specs.declared.first.FirstLine.{FirstLine}
use Rattle.jf_blocks.specs.declared.first.FirstLine.TheVariants as first
use Rattle.jf_many_blocks.specs.ManyReading.{many_of}
use Rattle.jf_many_blocks.specs.declared.head.ManyHead.{ManyHead}
use Rattle.jf_verify.specs.Openings.{opening_from, opening_of}
use Rattle.jf_verify.specs.declared.opening.Opening.TheVariants as opening

pub line_read-opening_of : (line : List ℕ) → line_read opening_of line ≡ opening_from (line_read first_line_of line) (line_read many_of line)
line_read-opening_of line = elim (is_long line) as (λ t. cond t None (opening_of (words line)) ≡ opening_from (cond t None (first_line_of (words line))) (cond t None (many_of (words line)))) [ true ↦ refl | false ↦ refl ]

-- three words are no first line of a proof
three_words-first_line_of : (a b c : List ℕ) → first_line_of (a ∷ b ∷ c ∷ []) ≡ None
three_words-first_line_of a b c =
    elim (is_some (number a) && is_word b (codes "ok")) as (λ t.
    let ws : List (List ℕ) = cond t (c ∷ []) (a ∷ b ∷ c ∷ []) in
    elim (option_and_then hash_of (word_after (codes "root") ws)) as (λ o. Option FirstLine) [
      | Some root ↦ Some (first.Root root)
      | None ↦ option_map (λ n. first.Proof n) (option_and_then (number_upto max_siblings) (word_after (codes "proof") ws))
    ] ≡ None) [ true ↦ refl | false ↦ refl ]

-- the first line of a block of many claims is no other
pub many_of-opening_of : (ws : List (List ℕ)) (head : ManyHead) → many_of ws ≡ Some head → opening_of ws ≡ Some (opening.Many head)
many_of-opening_of [] head h = absurd cc
many_of-opening_of (w ∷ []) head h = absurd cc
many_of-opening_of (w ∷ a ∷ []) head h = absurd cc
many_of-opening_of (w ∷ a ∷ b ∷ []) head h = ap (λ o. opening_from o (many_of (w ∷ a ∷ b ∷ []))) (three_words-first_line_of w a b) ∙ ap (opening_from None) h
many_of-opening_of (w ∷ a ∷ b ∷ c ∷ ws) head h = absurd cc
