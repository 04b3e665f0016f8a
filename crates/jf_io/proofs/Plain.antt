-- The front of bytes up to their first line feed.
use Rattle.std.proofs.Common.{◌≡◌, ℕ, suc, ◌+◌, ◌<◌, ◌≤◌, true, false, cond, not, List, [], ◌∷◌, ◌++◌, take, length, refl, ap, ◌∙◌, subst, arith, le_refl, eqb-true, take_all}
use Rattle.std.specs.Prelude.{◌==◌}
use Rattle.std.specs.List.{position_or_len, before_first, after_first}
use Rattle.std.proofs.lemmas.List.Sums.{split_at_first, passes_at_first}
use Rattle.jf_io.specs.LineReader.{is_line_feed}
use Rattle.jf_io.specs.Inputs.{IsPlain}

pub place_le : (xs : List ℕ) → position_or_len is_line_feed xs ≤ length xs
place_le [] = omega arith
place_le (b ∷ bs) = elim (b == 10) as (λ t. cond (not t) (1 + position_or_len is_line_feed bs) 0 ≤ suc (length bs)) [ true ↦ omega arith | false ↦ let l = place_le bs in omega arith ]

pub front_plain : (xs : List ℕ) → IsPlain (before_first is_line_feed xs)
front_plain [] = tt
front_plain (b ∷ bs) =
    elim (b == 10) as (λ t. (b == 10) ≡ t → IsPlain (take (cond (not t) (1 + position_or_len is_line_feed bs) 0) (b ∷ bs))) [
      | true ↦ λ e. tt
      | false ↦ λ e. let more : suc (position_or_len is_line_feed bs) ≡ 1 + position_or_len is_line_feed bs = omega arith in
          subst (λ (n : ℕ). IsPlain (take n (b ∷ bs))) more (e, front_plain bs)
    ] refl

pub front_split : (xs : List ℕ) → position_or_len is_line_feed xs < length xs → xs ≡ before_first is_line_feed xs ++ 10 ∷ after_first is_line_feed xs
front_split xs lt =
    split_at_first is_line_feed xs 0 lt ∙ ap (λ b. before_first is_line_feed xs ++ b ∷ after_first is_line_feed xs) (eqb-true _ _ (passes_at_first is_line_feed xs 0 lt))

pub front_whole : (xs : List ℕ) → position_or_len is_line_feed xs ≡ length xs → before_first is_line_feed xs ≡ xs
front_whole xs e = ap (λ n. take n xs) e ∙ take_all (length xs) xs (le_refl (length xs))

pub held_plain : (xs : List ℕ) → position_or_len is_line_feed xs ≡ length xs → IsPlain xs
held_plain xs e = subst IsPlain (front_whole xs e) (front_plain xs)
