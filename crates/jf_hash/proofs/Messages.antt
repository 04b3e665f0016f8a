-- A message of a tag and two hashes, as it is laid out.
use borrow.Rule.Slice.PartMut.{put_mid}
use Rattle.std.specs.Prelude.{◌≡◌, ℕ, List, [], ◌∷◌, ◌++◌, length, replicate}
use Rattle.std.proofs.Common.{arith, ap, ap₂, ◌∙◌, length-append, drop-drop}
use Rattle.std.proofs.lemmas.List.{drop_all, append-nil}
use Rattle.std.proofs.lemmas.Slice.{take-put_mid}

pub laid_out : (tag : ℕ) (first second xs ys : List ℕ) → length first ≡ 32 → length second ≡ 32 → xs ≡ first → ys ≡ second → put_mid 33 32 (put_mid 1 32 (replicate 65 tag) xs) ys ≡ tag ∷ (first ++ second)
laid_out tag first second xs ys a b is_x is_y =
    ap₂ (λ xs ys. put_mid 33 32 (put_mid 1 32 (replicate 65 tag) xs) ys) is_x is_y
    ∙ ap₂ (λ front back. front ++ (second ++ back)) (take-put_mid 1 32 (replicate 65 tag) first 33 (omega (arith, a)) (omega arith)) (drop-drop 32 33 (put_mid 1 32 (replicate 65 tag) first) ∙ drop_all 65 (put_mid 1 32 (replicate 65 tag) first) (omega (arith, a, length-append (tag ∷ []) (first ++ replicate 32 tag), length-append first (replicate 32 tag))))
    ∙ ap (λ back. tag ∷ (first ++ back)) (append-nil second)
