-- Cutting off the entries with one nibble by the place where they end.
use Rattle.std.specs.Prelude.{nat_le}
use Rattle.std.proofs.Common.{◌≡◌, ℕ, true, false, cond, ◌==◌, List, [], ◌∷◌, refl, arith, ◌≤◌, zero, suc, ◌+◌, ◌++◌, take, drop, ap, ◌∙◌, subst}
use Rattle.std.proofs.lemmas.Bool.Decides.{nat_tests}
use Rattle.std.specs.List.{AllByRecursion}
use Rattle.jf_path.specs.Nibbles.{nibble}
use Rattle.jf_hash.specs.Slots.{with_nibble, from_nibble}
use Rattle.jf_model.specs.Parts.{IsPieceEnd, IsPartUnder}
use Rattle.jf_walk.proofs.PartLaws.{from_nibble-split}

module _ {X : Type 0} where
  all_at : (d n : ℕ) (es : List (List ℕ × X)) → AllByRecursion (λ e. nibble e.0 d ≡ n) (with_nibble d n es)
  all_at d n [] = tt
  all_at d n (e ∷ es) =
      elim (nibble e.0 d == n) as (λ b. (nibble e.0 d == n) ≡ b → AllByRecursion (λ e. nibble e.0 d ≡ n) (cond b (e ∷ with_nibble d n es) (with_nibble d n es))) [
        | true ↦ λ is. (grind (arith, nat_tests), all_at d n es)
        | false ↦ λ is. all_at d n es
      ] refl

  all_from : (d n : ℕ) (es : List (List ℕ × X)) → AllByRecursion (λ e. n ≤ nibble e.0 d) (from_nibble d n es)
  all_from d n [] = tt
  all_from d n (e ∷ es) =
      elim (nat_le n (nibble e.0 d)) as (λ b. nat_le n (nibble e.0 d) ≡ b → AllByRecursion (λ e. n ≤ nibble e.0 d) (cond b (e ∷ from_nibble d n es) (from_nibble d n es))) [
        | true ↦ λ is. (grind (arith, nat_tests), all_from d n es)
        | false ↦ λ is. all_from d n es
      ] refl

  cut : (d n r : ℕ) (xs ys : List (List ℕ × X)) → IsPieceEnd d n r (xs ++ ys) → AllByRecursion (λ e. nibble e.0 d ≡ n) xs → AllByRecursion (λ e. n + 1 ≤ nibble e.0 d) ys → (take r (xs ++ ys) ≡ xs) × (drop r (xs ++ ys) ≡ ys)
  cut d n zero [] ys end all none = (refl, refl)
  cut d n (suc r) [] [] end all none = absurd (let w = end.within in omega arith)
  cut d n (suc r) [] (y ∷ ys) end all none = absurd (let e = end.before 0 y (omega arith) in let f = none.0 in omega arith)
  cut d n zero (x ∷ xs) ys end all none = absurd (end.at x (omega arith) all.0)
  cut d n (suc r) (x ∷ xs) ys end all none =
      let w = end.within in
      let rest = cut d n r xs ys (record { within = omega arith; before = λ k y lt. end.before (suc k) y (omega arith); at = λ y lt. end.at y (omega arith) }) all.1 none in
      (ap (λ t. x ∷ t) rest.0, rest.1)

  -- the first r entries are all those with the nibble, and the rest are those from the next nibble on
  pub cut_piece : (d n r : ℕ) (path : ℕ → ℕ) (all rest : List (List ℕ × X)) → IsPartUnder d path all → rest ≡ from_nibble d n all → IsPieceEnd d n r rest → (take r rest ≡ with_nibble d n all) × (drop r rest ≡ from_nibble d (n + 1) all)
  cut_piece d n r path all rest part is end =
      let e = is ∙ from_nibble-split d n path all part in
      let both = cut d n r (with_nibble d n all) (from_nibble d (n + 1) all) (subst (IsPieceEnd d n r) e end) (all_at d n all) (all_from d (n + 1) all) in
      (ap (take r) e ∙ both.0, ap (drop r) e ∙ both.1)
