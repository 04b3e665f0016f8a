-- If the numbers of a list don't fall, the elements with one number stand together as a run; here is where it ends.
use Rattle.std.proofs.Common.{◌≡◌, ℕ, ◌+◌, ◌-◌, ◌<◌, ◌≤◌, true, false, leb, List, length, get_or, drop, subst, arith, inl, inr, length-drop}
use Rattle.std.specs.List.{AllWithin, HoldsAt}
use Rattle.std.specs.List.Sorted.{IsNonDecreasingBy, IsPartitionPoint}
use Rattle.std.proofs.lemmas.Bool.{leb-true, leb-false, cases_lt}
use Rattle.std.proofs.lemmas.List.{get_or-drop}

-- the elements with the number t stand from place s up to place e
pub record IsRun {X : Type 0} (n : X → ℕ) (xs : List X) (s e t : ℕ) : Type 0 where
  pub behind : s < e
  pub within : e ≤ length xs
  pub nibble : AllWithin (λ x. n x ≡ t) xs s e
  pub other : AllWithin (λ x. t < n x) xs e (length xs)

module _ {X : Type 0} (n : X → ℕ) (xs : List X) (s m t : ℕ) where
  -- an element of the rest is an element of the list
  moved : (P : X → Type 0) (k : ℕ) (d : X) → s ≤ k → P (get_or (drop s xs) (k - s) d) → P (get_or xs k d)
  moved P k d le holds =
      let joins : s + (k - s) ≡ k = omega arith in
      subst (λ i. P (get_or xs i d)) joins (subst P (get_or-drop s xs (k - s) d) holds)

  -- the first elements of the rest whose numbers are no greater are the run
  pub IsRun-from_partition : X → IsNonDecreasingBy n xs → s < length xs → m ≤ length (drop s xs) → HoldsAt (λ x. n x ≡ t) xs s → IsPartitionPoint (λ y. leb (n y) t ≡ true) (λ y. leb (n y) t ≡ false) (drop s xs) m → IsRun n xs s (s + m) t
  IsRun-from_partition x rising lt le here parted =
      let long = length-drop s xs in
      record {
        behind = elim (cases_lt 0 m) [
          | inl some ↦ omega arith
          | inr none ↦ absurd (omega (arith, here x, leb-false (n (get_or xs s x)) t (moved (λ y. leb (n y) t ≡ false) s x (omega arith) (parted.1 (s - s) x (omega arith) (omega arith)))))
        ];
        within = omega arith;
        nibble = λ k d from to. omega (arith, here d, rising s k d from (omega arith), leb-true (n (get_or xs k d)) t (moved (λ y. leb (n y) t ≡ true) k d from (parted.0 (k - s) d (omega arith) (omega arith))));
        other = λ k d from to. leb-false (n (get_or xs k d)) t (moved (λ y. leb (n y) t ≡ false) k d (omega arith) (parted.1 (k - s) d (omega arith) (omega arith)));
      }
