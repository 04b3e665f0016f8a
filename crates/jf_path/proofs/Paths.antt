-- The bytes without a fault are those of paths.
use Rattle.std.proofs.Common.{Bool, [], ◌∷◌, Option, ◌≡◌, ℕ, List, ap₂, true, false, length, Some, refl, arith, ◌<◌, ltb, ◌+◌, ◌/◌, not, ap, ◌≤◌, ◌||◌, eq-eqb, ◌%◌, ◌&&◌, get_or, ◌==◌, None, inl, inr, zero, suc, ◌*◌, sym, ◌∙◌, take, length-take, drop}
use Rattle.std.proofs.lemmas.Bool.{lt-ltb, or_left, ne_eqb, or_right, le-ltb, cases_eq, ltb-false, eqb-true, not-false, or_parts}
use Rattle.jf_path.specs.declared.fault.PathFault.{PathFault}
use Rattle.jf_path.specs.declared.fault.PathFault.TheVariants.{Length, Padding}
use Rattle.jf_path.specs.Checks.{first_of}
use Rattle.jf_path.specs.Paths.{path_fault, has_padding, has_wrong_length, IsPath, packed_nibbles, path_bytes, halves}
use Rattle.jf_path.proofs.PathLaws.{length-packed, get_or-packed, packed-take-halves, length-halves, take-halves-packed}

-- the fault, from the tests for a wrong length and for padding
abbrev fault_by_tests : Bool → Bool → Option PathFault
fault_by_tests wrong padding = first_of ((wrong, Length) ∷ (padding, Padding) ∷ [])

by_tests : (bytes : List ℕ) (wrong padding : Bool) → has_wrong_length bytes ≡ wrong → has_padding bytes ≡ padding → path_fault bytes ≡ fault_by_tests wrong padding
unfolding path_fault
by_tests bytes wrong padding w p = ap₂ fault_by_tests w p

pub fault_of_none : (bytes : List ℕ) → length bytes ≡ 0 → path_fault bytes ≡ Some Length
fault_of_none [] none = by_tests [] true false refl refl
fault_of_none (b ∷ bytes) none = absurd (omega arith)

pub fault_of_count : (count : ℕ) (bytes : List ℕ) → 64 < count → path_fault (count ∷ bytes) ≡ Some Length
fault_of_count count bytes high = by_tests (count ∷ bytes) true (has_padding (count ∷ bytes)) (or_left (ltb 64 count) _ (lt-ltb 64 count high)) refl

pub fault_of_length : (count : ℕ) (bytes : List ℕ) → (length bytes ≡ (count + 1) / 2 → ⊥) → path_fault (count ∷ bytes) ≡ Some Length
fault_of_length count bytes wrong = by_tests (count ∷ bytes) true (has_padding (count ∷ bytes)) (or_right (ltb 64 count) _ (ap not (ne_eqb _ _ wrong))) refl

right_length : (count : ℕ) (bytes : List ℕ) → count ≤ 64 → length bytes ≡ (count + 1) / 2 → has_wrong_length (count ∷ bytes) ≡ false
right_length count bytes short long = ap₂ (λ a b. a || not b) (le-ltb 64 count short) (eq-eqb _ _ long)

pub fault_of_padding : (count : ℕ) (bytes : List ℕ) → count ≤ 64 → length bytes ≡ (count + 1) / 2 → count % 2 ≡ 1 → (get_or bytes (count / 2) 0 % 16 ≡ 0 → ⊥) → path_fault (count ∷ bytes) ≡ Some Padding
fault_of_padding count bytes short long odd low =
    by_tests (count ∷ bytes) false true (right_length count bytes short long) (ap₂ (λ a b. a && not b) (eq-eqb (count % 2) 1 odd) (ne_eqb _ _ low))

pub no_fault : (count : ℕ) (bytes : List ℕ) → count ≤ 64 → length bytes ≡ (count + 1) / 2 → (count % 2 ≡ 1 → get_or bytes (count / 2) 0 % 16 ≡ 0) → path_fault (count ∷ bytes) ≡ None
no_fault count bytes short long end =
    by_tests (count ∷ bytes) false false (right_length count bytes short long) (elim (cases_eq (count % 2) 1) [
      | inl odd ↦ ap₂ (λ a b. a && not b) (eq-eqb (count % 2) 1 odd) (eq-eqb _ _ (end odd))
      | inr even ↦ ap (λ a. a && not (get_or bytes (count / 2) 0 % 16 == 0)) (ne_eqb _ _ even)
    ])

past : (path : List ℕ) (k : ℕ) → length path ≤ k → get_or path k 0 ≡ 0
past [] k le = refl
past (n ∷ path) zero le = absurd (omega arith)
past (n ∷ path) (suc k) le = past path k (omega arith)

-- the bytes of a path have no fault
pub no_fault_in_path : (path : List ℕ) → IsPath path → path_fault (path_bytes path) ≡ None
unfolding path_bytes
no_fault_in_path path is =
    no_fault (length path) (packed_nibbles path) is.short (length-packed path) (λ odd.
    let end = past path (length path) (omega arith) in
    omega (arith, get_or-packed path (length path / 2) (2 * (length path / 2)) (length path) refl (omega arith)))

some_none : {X : Type 0} (x : X) → Some x ≡ None → ⊥
some_none x e = cc

-- bytes with a fault are the bytes of no path
pub refused_is_no_path : {G : Type 0} (bytes : List ℕ) (fault : PathFault) → path_fault bytes ≡ Some fault → (path : List ℕ) → IsPath path → bytes ≡ path_bytes path → G
refused_is_no_path bytes fault refused path is same = absurd (some_none fault (sym refused ∙ ap path_fault same ∙ no_fault_in_path path is))

-- bytes without a fault are the bytes of their nibbles
pub bytes_of_halves : (count : ℕ) (bytes : List ℕ) → length bytes ≡ (count + 1) / 2 → (count % 2 ≡ 1 → get_or bytes (count / 2) 0 % 16 ≡ 0) → count ∷ bytes ≡ path_bytes (take count (halves bytes))
unfolding path_bytes
bytes_of_halves count bytes long end =
    ap₂ (λ n (bs : List ℕ). n ∷ bs) (let l = length-take count (halves bytes) in omega (arith, length-halves bytes, l)) (sym (packed-take-halves count bytes long end))

-- a path with these bytes has their nibbles
pub path_of_halves : (count : ℕ) (bytes path : List ℕ) → IsPath path → count ∷ bytes ≡ path_bytes path → take count (halves bytes) ≡ path
unfolding path_bytes
path_of_halves count bytes path is same =
    let long : count ≡ length path = ap (λ (bs : List ℕ). get_or bs 0 0) same in
    let rest : bytes ≡ packed_nibbles path = ap (λ (bs : List ℕ). drop 1 bs) same in
    ap₂ (λ n (bs : List ℕ). take n (halves bs)) long rest ∙ take-halves-packed path is.nibbles

-- bytes without a fault: a count of at most 64, as many bytes as it needs, and no padding
pub record IsSoundPath (count : ℕ) (bytes : List ℕ) : Type 0 where
  pub short : count ≤ 64
  pub long : length bytes ≡ (count + 1) / 2
  pub end : count % 2 ≡ 1 → get_or bytes (count / 2) 0 % 16 ≡ 0

test_false : (a b : Bool) → fault_by_tests a b ≡ None → (a ≡ false) × (b ≡ false)
test_false true b e = absurd (some_none Length e)
test_false false true e = absurd (some_none Padding e)
test_false false false e = (refl, refl)

and_not_false : (a b : Bool) → (a && not b) ≡ false → a ≡ true → b ≡ true
and_not_false a true e is = refl
and_not_false true false e is = absurd cc
and_not_false false false e is = absurd cc

pub sound : (count : ℕ) (bytes : List ℕ) → path_fault (count ∷ bytes) ≡ None → IsSoundPath count bytes
unfolding path_fault
sound count bytes none =
    let tests = test_false (has_wrong_length (count ∷ bytes)) (has_padding (count ∷ bytes)) none in
    let first = or_parts (ltb 64 count) (not (length bytes == (count + 1) / 2)) tests.0 in
    let same : length bytes ≡ (count + 1) / 2 = eqb-true _ _ (not-false _ first.1) in
    record {
      short = ltb-false 64 count first.0;
      long = same;
      end = λ odd. eqb-true _ _ (and_not_false (count % 2 == 1) (get_or bytes (count / 2) 0 % 16 == 0) tests.1 (eq-eqb _ _ odd));
    }
