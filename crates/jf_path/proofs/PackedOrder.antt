-- Packed paths compare as their nibbles do.
use Rattle.std.proofs.Common.{◌≡◌, ℕ, zero, suc, ◌*◌, ◌-◌, ◌/◌, ◌%◌, ◌<◌, ◌≤◌, List, [], ◌∷◌, ◌++◌, length, take, get_or, replicate, refl, sym, ap, ap₂, ◌∙◌, arith, Bool, true, false, ◌&&◌, ◌||◌, ◌==◌, Ordering, Less, Equal, Greater, is_eq, nat_cmp, eq-eqb}
use Rattle.std.proofs.lemmas.Bool.{ne_eqb}
use Rattle.std.specs.Ordering.{ordering_then}
use Rattle.std.specs.Cmp.{unsigned_ties}
use Rattle.std.specs.Cmp.Lexicographic.{slice_cmp, pointwise, texts_ties}
use Rattle.std.proofs.lemmas.Bool.Decides.{nat_tests}
use Rattle.std.proofs.lemmas.Cmp.{tied_itself, nat_list_cmp_total}
use Rattle.std.proofs.Math.Bool.{and-false, and_assoc}
use Rattle.std.proofs.lemmas.List.{length-append, length-replicate, length-take, take-take}
use Rattle.std.specs.List.{starts_with}
use Rattle.jf_path.proofs.BoolLaws.{and_true}
use Rattle.jf_path.proofs.OrderLaws.{nat_less, nat_greater}
use Rattle.jf_path.specs.PackedPath.{ArePackedNibbles, kept_count, kept_halves}
use Rattle.jf_path.specs.NameLaws.{both_ties}
use Rattle.jf_path.specs.Paths.{halves}

-- a byte is ordered by its high half and then by its low half
cmp_by_halves : (x y : ℕ) (o : Ordering) → ordering_then (nat_cmp (x / 16) (y / 16)) (ordering_then (nat_cmp (x % 16) (y % 16)) o) ≡ ordering_then (nat_cmp x y) o
cmp_by_halves x y o = grind (arith, nat_tests)

cmp-halves : (xs ys : List ℕ) → slice_cmp nat_cmp (halves xs) (halves ys) ≡ slice_cmp nat_cmp xs ys
cmp-halves [] [] = refl
cmp-halves [] (y ∷ ys) = refl
cmp-halves (x ∷ xs) [] = refl
cmp-halves (x ∷ xs) (y ∷ ys) =
    ap (λ o. ordering_then (nat_cmp (x / 16) (y / 16)) (ordering_then (nat_cmp (x % 16) (y % 16)) o)) (cmp-halves xs ys) ∙ cmp_by_halves x y (slice_cmp nat_cmp xs ys)

-- a list with zeros after it, n in all
abbrev padded : ℕ → List ℕ → List ℕ
padded n xs = xs ++ replicate (n - length xs) 0

-- no list comes before as many zeros
zeros_first : (n : ℕ) (xs : List ℕ) → length xs ≡ n → ordering_then (slice_cmp nat_cmp (replicate n 0) xs) Less ≡ Less
zeros_first zero [] long = refl
zeros_first zero (x ∷ xs) long = refl
zeros_first (suc n) [] long = absurd (omega arith)
zeros_first (suc n) (zero ∷ xs) long = zeros_first n xs (omega arith)
zeros_first (suc n) (suc x ∷ xs) long = ap (λ o. ordering_then (ordering_then o (slice_cmp nat_cmp (replicate n 0) xs)) Less) (nat_less 0 (suc x) (omega arith))

-- as many zeros come after no list
zeros_last : (n : ℕ) (xs : List ℕ) → length xs ≡ n → ordering_then (slice_cmp nat_cmp xs (replicate n 0)) Greater ≡ Greater
zeros_last zero [] long = refl
zeros_last zero (x ∷ xs) long = refl
zeros_last (suc n) [] long = absurd (omega arith)
zeros_last (suc n) (zero ∷ xs) long = zeros_last n xs (omega arith)
zeros_last (suc n) (suc x ∷ xs) long = ap (λ o. ordering_then (ordering_then o (slice_cmp nat_cmp xs (replicate n 0))) Greater) (nat_greater (suc x) 0 (omega arith))

length-padded : (n : ℕ) (xs : List ℕ) → length xs ≤ n → length (padded n xs) ≡ n
length-padded n xs le = omega (arith, length-append xs (replicate (n - length xs) 0), length-replicate {A = ℕ} (n - length xs) 0)

then-then : (a b c : Ordering) → ordering_then (ordering_then a b) c ≡ ordering_then a (ordering_then b c)
then-then Less b c = refl
then-then Equal b c = refl
then-then Greater b c = refl

nat_cmp-suc : (n m : ℕ) → nat_cmp (suc n) (suc m) ≡ nat_cmp n m
nat_cmp-suc n m = grind (arith, nat_tests)

padded-cons : (n x : ℕ) (xs : List ℕ) → padded (suc n) (x ∷ xs) ≡ x ∷ padded n xs
padded-cons n x xs = ap (λ k. x ∷ (xs ++ replicate k 0)) (omega arith)

-- lists with zeros after them, and then their lengths, compare as the lists do
cmp-padded : (n : ℕ) (xs ys : List ℕ) → length xs ≤ n → length ys ≤ n → ordering_then (slice_cmp nat_cmp (padded n xs) (padded n ys)) (nat_cmp (length xs) (length ys)) ≡ slice_cmp nat_cmp xs ys
cmp-padded n [] [] lx ly = ap (λ o. ordering_then o Equal) (tied_itself nat_list_cmp_total (padded n []))
cmp-padded n [] (y ∷ ys) lx ly =
    ap₂ (λ k o. ordering_then (slice_cmp nat_cmp (replicate k 0) (padded n (y ∷ ys))) o) (let e : n - 0 ≡ n = omega arith in e) (nat_less 0 (suc (length ys)) (omega arith))
    ∙ zeros_first n (padded n (y ∷ ys)) (length-padded n (y ∷ ys) ly)
cmp-padded n (x ∷ xs) [] lx ly =
    ap₂ (λ k o. ordering_then (slice_cmp nat_cmp (padded n (x ∷ xs)) (replicate k 0)) o) (let e : n - 0 ≡ n = omega arith in e) (nat_greater (suc (length xs)) 0 (omega arith))
    ∙ zeros_last n (padded n (x ∷ xs)) (length-padded n (x ∷ xs) lx)
cmp-padded zero (x ∷ xs) (y ∷ ys) lx ly = absurd (omega arith)
cmp-padded (suc n) (x ∷ xs) (y ∷ ys) lx ly =
    ap₂ (λ us vs. ordering_then (slice_cmp nat_cmp us vs) (nat_cmp (suc (length xs)) (suc (length ys)))) (padded-cons n x xs) (padded-cons n y ys)
    ∙ then-then (nat_cmp x y) (slice_cmp nat_cmp (padded n xs) (padded n ys)) (nat_cmp (suc (length xs)) (suc (length ys)))
    ∙ ap (ordering_then (nat_cmp x y))
    (ap (ordering_then (slice_cmp nat_cmp (padded n xs) (padded n ys))) (nat_cmp-suc (length xs) (length ys)) ∙ cmp-padded n xs ys (omega arith) (omega arith))

module _ (n m : ℕ) (xs ys : List ℕ) (kept_x : ArePackedNibbles n xs) (kept_y : ArePackedNibbles m ys) where
  -- the bytes and then the counts
  pub kept_cmp : ordering_then (slice_cmp nat_cmp xs ys) (nat_cmp n m) ≡ slice_cmp nat_cmp (take n (halves xs)) (take m (halves ys))
  kept_cmp =
      let nibbles_x = take n (halves xs) in
      let nibbles_y = take m (halves ys) in
      let count_x = kept_count n xs kept_x in
      let count_y = kept_count m ys kept_y in
      let whole_x : padded 64 nibbles_x ≡ halves xs = ap (λ k. nibbles_x ++ replicate (64 - k) 0) count_x ∙ kept_halves n xs kept_x in
      let whole_y : padded 64 nibbles_y ≡ halves ys = ap (λ k. nibbles_y ++ replicate (64 - k) 0) count_y ∙ kept_halves m ys kept_y in
      let short_x = kept_x.short in
      let short_y = kept_y.short in
      ap₂ ordering_then (sym (cmp-halves xs ys) ∙ ap₂ (slice_cmp nat_cmp) (sym whole_x) (sym whole_y)) (ap₂ nat_cmp (sym count_x) (sym count_y))
      ∙ cmp-padded 64 nibbles_x nibbles_y (omega arith) (omega arith)

  pub kept_same : (pointwise (λ a b. a == b) xs ys && (n == m)) ≡ pointwise (λ a b. a == b) (take n (halves xs)) (take m (halves ys))
  kept_same =
      both_ties (pointwise (λ a b. a == b) xs ys) (n == m) (slice_cmp nat_cmp xs ys) (nat_cmp n m) (texts_ties xs ys) (unsigned_ties n m)
      ∙ ap is_eq kept_cmp ∙ sym (texts_ties (take n (halves xs)) (take m (halves ys)))

abbrev same : List ℕ → List ℕ → Bool
same = pointwise (λ n m. n == m)

byte_tests : (x y : ℕ) (r : Bool) → ((x / 16 == y / 16) && ((x % 16 == y % 16) && r)) ≡ ((x == y) && r)
byte_tests x y true = grind (arith, nat_tests)
byte_tests x y false = grind (arith, nat_tests)

-- n nibbles are the same: the whole bytes, and for an odd n the next high half
pub same_front : (n : ℕ) (xs ys : List ℕ) → n ≤ 2 * length xs → n ≤ 2 * length ys
    → same (take n (halves xs)) (take n (halves ys)) ≡ (same (take (n / 2) xs) (take (n / 2) ys) && ((n % 2 == 0) || (get_or xs (n / 2) 0 / 16 == get_or ys (n / 2) 0 / 16)))
same_front zero xs ys lx ly = refl
same_front (suc n) [] ys lx ly = absurd (omega arith)
same_front (suc n) (x ∷ xs) [] lx ly = absurd (omega arith)
same_front (suc zero) (x ∷ xs) (y ∷ ys) lx ly = and_true (x / 16 == y / 16)
same_front (suc (suc n)) (x ∷ xs) (y ∷ ys) lx ly =
    let half : suc (suc n) / 2 ≡ suc (n / 2) = omega arith in
    let rest : suc (suc n) % 2 ≡ n % 2 = omega arith in
    rw (half, rest)
    (ap (λ r. (x / 16 == y / 16) && ((x % 16 == y % 16) && r)) (same_front n xs ys (omega arith) (omega arith))
    ∙ byte_tests x y _
    ∙ sym (and_assoc (x == y) (same (take (n / 2) xs) (take (n / 2) ys)) _))

shorter_differs : (xs ys : List ℕ) → length ys < length xs → same xs ys ≡ false
shorter_differs [] ys lt = absurd (omega arith)
shorter_differs (x ∷ xs) [] lt = refl
shorter_differs (x ∷ xs) (y ∷ ys) lt = ap (λ r. (x == y) && r) (shorter_differs xs ys (omega arith)) ∙ and-false (x == y)

-- xs keep the n nibbles in front, and ys the m nibbles of the path
module _ (n m : ℕ) (xs ys : List ℕ) (kept_x : ArePackedNibbles n xs) (kept_y : ArePackedNibbles m ys) where
  front_x : length (take n (halves xs)) ≡ n
  front_x = kept_count n xs kept_x

  abbrev whole : Bool
  whole = same (take (n / 2) xs) (take (n / 2) ys)

  abbrev next : Bool
  next = get_or xs (n / 2) 0 / 16 == get_or ys (n / 2) 0 / 16

  begins_by_bytes : n ≤ m → (whole && ((n % 2 == 0) || next)) ≡ starts_with (λ a b. a == b) (take m (halves ys)) (take n (halves xs))
  begins_by_bytes le =
      let short = kept_y.short in
      let long_x = kept_x.long in
      let long_y = kept_y.long in
      sym
      (ap (λ k. same (take n (halves xs)) (take k (take m (halves ys)))) front_x
      ∙ ap (same (take n (halves xs))) (take-take n m (halves ys) le)
      ∙ same_front n xs ys (omega arith) (omega arith))

  pub begins_even : n ≤ m → true ≡ whole → n % 2 ≡ 0 → (n % 2 == 0) ≡ starts_with (λ a b. a == b) (take m (halves ys)) (take n (halves xs))
  begins_even le same_bytes even =
      let is : (n % 2 == 0) ≡ true = eq-eqb (n % 2) 0 even in
      is ∙ sym (ap (λ e. e || next) is) ∙ ap (λ w. w && ((n % 2 == 0) || next)) same_bytes ∙ begins_by_bytes le

  pub begins_odd : n ≤ m → true ≡ whole → (n % 2 ≡ 0 → ⊥) → next ≡ starts_with (λ a b. a == b) (take m (halves ys)) (take n (halves xs))
  begins_odd le same_bytes odd =
      sym (ap (λ e. e || next) (ne_eqb (n % 2) 0 odd)) ∙ ap (λ w. w && ((n % 2 == 0) || next)) same_bytes ∙ begins_by_bytes le

  pub begins_otherwise : n ≤ m → false ≡ whole → false ≡ starts_with (λ a b. a == b) (take m (halves ys)) (take n (halves xs))
  begins_otherwise le other = ap (λ w. w && ((n % 2 == 0) || next)) other ∙ begins_by_bytes le

  pub begins_short : m < n → false ≡ starts_with (λ a b. a == b) (take m (halves ys)) (take n (halves xs))
  begins_short lt =
      sym
      (shorter_differs (take n (halves xs)) (take (length (take n (halves xs))) (take m (halves ys)))
      (omega (arith, front_x, kept_count m ys kept_y, length-take (length (take n (halves xs))) (take m (halves ys)))))
