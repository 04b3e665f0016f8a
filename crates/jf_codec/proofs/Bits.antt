-- The bits of a bitmap are the nibbles of its children.
use lib.Count.{ones_step, ones}
use Rattle.std.proofs.Common.{ℕ, Bool, false, ◌||◌, ◌==◌, List, [], ◌∷◌, ◌≡◌, ◌+◌, ◌*◌, arith, ◌-◌, ◌^◌, ◌≤◌, ap, ◌∙◌, ◌<◌, refl, ap₂, zero, suc, pow-suc, inl, inr, sym, subst, eq-eqb, true, cond, ◌%◌, length, get_or, drop, ◌⊎◌, true≢false, min, bit_and, ◌/◌, count_ones}
use Rattle.std.proofs.lemmas.Bool.{ne_eqb, cases_eq, cases_lt, eqb-true}
use Rattle.std.proofs.lemmas.List.{drop_more}
use Rattle.std.proofs.lemmas.Nat.{pow-add, zero_from_ones}
use Rattle.std.proofs.lemmas.Nat.Bits.{bit_at-zero, bit_at-pow_same, bit_at-pow_other, bit_at_cat_low, bit_at_cat_high, bit_at-lt, same_from_bits_below, bit_at_and, same_from_bits}
use Rattle.std.specs.Int.{bit_at, is_power_of_two}
use Rattle.std.specs.List.{AllByRecursion}
use Rattle.jf_path.specs.declared.children.Child.{Child}
use Rattle.jf_path.specs.Nodes.{ChildrenRiseFrom}
use Rattle.jf_path.proofs.NodeLaws.{RiseFrom-weaker}
use Rattle.jf_path.proofs.BoolLaws.{or_true}
use Rattle.jf_codec.specs.Spelling.{bitmap, leaf_children}
use Rattle.jf_codec.specs.Reading.{has}

-- one of the children stands at nibble k
abbrev pub holds : List Child → ℕ → Bool
holds [] k = false
holds (c ∷ cs) k = (c.nibble == k) || holds cs k

times : (a b q r p : ℕ) → a ≡ q * p → b ≡ r * p → a + b ≡ (q + r) * p
times a b q r p ea eb = grind (arith, ea, eb)

split : (i n : ℕ) → i ≤ n → 2 ^ n ≡ 2 ^ (n - i) * 2 ^ i
split i n le = ap (λ k. 2 ^ k) (let e : n ≡ (n - i) + i = omega arith in e) ∙ pow-add 2 (n - i) i

again_times : (m p q r : ℕ) → p ≡ q * r → m * p ≡ (m * q) * r
again_times m p q r e = grind (arith, e)

-- children that rise from nibble i have no bit below i
pub multiple : (i : ℕ) (cs : List Child) → ChildrenRiseFrom i cs → (m : ℕ) × (bitmap cs ≡ m * 2 ^ i)
multiple i [] r = (0, omega arith)
multiple i (c ∷ cs) r =
    let t = multiple (c.nibble + 1) cs r.1 in
    let d = c.nibble + 1 - i in
    let le : i ≤ c.nibble + 1 = let l = r.0 in omega arith in (
      2 ^ (c.nibble - i) + t.0 * 2 ^ d,
      times (2 ^ c.nibble) (bitmap cs) (2 ^ (c.nibble - i)) (t.0 * 2 ^ d) (2 ^ i) (split i c.nibble r.0) (t.1 ∙ again_times t.0 (2 ^ (c.nibble + 1)) (2 ^ d) (2 ^ i) (split i (c.nibble + 1) le)),
    )

pub low_none : (i : ℕ) (cs : List Child) (k : ℕ) → ChildrenRiseFrom i cs → k < i → holds cs k ≡ false
low_none i [] k r lt = refl
low_none i (c ∷ cs) k r lt =
    ap₂ (λ a b. a || b) (ne_eqb c.nibble k (λ e. let l = r.0 in omega arith)) (low_none (c.nibble + 1) cs k r.1 (let l = r.0 in omega arith))

one_bit : (x k v : ℕ) → bit_at x k ≡ v → has x k ≡ (v == 1)
unfolding has
one_bit x k v e = ap (λ b. b == 1) e

pub positive : (j : ℕ) → 0 < 2 ^ j
positive zero = omega arith
positive (suc j) = let p = pow-suc 2 j in let q = positive j in omega arith

same_bit : (x y k : ℕ) → bit_at x k ≡ bit_at y k → has x k ≡ has y k
unfolding has
same_bit x y k e = ap (λ b. b == 1) e

pub has-holds : (i : ℕ) (cs : List Child) (k : ℕ) → ChildrenRiseFrom i cs → has (bitmap cs) k ≡ holds cs k
has-holds i [] k r = one_bit 0 k 0 (bit_at-zero k)
has-holds i (c ∷ cs) k r =
    let n = c.nibble in
    let t = multiple (n + 1) cs r.1 in
    let whole : bitmap (c ∷ cs) ≡ t.0 * 2 ^ (n + 1) + 2 ^ n = let e = t.1 in omega arith in
    elim (cases_lt k (n + 1)) [
      | inl lt ↦
          let low : bit_at (bitmap (c ∷ cs)) k ≡ bit_at (2 ^ n) k = ap (λ x. bit_at x k) whole ∙ bit_at_cat_low t.0 (n + 1) (2 ^ n) k lt in
          elim (cases_eq n k) [
            | inl same ↦ one_bit (bitmap (c ∷ cs)) k 1 (low ∙ ap (λ j. bit_at (2 ^ n) j) (sym same) ∙ bit_at-pow_same n) ∙ sym (ap (λ b. b || holds cs k) (eq-eqb n k same))
            | inr differ ↦
                one_bit (bitmap (c ∷ cs)) k 0 (low ∙ bit_at-pow_other n k (λ e. differ (sym e)))
                ∙ sym (ap₂ (λ a b. a || b) (ne_eqb n k differ) (low_none (n + 1) cs k r.1 lt))
          ]
      | inr ge ↦
          let small : 2 ^ n < 2 ^ (n + 1) = let p = pow-suc 2 n in let q = positive n in let s : n + 1 ≡ suc n = omega arith in subst (λ j. 2 ^ n < 2 ^ j) (sym s) (omega arith) in
          let high : bit_at (bitmap (c ∷ cs)) k ≡ bit_at t.0 (k - (n + 1)) = ap (λ x. bit_at x k) whole ∙ bit_at_cat_high t.0 (n + 1) (2 ^ n) k small ge in
          let rest : bit_at (bitmap cs) k ≡ bit_at t.0 (k - (n + 1)) = ap (λ x. bit_at x k) (let e = t.1 in let z : bitmap cs ≡ t.0 * 2 ^ (n + 1) + 0 = omega arith in z) ∙ bit_at_cat_high t.0 (n + 1) 0 k (positive (n + 1)) ge in
          same_bit (bitmap (c ∷ cs)) (bitmap cs) k (high ∙ sym rest) ∙ has-holds (n + 1) cs k r.1
          ∙ sym (ap (λ b. b || holds cs k) (ne_eqb n k (λ e. omega arith)))
    ]

-- ---- no bitmap is above sixteen bits
below_next : (n : ℕ) → 2 ^ (n + 1) ≡ 2 ^ n * 2
below_next n = ap (λ k. 2 ^ k) (let e : n + 1 ≡ suc n = omega arith in e) ∙ pow-suc 2 n

grows : (d i : ℕ) → 2 ^ i ≤ 2 ^ (i + d)
grows zero i = subst (λ k. 2 ^ i ≤ 2 ^ k) (let e : i ≡ i + 0 = omega arith in e) (omega arith)
grows (suc d) i = let g = grows d i in let p = below_next (i + d) in subst (λ k. 2 ^ i ≤ 2 ^ k) (let e : i + d + 1 ≡ i + suc d = omega arith in e) (omega arith)

grows_to : (i n : ℕ) → i ≤ n → 2 ^ i ≤ 2 ^ n
grows_to i n le = subst (λ k. 2 ^ i ≤ 2 ^ k) (let e : i + (n - i) ≡ n = omega arith in e) (grows (n - i) i)

bounded : (i : ℕ) (cs : List Child) → i ≤ 16 → ChildrenRiseFrom i cs → AllByRecursion (λ c. c.nibble < 16) cs → bitmap cs + 2 ^ i ≤ 2 ^ 16
bounded i [] le r all = let g = grows_to i 16 le in omega arith
bounded i (c ∷ cs) le r all =
    let rest = bounded (c.nibble + 1) cs (let lt = all.0 in omega arith) r.1 all.1 in
    let p = below_next c.nibble in
    let g = grows_to i c.nibble r.0 in
    omega arith

pub bitmap-small : (cs : List Child) → ChildrenRiseFrom 0 cs → AllByRecursion (λ c. c.nibble < 16) cs → bitmap cs < 65536
bitmap-small cs r all = let b = bounded 0 cs (omega arith) r all in omega arith

pub leaf_children-le : (cs : List Child) → bitmap (leaf_children cs) ≤ bitmap cs
leaf_children-le [] = omega arith
leaf_children-le (c ∷ cs) =
    let rest = leaf_children-le cs in
    elim c.leaf as (λ b. bitmap (cond b (c ∷ leaf_children cs) (leaf_children cs)) ≤ 2 ^ c.nibble + bitmap cs) [ true ↦ omega arith | false ↦ omega arith ]

shifted_fits : (total e p : ℕ) → e + p ≤ total → total < 65536 → e + 1 * p % 65536 < 65536
shifted_fits total e p le lt = omega arith

pub bit_fits : (cs : List Child) (i e : ℕ) (d c : Child) (n : ℕ) → i < length cs → ChildrenRiseFrom 0 cs → AllByRecursion (λ c. c.nibble < 16) cs → c ≡ get_or cs i d → n ≡ c.nibble → e + bitmap (drop i cs) ≡ bitmap cs → e + 1 * 2 ^ n % 65536 < 65536
bit_fits cs i e d c n within r all is nib so_far =
    let cell : drop i cs ≡ c ∷ drop (i + 1) cs = drop_more cs i d within ∙ ap (λ (x : Child). x ∷ drop (i + 1) cs) (sym is) in
    let sum : e + (2 ^ c.nibble + bitmap (drop (i + 1) cs)) ≡ bitmap cs = ap (λ (xs : List Child). e + bitmap xs) (sym cell) ∙ so_far in
    subst (λ k. e + 1 * 2 ^ k % 65536 < 65536) (sym nib) (shifted_fits (bitmap cs) e (2 ^ c.nibble) (omega arith) (bitmap-small cs r all))

pub leaf_bit_fits : (cs : List Child) (i e : ℕ) (d c : Child) (n : ℕ) → i < length cs → ChildrenRiseFrom 0 cs → AllByRecursion (λ c. c.nibble < 16) cs → c ≡ get_or cs i d → n ≡ c.nibble → c.leaf ≡ true → e + bitmap (leaf_children (drop i cs)) ≡ bitmap (leaf_children cs)
    → e + 1 * 2 ^ n % 65536 < 65536
leaf_bit_fits cs i e d c n within r all is nib leaf so_far =
    let cell : drop i cs ≡ c ∷ drop (i + 1) cs = drop_more cs i d within ∙ ap (λ (x : Child). x ∷ drop (i + 1) cs) (sym is) in
    let one : bitmap (leaf_children (drop i cs)) ≡ 2 ^ c.nibble + bitmap (leaf_children (drop (i + 1) cs)) =
    ap (λ (xs : List Child). bitmap (leaf_children xs)) cell ∙ ap (λ b. bitmap (cond b (c ∷ leaf_children (drop (i + 1) cs)) (leaf_children (drop (i + 1) cs)))) leaf
    in
    let most = leaf_children-le cs in
    let small = bitmap-small cs r all in
    subst (λ k. e + 1 * 2 ^ k % 65536 < 65536) (sym nib) (shifted_fits (bitmap (leaf_children cs)) e (2 ^ c.nibble) (omega arith) (omega arith))

-- ---- the two bitmaps of a node agree with its children
pub rise_leaves : (i : ℕ) (cs : List Child) → ChildrenRiseFrom i cs → ChildrenRiseFrom i (leaf_children cs)
rise_leaves i [] r = tt
rise_leaves i (c ∷ cs) r =
    let rest = rise_leaves (c.nibble + 1) cs r.1 in
    elim c.leaf as (λ b. ChildrenRiseFrom i (cond b (c ∷ leaf_children cs) (leaf_children cs))) [
      | true ↦ (r.0, rest)
      | false ↦ RiseFrom-weaker i (c.nibble + 1) (leaf_children cs) (let l = r.0 in omega arith) rest
    ]

pub small_leaves : (cs : List Child) → AllByRecursion (λ c. c.nibble < 16) cs → AllByRecursion (λ c. c.nibble < 16) (leaf_children cs)
small_leaves [] all = tt
small_leaves (c ∷ cs) all =
    elim c.leaf as (λ b. AllByRecursion (λ c. c.nibble < 16) (cond b (c ∷ leaf_children cs) (leaf_children cs))) [ true ↦ (all.0, small_leaves cs all.1) | false ↦ small_leaves cs all.1 ]

-- a leaf is one of the children
pub leaf_holds : (cs : List Child) (k : ℕ) → holds (leaf_children cs) k ≡ true → holds cs k ≡ true
leaf_holds [] k h = h
leaf_holds (c ∷ cs) k h =
    elim c.leaf as (λ b. holds (cond b (c ∷ leaf_children cs) (leaf_children cs)) k ≡ true → ((c.nibble == k) || holds cs k) ≡ true) [
      | true ↦ λ g. elim (c.nibble == k) as (λ t. (t || holds (leaf_children cs) k) ≡ true → (t || holds cs k) ≡ true) [ true ↦ λ x. refl | false ↦ λ x. leaf_holds cs k x ] g
      | false ↦ λ g. ap (λ t. (c.nibble == k) || t) (leaf_holds cs k g) ∙ or_true (c.nibble == k)
    ] h

bit_value : (b : ℕ) → b < 2 → (b ≡ 0) ⊎ (b ≡ 1)
bit_value zero lt = inl refl
bit_value (suc zero) lt = inr refl
bit_value (suc (suc b)) lt = absurd (omega arith)

bit_from_has : (x y k : ℕ) → has x k ≡ has y k → bit_at x k ≡ bit_at y k
unfolding has
bit_from_has x y k e =
    elim (bit_value (bit_at x k) (bit_at-lt x k)) [
      | inl x0 ↦ elim (bit_value (bit_at y k) (bit_at-lt y k)) [
        | inl y0 ↦ x0 ∙ sym y0
        | inr y1 ↦ absurd (true≢false (ap (λ b. b == 1) (sym y1) ∙ sym e ∙ ap (λ b. b == 1) x0))
      ]
      | inr x1 ↦ elim (bit_value (bit_at y k) (bit_at-lt y k)) [
        | inl y0 ↦ absurd (true≢false (ap (λ b. b == 1) (sym x1) ∙ e ∙ ap (λ b. b == 1) y0))
        | inr y1 ↦ x1 ∙ sym y1
      ]
    ]

-- a bitmap equals bits that name just the same children
pub bitmap_of_bits : (cs : List Child) (bits : ℕ) → ChildrenRiseFrom 0 cs → AllByRecursion (λ c. c.nibble < 16) cs → bits < 2 ^ 16 → ((k : ℕ) → k < 16 → holds cs k ≡ has bits k) → bitmap cs ≡ bits
bitmap_of_bits cs bits r all lt same = same_from_bits_below 16 (bitmap cs) bits (bitmap-small cs r all) lt (λ k below. bit_from_has (bitmap cs) bits k (has-holds 0 cs k r ∙ same k below))

-- if y has no bit that x lacks, the lesser of their bits at a place is that of y
least_bit : (x y k : ℕ) → (has y k ≡ true → has x k ≡ true) → min (bit_at x k) (bit_at y k) ≡ bit_at y k
unfolding has
least_bit x y k within =
    elim (bit_value (bit_at y k) (bit_at-lt y k)) [
      | inl y0 ↦ rw y0 (omega arith)
      | inr y1 ↦ let x1 = eqb-true (bit_at x k) 1 (within (ap (λ b. b == 1) y1)) in omega arith
    ]

pub and_of_leaves : (cs : List Child) → ChildrenRiseFrom 0 cs → bit_and (bitmap cs) (bitmap (leaf_children cs)) ≡ bitmap (leaf_children cs)
and_of_leaves cs r =
    same_from_bits _ _ (λ k. bit_at_and (bitmap cs) (bitmap (leaf_children cs)) k
    ∙ least_bit (bitmap cs) (bitmap (leaf_children cs)) k (λ h. has-holds 0 cs k r ∙ leaf_holds cs k (sym (has-holds 0 (leaf_children cs) k (rise_leaves 0 cs r)) ∙ h)))

pub within_and : (x y k : ℕ) → bit_and x y ≡ y → has y k ≡ true → has x k ≡ true
unfolding has
within_and x y k e h =
    let one = eqb-true (bit_at y k) 1 h in
    let both : min (bit_at x k) (bit_at y k) ≡ 1 = sym (bit_at_and x y k) ∙ ap (λ z. bit_at z k) e ∙ one in
    eq-eqb (bit_at x k) 1 (let lt = bit_at-lt x k in omega arith)

-- ---- powers of two
ones_double : (x : ℕ) → count_ones (x * 2) ≡ count_ones x
ones_double x = ones_step (x * 2) ∙ ap₂ (λ a b. a + count_ones b) (let e : x * 2 % 2 ≡ 0 = omega arith in e) (let e : x * 2 / 2 ≡ x = omega arith in e) ∙ (let e : 0 + count_ones x ≡ count_ones x = omega arith in e)

two_last : (x q : ℕ) → x * (q * 2) ≡ x * q * 2
two_last x q = grind arith

ones_times : (k x : ℕ) → count_ones (x * 2 ^ k) ≡ count_ones x
ones_times zero x = ap count_ones (let e : x * 1 ≡ x = omega arith in e)
ones_times (suc k) x =
    let p = pow-suc 2 k in
    ap count_ones (let e : x * 2 ^ suc k ≡ x * 2 ^ k * 2 = ap (λ q. x * q) p ∙ two_last x (2 ^ k) in e) ∙ ones_double (x * 2 ^ k) ∙ ones_times k x

ones_odd : (x : ℕ) → count_ones (x * 2 + 1) ≡ 1 + count_ones x
ones_odd x = ones_step (x * 2 + 1) ∙ ap₂ (λ a b. a + count_ones b) (let e : (x * 2 + 1) % 2 ≡ 1 = omega arith in e) (let e : (x * 2 + 1) / 2 ≡ x = omega arith in e)

odd_after : (p m : ℕ) → p + m * (p * 2) ≡ (m * 2 + 1) * p
odd_after p m = grind arith

odd_times : (b m n : ℕ) → b ≡ m * 2 ^ (n + 1) → 2 ^ n + b ≡ (m * 2 + 1) * 2 ^ n
odd_times b m n e = ap (λ x. 2 ^ n + x) (e ∙ ap (λ q. m * q) (below_next n)) ∙ odd_after (2 ^ n) m

count_of_one : count_ones 1 ≡ 1
unfolding ones
count_of_one = refl

-- the bitmap of one child is a power of two, and that of more children isn't
pub one_is_power : (n : ℕ) → is_power_of_two (2 ^ n + 0) ≡ true
one_is_power n = ap (λ x. count_ones x == 1) (odd_times 0 0 n (omega arith) ∙ (let e : (0 * 2 + 1) * 2 ^ n ≡ 1 * 2 ^ n = refl in e)) ∙ ap (λ c. c == 1) (ones_times n 1 ∙ count_of_one)

pub two_is_no_power : (c d : Child) (cs : List Child) → ChildrenRiseFrom 0 (c ∷ d ∷ cs) → is_power_of_two (bitmap (c ∷ d ∷ cs)) ≡ false
two_is_no_power c d cs r =
    let n = c.nibble in
    let t = multiple (n + 1) (d ∷ cs) r.1 in
    let ones : count_ones (bitmap (c ∷ d ∷ cs)) ≡ 1 + count_ones t.0 = ap count_ones (odd_times (bitmap (d ∷ cs)) t.0 n t.1) ∙ ones_times n (t.0 * 2 + 1) ∙ ones_odd t.0 in
    ne_eqb _ 1 (λ e. not_none t.0 (zero_from_ones t.0 (omega (arith, ones, e))) t.1)
  where
    not_none : (m : ℕ) → m ≡ 0 → 2 ^ d.nibble + bitmap cs ≡ m * 2 ^ (c.nibble + 1) → ⊥
    not_none m z e = let p = positive d.nibble in let q : m * 2 ^ (c.nibble + 1) ≡ 0 * 2 ^ (c.nibble + 1) = ap (λ x. x * 2 ^ (c.nibble + 1)) z in omega arith

-- the bitmap of children has as many bits as there are children
pub ones-bitmap : (i : ℕ) (cs : List Child) → ChildrenRiseFrom i cs → count_ones (bitmap cs) ≡ length cs
unfolding ones
ones-bitmap i [] rise = refl
ones-bitmap i (c ∷ cs) rise =
    let n = c.nibble in
    let t = multiple (n + 1) cs rise.1 in
    let rest : count_ones t.0 ≡ length cs = sym (ap count_ones t.1 ∙ ones_times (n + 1) t.0) ∙ ones-bitmap (n + 1) cs rise.1 in
    ap count_ones (odd_times (bitmap cs) t.0 n t.1) ∙ ones_times n (t.0 * 2 + 1) ∙ ones_odd t.0 ∙ (let e : 1 + count_ones t.0 ≡ suc (length cs) = omega (arith, rest) in e)
