-- The totals of full parts are those of the two parts, and the own one if these are equally long.
use Rattle.std.specs.Prelude.{◌≡◌, ℕ, zero, suc, ◌+◌, ◌-◌, ◌^◌, ◌<◌, ◌≤◌, List, [], ◌∷◌, ◌++◌, length, take, drop}
use Rattle.std.proofs.Common.{arith, sym, ap, ap₂, ◌∙◌, refl, length-append, get_or, append_assoc}
use Rattle.std.proofs.lemmas.Nat.{pow_pos}
use Rattle.std.proofs.lemmas.List.{take_at, drop_at, get_or-append_right, append-nil}
use Rattle.jf_path.proofs.NumberLaws.{double, same_number, other_number}
use Rattle.jf_accum.specs.Totals.{left_count, lefts, rights, total}
use Rattle.jf_accum.specs.Inner.{own_total, inner_totals_below, inner_totals}
use Rattle.jf_accum.proofs.Counts.{left_count-level, left_count-is, length-lefts, length-rights, lefts-short, rights-short}
use Rattle.jf_accum.proofs.MemberLaws.{Path, chosen, passed_over}

inner_totals_below-enough : (n m : ℕ) (hs : List (List ℕ)) → length hs ≤ n → length hs ≤ m → inner_totals_below n hs ≡ inner_totals_below m hs
unfolding inner_totals_below
inner_totals_below-enough n m [] p q = refl
inner_totals_below-enough n m (h ∷ []) p q = refl
inner_totals_below-enough zero m (h ∷ g ∷ hs) p q = absurd (omega arith)
inner_totals_below-enough (suc n) zero (h ∷ g ∷ hs) p q = absurd (omega arith)
inner_totals_below-enough (suc n) (suc m) (h ∷ g ∷ hs) p q =
    let xs : List (List ℕ) = h ∷ g ∷ hs in
    let two : 1 < length xs = omega arith in
    ap₂ (λ (l r : Path). (l ++ r) ++ own_total xs) (inner_totals_below-enough n m (lefts xs) (lefts-short xs n two p) (lefts-short xs m two q)) (inner_totals_below-enough n m (rights xs) (rights-short xs n two p) (rights-short xs m two q))

pub inner_totals-short : (hs : List (List ℕ)) → length hs ≤ 1 → inner_totals hs ≡ []
unfolding inner_totals inner_totals_below
inner_totals-short [] one = refl
inner_totals-short (h ∷ []) one = refl
inner_totals-short (h ∷ g ∷ hs) one = absurd (omega arith)

pub inner_totals-split : (hs : List (List ℕ)) → 1 < length hs → inner_totals hs ≡ (inner_totals (lefts hs) ++ inner_totals (rights hs)) ++ own_total hs
unfolding inner_totals inner_totals_below
inner_totals-split [] two = absurd (omega arith)
inner_totals-split (h ∷ []) two = absurd (omega arith)
inner_totals-split (h ∷ g ∷ hs) two =
    let xs : List (List ℕ) = h ∷ g ∷ hs in
    let n = suc (length hs) in
    let short : length xs ≤ suc n = omega arith in
    ap₂ (λ (l r : Path). (l ++ r) ++ own_total xs) (inner_totals_below-enough n (length (lefts xs)) (lefts xs) (lefts-short xs n two short) (omega arith)) (inner_totals_below-enough n (length (rights xs)) (rights xs) (rights-short xs n two short) (omega arith))

-- two equally long parts
pub inner_totals-even : (hs : List (List ℕ)) → 1 < length hs → length hs ≡ left_count (length hs) + left_count (length hs)
    → inner_totals hs ≡ (inner_totals (lefts hs) ++ inner_totals (rights hs)) ++ total hs ∷ []
inner_totals-even hs two even = inner_totals-split hs two ∙ ap (λ (o : Path). (inner_totals (lefts hs) ++ inner_totals (rights hs)) ++ o) (chosen _ _ _ (same_number _ _ even))

-- two parts of which the right one is shorter
pub inner_totals-uneven : (hs : List (List ℕ)) → 1 < length hs → (length hs ≡ left_count (length hs) + left_count (length hs) → ⊥)
    → inner_totals hs ≡ inner_totals (lefts hs) ++ inner_totals (rights hs)
inner_totals-uneven hs two uneven =
    inner_totals-split hs two ∙ ap (λ (o : Path). (inner_totals (lefts hs) ++ inner_totals (rights hs)) ++ o) (passed_over _ _ _ (other_number _ _ uneven)) ∙ append-nil _

-- of a power of two of hashes there is one inner total fewer
pub length-full : (r : ℕ) (hs : List (List ℕ)) → length hs ≡ 2 ^ r → length (inner_totals hs) + 1 ≡ 2 ^ r
length-full zero hs long = omega (arith, ap length (inner_totals-short hs (omega arith)))
length-full (suc r) hs long =
    let some = pow_pos r in
    let two : 1 < length hs = omega (arith, double r) in
    let is : left_count (length hs) ≡ 2 ^ r = left_count-is (length hs) r (record { above = omega (arith, double r); within = omega arith }) in
    let left = length-full r (lefts hs) (length-lefts hs two ∙ is) in
    let right = length-full r (rights hs) (omega (arith, length-rights hs, double r, is)) in
    let own = ap length (inner_totals-even hs two (omega (arith, double r, is))) in
    omega (arith, own, length-append (inner_totals (lefts hs) ++ inner_totals (rights hs)) (total hs ∷ []), length-append (inner_totals (lefts hs)) (inner_totals (rights hs)), double r)

-- the left part has one inner total fewer than hashes
pub length-left_inner : (hs : List (List ℕ)) → 1 < length hs → length (inner_totals (lefts hs)) + 1 ≡ left_count (length hs)
length-left_inner hs two =
    let found = left_count-level (length hs) two in
    length-full found.0 (lefts hs) (length-lefts hs two ∙ found.1) ∙ sym found.1

-- so has the right part, if it is as long
pub length-right_inner : (hs : List (List ℕ)) → 1 < length hs → length hs ≡ left_count (length hs) + left_count (length hs) → length (inner_totals (rights hs)) + 1 ≡ left_count (length hs)
length-right_inner hs two even =
    let found = left_count-level (length hs) two in
    length-full found.0 (rights hs) (omega (arith, length-rights hs, found.1)) ∙ sym found.1

-- ---- where they stand
pub left_inner : (hs : List (List ℕ)) → 1 < length hs → take (left_count (length hs) - 1) (inner_totals hs) ≡ inner_totals (lefts hs)
left_inner hs two =
    let l = inner_totals (lefts hs) in
    let r = inner_totals (rights hs) in
    let long = length-left_inner hs two in
    ap (take (left_count (length hs) - 1)) (inner_totals-split hs two ∙ append_assoc l r (own_total hs)) ∙ take_at l (r ++ own_total hs) (left_count (length hs) - 1) (omega arith)

rest_inner : (hs : List (List ℕ)) → 1 < length hs → drop (left_count (length hs) - 1) (inner_totals hs) ≡ inner_totals (rights hs) ++ own_total hs
rest_inner hs two =
    let l = inner_totals (lefts hs) in
    let r = inner_totals (rights hs) in
    let long = length-left_inner hs two in
    ap (drop (left_count (length hs) - 1)) (inner_totals-split hs two ∙ append_assoc l r (own_total hs)) ∙ drop_at l (r ++ own_total hs) (left_count (length hs) - 1) (omega arith)

-- the inner totals of a right part that is as long as the left one end before the own total
pub right_inner-even : (hs : List (List ℕ)) → 1 < length hs → length hs ≡ left_count (length hs) + left_count (length hs)
    → take (left_count (length hs) - 1) (drop (left_count (length hs) - 1) (inner_totals hs)) ≡ inner_totals (rights hs)
right_inner-even hs two even =
    let long = length-right_inner hs two even in
    ap (take (left_count (length hs) - 1)) (rest_inner hs two) ∙ take_at (inner_totals (rights hs)) (own_total hs) (left_count (length hs) - 1) (omega arith)

pub right_inner-uneven : (hs : List (List ℕ)) → 1 < length hs → (length hs ≡ left_count (length hs) + left_count (length hs) → ⊥)
    → drop (left_count (length hs) - 1) (inner_totals hs) ≡ inner_totals (rights hs)
right_inner-uneven hs two uneven =
    rest_inner hs two ∙ ap (λ (o : Path). inner_totals (rights hs) ++ o) (passed_over _ _ _ (other_number _ _ uneven)) ∙ append-nil _

-- the own total stands last
pub own-last : (hs : List (List ℕ)) (d : List ℕ) → 1 < length hs → length hs ≡ left_count (length hs) + left_count (length hs) → get_or (inner_totals hs) (length hs - 2) d ≡ total hs
own-last hs d two even =
    let l = inner_totals (lefts hs) in
    let r = inner_totals (rights hs) in
    let left = length-left_inner hs two in
    let right = length-right_inner hs two even in
    let long : length (l ++ r) ≡ length hs - 2 = omega (arith, length-append l r) in
    let same : (length hs - 2) - length (l ++ r) ≡ 0 = omega arith in
    ap (λ (i : Path). get_or i (length hs - 2) d) (inner_totals-even hs two even)
    ∙ get_or-append_right (l ++ r) (total hs ∷ []) (length (l ++ r)) (length hs - 2) d refl (omega arith)
    ∙ ap (λ n. get_or (total hs ∷ []) n d) same

pub length-even : (hs : List (List ℕ)) → 1 < length hs → length hs ≡ left_count (length hs) + left_count (length hs) → length (inner_totals hs) + 1 ≡ length hs
length-even hs two even =
    let l = inner_totals (lefts hs) in
    let r = inner_totals (rights hs) in
    let left = length-left_inner hs two in
    let right = length-right_inner hs two even in
    let own = ap length (inner_totals-even hs two even) in
    omega (arith, own, length-append (l ++ r) (total hs ∷ []), length-append l r)
