-- The total of hashes is made of the totals of its parts, however many steps are left for it.
use Rattle.std.specs.Prelude.{◌≡◌, ℕ, zero, suc, ◌<◌, ◌≤◌, List, [], ◌∷◌, ◌++◌, length}
use Rattle.std.proofs.Common.{arith, sym, ap, ap₂, ◌∙◌, refl, get_or}
use Rattle.sha2.specs.Sha256.{sha256}
use Rattle.jf_hash.proofs.HashLaws.{sha256-IsKey}
use Rattle.jf_accum.specs.Totals.{A, B, no_total, lefts, rights, total_below, total}
use Rattle.jf_accum.proofs.Counts.{left_count-tells, length-lefts, length-rights, lefts-short, rights-short}

-- ---- the hashes
pub A-input : (h : List ℕ) → A h ≡ sha256 (5 ∷ h)
unfolding A
A-input h = refl

pub B-input : (l r : List ℕ) → B l r ≡ sha256 (6 ∷ l ++ r)
unfolding B
B-input l r = refl

pub A-long : (h : List ℕ) → length (A h) ≡ 32
unfolding A
A-long h = (sha256-IsKey (5 ∷ h)).long

pub B-long : (l r : List ℕ) → length (B l r) ≡ 32
unfolding B
B-long l r = (sha256-IsKey (6 ∷ l ++ r)).long

-- ---- totals
total_below-enough : (n m : ℕ) (hs : List (List ℕ)) → length hs ≤ n → length hs ≤ m → total_below n hs ≡ total_below m hs
unfolding total_below
total_below-enough n m [] p q = refl
total_below-enough n m (h ∷ []) p q = refl
total_below-enough zero m (h ∷ g ∷ hs) p q = absurd (omega arith)
total_below-enough (suc n) zero (h ∷ g ∷ hs) p q = absurd (omega arith)
total_below-enough (suc n) (suc m) (h ∷ g ∷ hs) p q =
    let xs : List (List ℕ) = h ∷ g ∷ hs in
    let two : 1 < length xs = omega arith in
    ap₂ B (total_below-enough n m (lefts xs) (lefts-short xs n two p) (lefts-short xs m two q)) (total_below-enough n m (rights xs) (rights-short xs n two p) (rights-short xs m two q))

pub total-none : total [] ≡ no_total
unfolding total total_below
total-none = refl

pub total-one : (h : List ℕ) → total (h ∷ []) ≡ A h
unfolding total total_below
total-one h = refl

-- the total of two hashes or more is made of the totals of the parts
pub total-split : (hs : List (List ℕ)) → 1 < length hs → total hs ≡ B (total (lefts hs)) (total (rights hs))
unfolding total total_below
total-split [] two = absurd (omega arith)
total-split (h ∷ []) two = absurd (omega arith)
total-split (h ∷ g ∷ hs) two =
    let xs : List (List ℕ) = h ∷ g ∷ hs in
    let n = suc (length hs) in
    let short : length xs ≤ suc n = omega arith in
    ap₂ B (total_below-enough n (length (lefts xs)) (lefts xs) (lefts-short xs n two short) (omega arith)) (total_below-enough n (length (rights xs)) (rights xs) (rights-short xs n two short) (omega arith))

total_below-long : (n : ℕ) (hs : List (List ℕ)) → length (total_below n hs) ≡ 32
unfolding total_below no_total
total_below-long n [] = (sha256-IsKey (7 ∷ [])).long
total_below-long n (h ∷ []) = A-long h
total_below-long zero (h ∷ g ∷ hs) = (sha256-IsKey (7 ∷ [])).long
total_below-long (suc n) (h ∷ g ∷ hs) = B-long _ _

-- a total has 32 bytes
pub total-long : (hs : List (List ℕ)) → length (total hs) ≡ 32
unfolding total
total-long hs = total_below-long (length hs) hs

-- ---- totals as they are computed
pub total-from_none : (hs : List (List ℕ)) (t : List ℕ) → length hs < 1 → t ≡ no_total → t ≡ total hs
total-from_none [] t none is = is ∙ sym total-none
total-from_none (h ∷ hs) t none is = absurd (omega arith)

pub total-from_one : (hs : List (List ℕ)) (t d : List ℕ) → 1 ≤ length hs → length hs < 2 → t ≡ A (get_or hs 0 d) → t ≡ total hs
total-from_one [] t d some one is = absurd (omega arith)
total-from_one (h ∷ []) t d some one is = is ∙ sym (total-one h)
total-from_one (h ∷ g ∷ hs) t d some one is = absurd (omega arith)

pub total-from_parts : (hs ls rs : List (List ℕ)) (t l r : List ℕ) → 1 < length hs → ls ≡ lefts hs → rs ≡ rights hs → l ≡ total ls → r ≡ total rs → t ≡ B l r → t ≡ total hs
total-from_parts hs ls rs t l r two is_ls is_rs is_l is_r is = is ∙ ap₂ B (is_l ∙ ap total is_ls) (is_r ∙ ap total is_rs) ∙ sym (total-split hs two)

-- each part is shorter than the whole
pub left-shorter : (hs ls : List (List ℕ)) → 1 < length hs → ls ≡ lefts hs → length ls < length hs
left-shorter hs ls two is = let tells = left_count-tells (length hs) two in let below = tells.below in omega (arith, ap length is, length-lefts hs two)

pub right-shorter : (hs rs : List (List ℕ)) → 1 < length hs → rs ≡ rights hs → length rs < length hs
right-shorter hs rs two is = let tells = left_count-tells (length hs) two in let some = tells.positive in omega (arith, ap length is, length-rights hs)
