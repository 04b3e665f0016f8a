-- One hash more: which full parts end with it.
use Rattle.std.specs.Prelude.{◌≡◌, ℕ, ◌+◌, ◌-◌, ◌<◌, ◌≤◌, List, [], ◌∷◌, ◌++◌, length, take, drop}
use Rattle.std.proofs.Common.{arith, sym, ap, ap₂, ◌∙◌, refl, length-append, get_or, append_assoc}
use Rattle.std.proofs.lemmas.List.{take_at, drop_at, take-append-le, drop-append-le, get_or-append_right, get_or_append_left, append-nil}
use Rattle.jf_accum.specs.Totals.{A, B, power_below, left_count, lefts, rights, total_below, total}
use Rattle.jf_accum.specs.Inner.{inner_totals_below, inner_totals}
use Rattle.jf_accum.proofs.Counts.{left_count-tells, left_count-same, left_count-even, length-lefts, length-rights}
use Rattle.jf_accum.proofs.TotalLaws.{total-split}
use Rattle.jf_accum.proofs.MemberLaws.{Path}
use Rattle.jf_accum.proofs.InnerLaws.{inner_totals-short, inner_totals-even, inner_totals-uneven, own-last, length-even}

abbrev pub with_hash : List (List ℕ) → List ℕ → List (List ℕ)
with_hash hs h = hs ++ h ∷ []

with_long : (hs : List (List ℕ)) (h : List ℕ) → length (with_hash hs h) ≡ length hs + 1
with_long hs h = length-append hs (h ∷ [])

-- ---- the first hash, and the second
pub push-first : (hs : List (List ℕ)) (h : List ℕ) → length hs ≡ 0 → inner_totals (with_hash hs h) ≡ inner_totals hs
push-first hs h none = inner_totals-short (with_hash hs h) (omega (arith, with_long hs h)) ∙ sym (inner_totals-short hs (omega arith))

two_inner : (g h : List ℕ) → inner_totals (g ∷ h ∷ []) ≡ B (A g) (A h) ∷ []
unfolding inner_totals inner_totals_below total total_below left_count power_below
two_inner g h = refl

pub push-second : (hs : List (List ℕ)) (h d : List ℕ) → length hs ≡ 1 → inner_totals (with_hash hs h) ≡ inner_totals hs ++ B (A (get_or hs 0 d)) (A h) ∷ []
push-second [] h d one = absurd (omega arith)
push-second (g ∷ []) h d one = two_inner g h ∙ ap (λ (i : Path). i ++ B (A g) (A h) ∷ []) (sym (inner_totals-short (g ∷ []) (omega arith)))
push-second (g ∷ f ∷ hs) h d one = absurd (omega arith)

-- ---- a whole part before it
pub push-whole : (hs : List (List ℕ)) (h : List ℕ) → 1 < length hs → left_count (length hs + 1) ≡ length hs → inner_totals (with_hash hs h) ≡ inner_totals hs
push-whole hs h two whole =
    let xs = with_hash hs h in
    let long = with_long hs h in
    let same : left_count (length xs) ≡ length hs = ap left_count long ∙ whole in
    let left : lefts xs ≡ hs = take_at hs (h ∷ []) (left_count (length xs)) (sym same) in
    let right : rights xs ≡ h ∷ [] = drop_at hs (h ∷ []) (left_count (length xs)) (sym same) in
    inner_totals-uneven xs (omega arith) (λ even. absurd (omega (arith, same)))
    ∙ ap₂ (λ (l r : List (List ℕ)). inner_totals l ++ inner_totals r) left right
    ∙ ap (λ (i : Path). inner_totals hs ++ i) (inner_totals-short (h ∷ []) (omega arith)) ∙ append-nil _

-- ---- a part before it that goes on
-- how a list with one hash more, which is no power of two before, is cut
pub record GoesOn (hs : List (List ℕ)) (h : List ℕ) : Type 0 where
  pub count : left_count (length (with_hash hs h)) ≡ left_count (length hs)
  pub left : lefts (with_hash hs h) ≡ lefts hs
  pub right : rights (with_hash hs h) ≡ with_hash (rights hs) h
  pub shorter : length hs ≡ left_count (length hs) + left_count (length hs) → ⊥
  pub own : left_count (length hs + 1) ≡ left_count (length hs)

pub goes-on : (hs : List (List ℕ)) (h : List ℕ) → 1 < length hs → left_count (length hs + 1) < length hs → GoesOn hs h
goes-on hs h two part =
    let n = length hs in
    let long = with_long hs h in
    let tells = left_count-tells (n + 1) (omega arith) in
    let half = tells.half in
    let own : left_count (n + 1) ≡ left_count n = sym (left_count-same (n + 1) n (omega arith) part (omega arith)) in
    let count : left_count (length (with_hash hs h)) ≡ left_count n = ap left_count long ∙ own in
    record {
      count = count;
      left = ap (λ k. take k (with_hash hs h)) count ∙ take-append-le (left_count n) hs (h ∷ []) (omega (arith, own));
      right = ap (λ k. drop k (with_hash hs h)) count ∙ drop-append-le (left_count n) hs (h ∷ []) (omega (arith, own));
      shorter = λ even. absurd (omega (arith, own));
      own = own;
    }

pub push-total : (hs : List (List ℕ)) (h : List ℕ) → 1 < length hs → GoesOn hs h → total (with_hash hs h) ≡ B (total (lefts hs)) (total (with_hash (rights hs) h))
push-total hs h two on = total-split (with_hash hs h) (omega (arith, with_long hs h)) ∙ ap₂ (λ (l r : List (List ℕ)). B (total l) (total r)) on.left on.right

pub push-uneven : (hs : List (List ℕ)) (h : List ℕ) → 1 < length hs → GoesOn hs h → (length hs + 1 ≡ left_count (length hs) + left_count (length hs) → ⊥)
    → inner_totals (with_hash hs h) ≡ inner_totals (lefts hs) ++ inner_totals (with_hash (rights hs) h)
push-uneven hs h two on uneven =
    let long = with_long hs h in
    let count = on.count in
    inner_totals-uneven (with_hash hs h) (omega arith) (λ even. uneven (omega arith)) ∙ ap₂ (λ (l r : List (List ℕ)). inner_totals l ++ inner_totals r) on.left on.right

pub push-even : (hs : List (List ℕ)) (h : List ℕ) → 1 < length hs → GoesOn hs h → length hs + 1 ≡ left_count (length hs) + left_count (length hs)
    → inner_totals (with_hash hs h) ≡ (inner_totals (lefts hs) ++ inner_totals (with_hash (rights hs) h)) ++ B (total (lefts hs)) (total (with_hash (rights hs) h)) ∷ []
push-even hs h two on even =
    let long = with_long hs h in
    let count = on.count in
    inner_totals-even (with_hash hs h) (omega arith) (omega arith)
    ∙ ap₂ (λ (l r : List (List ℕ)). (inner_totals l ++ inner_totals r) ++ total (with_hash hs h) ∷ []) on.left on.right
    ∙ ap (λ (t : List ℕ). (inner_totals (lefts hs) ++ inner_totals (with_hash (rights hs) h)) ++ t ∷ []) (push-total hs h two on)

-- the rest of a list's inner totals, behind a front, after the recursion
pub front-goes_on : (hs : List (List ℕ)) (h : List ℕ) (front old : Path) → 1 < length hs → GoesOn hs h → old ≡ front ++ inner_totals hs → old ≡ (front ++ inner_totals (lefts hs)) ++ inner_totals (rights hs)
front-goes_on hs h front old two on is =
    is ∙ ap (λ (i : Path). front ++ i) (inner_totals-uneven hs two on.shorter) ∙ sym (append_assoc front (inner_totals (lefts hs)) (inner_totals (rights hs)))

-- a part of as many hashes as the left part, of two or more
full-even : (hs : List (List ℕ)) (zs : List (List ℕ)) → 1 < length hs → 1 < left_count (length hs) → length zs ≡ left_count (length hs) → length zs ≡ left_count (length zs) + left_count (length zs)
full-even hs zs two more long = long ∙ left_count-even (length hs) two more ∙ ap (λ n. left_count n + left_count n) (sym long)

-- where the totals of two equally long parts stand
pub record StandLast (hs : List (List ℕ)) (h : List ℕ) (mid : Path) : Type 0 where
  pub room : left_count (length hs) ≤ length mid
  pub left : (d : List ℕ) → get_or mid (length mid - left_count (length hs)) d ≡ total (lefts hs)
  pub right : (d : List ℕ) → get_or mid (length mid - 1) d ≡ total (with_hash (rights hs) h)

pub stand-last : (hs : List (List ℕ)) (h : List ℕ) (front mid : Path) → 1 < length hs → GoesOn hs h → length hs + 1 ≡ left_count (length hs) + left_count (length hs)
    → mid ≡ (front ++ inner_totals (lefts hs)) ++ inner_totals (with_hash (rights hs) h) → StandLast hs h mid
stand-last hs h front mid two on even is =
    let k = left_count (length hs) in
    let ls = lefts hs in
    let rs = with_hash (rights hs) h in
    let more : 1 < k = omega arith in
    let ls_long : length ls ≡ k = length-lefts hs two in
    let rs_long : length rs ≡ k = omega (arith, with_long (rights hs) h, length-rights hs) in
    let ls_even = full-even hs ls two more ls_long in
    let rs_even = full-even hs rs two more rs_long in
    let ls_inner = length-even ls (omega arith) ls_even in
    let rs_inner = length-even rs (omega arith) rs_even in
    let a = front ++ inner_totals ls in
    let a_long = length-append front (inner_totals ls) in
    let mid_long : length mid ≡ length a + length (inner_totals rs) = ap length is ∙ length-append a (inner_totals rs) in
    record {
      room = omega arith;
      left = λ d.
          let at : length mid - k ≡ length a - 1 = omega arith in
          let within : length a - 1 < length a = omega arith in
          let in_left : (length a - 1) - length front ≡ length ls - 2 = omega arith in
          ap₂ (λ (m : Path) (n : ℕ). get_or m n d) is at ∙ get_or_append_left a (inner_totals rs) d (length a - 1) within
          ∙ get_or-append_right front (inner_totals ls) (length front) (length a - 1) d refl (omega arith)
          ∙ ap (λ n. get_or (inner_totals ls) n d) in_left ∙ own-last ls d (omega arith) ls_even;
      right = λ d.
          let in_right : (length mid - 1) - length a ≡ length rs - 2 = omega arith in
          ap (λ (m : Path). get_or m (length mid - 1) d) is
          ∙ get_or-append_right a (inner_totals rs) (length a) (length mid - 1) d refl (omega arith)
          ∙ ap (λ n. get_or (inner_totals rs) n d) in_right ∙ own-last rs d (omega arith) rs_even;
    }
