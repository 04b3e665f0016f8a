-- The honest extension consists of the extension of a part, and results in both totals.
use Rattle.std.specs.Prelude.{◌≡◌, ℕ, zero, suc, ◌+◌, ◌-◌, ◌<◌, ◌≤◌, Bool, true, false, nat_lt, nat_le, if◌then◌else◌, List, [], ◌∷◌, ◌++◌, length, reverse, take, drop, ◌==◌, ◌||◌}
use Rattle.std.proofs.Common.{arith, sym, ap, ap₂, ◌∙◌, refl, inl, inr, length-append, length-take}
use Rattle.std.proofs.lemmas.Bool.{cases_lt, cases_eq}
use Rattle.std.proofs.lemmas.List.{take-take, take_all, drop-take}
use Rattle.jf_path.proofs.NumberLaws.{same_number, other_number, le_so, le_no, lt_no}
use Rattle.jf_accum.specs.Totals.{B, left_count, lefts, rights, total}
use Rattle.jf_accum.specs.Extensions.{extension_below, extension_in, extension, extension_count_below, extension_count_in, extension_count, extension_totals, extension_refusal}
use Rattle.jf_accum.specs.Laws.{HonestExtensionsAreAccepted}
use Rattle.jf_accum.proofs.Counts.{left_count-tells, left_count-same, length-lefts, length-rights, lefts-short, rights-short}
use Rattle.jf_accum.proofs.TotalLaws.{total-split}
use Rattle.jf_accum.proofs.MemberLaws.{Path, chosen, passed_over, turned, same-bytes, same-number}

-- ---- extensions of a part
extension_below-all : (n : ℕ) (hs : List (List ℕ)) (m : ℕ) (whole : Bool) → m ≡ length hs → extension_below n hs m whole ≡ (if whole then [] else total hs ∷ [])
unfolding extension_below
extension_below-all zero hs m whole all = refl
extension_below-all (suc n) hs m whole all = chosen _ _ _ (same_number m (length hs) all)

extension_below-split : (n : ℕ) (hs : List (List ℕ)) (m : ℕ) (whole : Bool) → (m ≡ length hs → ⊥)
    → extension_below (suc n) hs m whole ≡ (if nat_le m (left_count (length hs)) then extension_below n (lefts hs) m whole ++ total (rights hs) ∷ [] else extension_below n (rights hs) (m - left_count (length hs)) false ++ total (lefts hs) ∷ [])
unfolding extension_below
extension_below-split n hs m whole part = passed_over _ _ _ (other_number m (length hs) part)

extension_below-enough : (n n' : ℕ) (hs : List (List ℕ)) (m : ℕ) (whole : Bool) → length hs ≤ n → length hs ≤ n' → 0 < m → m ≤ length hs → extension_below n hs m whole ≡ extension_below n' hs m whole
extension_below-enough zero n' hs m whole p q some within = absurd (omega arith)
extension_below-enough (suc n) zero hs m whole p q some within = absurd (omega arith)
extension_below-enough (suc n) (suc n') hs m whole p q some within =
    elim (cases_eq m (length hs)) [
      | inl all ↦ extension_below-all (suc n) hs m whole all ∙ sym (extension_below-all (suc n') hs m whole all)
      | inr part ↦
          let two : 1 < length hs = omega arith in
          let k = left_count (length hs) in
          let left = length-lefts hs two in
          let right = length-rights hs in
          elim (cases_lt k m) [
            | inl hi ↦
                extension_below-split n hs m whole part ∙ passed_over _ _ _ (le_no m k hi)
                ∙ ap (λ (e : Path). e ++ total (lefts hs) ∷ []) (extension_below-enough n n' (rights hs) (m - k) false (rights-short hs n two p) (rights-short hs n' two q) (omega arith) (omega arith))
                ∙ sym (extension_below-split n' hs m whole part ∙ passed_over _ _ _ (le_no m k hi))
            | inr lo ↦
                extension_below-split n hs m whole part ∙ chosen _ _ _ (le_so m k lo)
                ∙ ap (λ (e : Path). e ++ total (rights hs) ∷ []) (extension_below-enough n n' (lefts hs) m whole (lefts-short hs n two p) (lefts-short hs n' two q) some (omega arith))
                ∙ sym (extension_below-split n' hs m whole part ∙ chosen _ _ _ (le_so m k lo))
          ]
    ]

pub extension_in-all : (hs : List (List ℕ)) (m : ℕ) (whole : Bool) → m ≡ length hs → extension_in hs m whole ≡ (if whole then [] else total hs ∷ [])
unfolding extension_in
extension_in-all hs m whole all = extension_below-all (length hs) hs m whole all

one_less : (n : ℕ) → 1 < n → (k : ℕ) × (n ≡ suc k)
one_less zero two = absurd (omega arith)
one_less (suc n) two = (n, refl)

-- the old hashes end in the left part
pub extension_in-left : (hs : List (List ℕ)) (m : ℕ) (whole : Bool) → 1 < length hs → 0 < m → m ≤ left_count (length hs)
    → extension_in hs m whole ≡ extension_in (lefts hs) m whole ++ total (rights hs) ∷ []
unfolding extension_in
extension_in-left hs m whole two some lo =
    let k = left_count (length hs) in
    let tells = left_count-tells (length hs) two in
    let below = tells.below in
    let left = length-lefts hs two in
    let less = one_less (length hs) two in
    let part : m ≡ length hs → ⊥ = λ all. absurd (omega arith) in
    let short : length hs ≤ suc less.0 = omega (arith, less.1) in
    ap (λ n. extension_below n hs m whole) less.1 ∙ extension_below-split less.0 hs m whole part ∙ chosen _ _ _ (le_so m k lo)
    ∙ ap (λ (e : Path). e ++ total (rights hs) ∷ []) (extension_below-enough less.0 (length (lefts hs)) (lefts hs) m whole (lefts-short hs less.0 two short) (omega arith) some (omega arith))

-- the old hashes end in the right part, and not with all
pub extension_in-right : (hs : List (List ℕ)) (m : ℕ) (whole : Bool) → 1 < length hs → left_count (length hs) < m → m < length hs
    → extension_in hs m whole ≡ extension_in (rights hs) (m - left_count (length hs)) false ++ total (lefts hs) ∷ []
unfolding extension_in
extension_in-right hs m whole two hi within =
    let k = left_count (length hs) in
    let right = length-rights hs in
    let less = one_less (length hs) two in
    let part : m ≡ length hs → ⊥ = λ all. absurd (omega arith) in
    let short : length hs ≤ suc less.0 = omega (arith, less.1) in
    ap (λ n. extension_below n hs m whole) less.1 ∙ extension_below-split less.0 hs m whole part ∙ passed_over _ _ _ (le_no m k hi)
    ∙ ap (λ (e : Path). e ++ total (lefts hs) ∷ []) (extension_below-enough less.0 (length (rights hs)) (rights hs) (m - k) false (rights-short hs less.0 two short) (omega arith) (omega arith) (omega arith))

-- ---- how many
extension_count_below-all : (n len m : ℕ) (whole : Bool) → m ≡ len → extension_count_below n len m whole ≡ (if whole then 0 else 1)
unfolding extension_count_below
extension_count_below-all zero len m whole all = refl
extension_count_below-all (suc n) len m whole all = chosen _ _ _ (same_number m len all)

extension_count_below-split : (n len m : ℕ) (whole : Bool) → (m ≡ len → ⊥)
    → extension_count_below (suc n) len m whole ≡ (if nat_le m (left_count len) then 1 + extension_count_below n (left_count len) m whole else 1 + extension_count_below n (len - left_count len) (m - left_count len) false)
unfolding extension_count_below
extension_count_below-split n len m whole part = passed_over _ _ _ (other_number m len part)

extension_count_below-enough : (n n' len m : ℕ) (whole : Bool) → len ≤ n → len ≤ n' → 0 < m → m ≤ len → extension_count_below n len m whole ≡ extension_count_below n' len m whole
extension_count_below-enough zero n' len m whole p q some within = absurd (omega arith)
extension_count_below-enough (suc n) zero len m whole p q some within = absurd (omega arith)
extension_count_below-enough (suc n) (suc n') len m whole p q some within =
    elim (cases_eq m len) [
      | inl all ↦ extension_count_below-all (suc n) len m whole all ∙ sym (extension_count_below-all (suc n') len m whole all)
      | inr part ↦
          let two : 1 < len = omega arith in
          let k = left_count len in
          let tells = left_count-tells len two in
          let positive = tells.positive in
          let below = tells.below in
          elim (cases_lt k m) [
            | inl hi ↦
                extension_count_below-split n len m whole part ∙ passed_over _ _ _ (le_no m k hi)
                ∙ ap (λ e. 1 + e) (extension_count_below-enough n n' (len - k) (m - k) false (omega arith) (omega arith) (omega arith) (omega arith))
                ∙ sym (extension_count_below-split n' len m whole part ∙ passed_over _ _ _ (le_no m k hi))
            | inr lo ↦
                extension_count_below-split n len m whole part ∙ chosen _ _ _ (le_so m k lo)
                ∙ ap (λ e. 1 + e) (extension_count_below-enough n n' k m whole (omega arith) (omega arith) some lo)
                ∙ sym (extension_count_below-split n' len m whole part ∙ chosen _ _ _ (le_so m k lo))
          ]
    ]

pub extension_count_in-all : (len m : ℕ) (whole : Bool) → m ≡ len → extension_count_in len m whole ≡ (if whole then 0 else 1)
unfolding extension_count_in
extension_count_in-all len m whole all = extension_count_below-all len len m whole all

pub extension_count_in-left : (len m : ℕ) (whole : Bool) → 1 < len → 0 < m → m ≤ left_count len → extension_count_in len m whole ≡ 1 + extension_count_in (left_count len) m whole
unfolding extension_count_in
extension_count_in-left len m whole two some lo =
    let k = left_count len in
    let tells = left_count-tells len two in
    let below = tells.below in
    let less = one_less len two in
    let part : m ≡ len → ⊥ = λ all. absurd (omega arith) in
    ap (λ n. extension_count_below n len m whole) less.1 ∙ extension_count_below-split less.0 len m whole part ∙ chosen _ _ _ (le_so m k lo)
    ∙ ap (λ e. 1 + e) (extension_count_below-enough less.0 k k m whole (omega (arith, less.1)) (omega arith) some lo)

pub extension_count_in-right : (len m : ℕ) (whole : Bool) → 1 < len → left_count len < m → m < len → extension_count_in len m whole ≡ 1 + extension_count_in (len - left_count len) (m - left_count len) false
unfolding extension_count_in
extension_count_in-right len m whole two hi within =
    let k = left_count len in
    let tells = left_count-tells len two in
    let positive = tells.positive in
    let less = one_less len two in
    let part : m ≡ len → ⊥ = λ all. absurd (omega arith) in
    ap (λ n. extension_count_below n len m whole) less.1 ∙ extension_count_below-split less.0 len m whole part ∙ passed_over _ _ _ (le_no m k hi)
    ∙ ap (λ e. 1 + e) (extension_count_below-enough less.0 (len - k) (len - k) (m - k) false (omega (arith, less.1)) (omega arith) (omega arith) (omega arith))

-- ---- the result of an extension
pub extension_totals-none : (old : List ℕ) (m len : ℕ) → extension_totals old m len [] ≡ (old, old)
unfolding extension_totals
extension_totals-none old m len = refl

pub extension_totals-all : (old : List ℕ) (m len : ℕ) (s : List ℕ) (ss : Path) → m ≡ len → extension_totals old m len (s ∷ ss) ≡ (s, s)
unfolding extension_totals
extension_totals-all old m len s ss all = chosen _ _ _ (same_number m len all)

pub extension_totals-left : (old : List ℕ) (m len : ℕ) (s : List ℕ) (ss : Path) → (m ≡ len → ⊥) → m ≤ left_count len
    → extension_totals old m len (s ∷ ss) ≡ ((extension_totals old m (left_count len) ss).0, B (extension_totals old m (left_count len) ss).1 s)
unfolding extension_totals
extension_totals-left old m len s ss part lo = passed_over _ _ _ (other_number m len part) ∙ chosen _ _ _ (le_so m (left_count len) lo)

pub extension_totals-right : (old : List ℕ) (m len : ℕ) (s : List ℕ) (ss : Path) → (m ≡ len → ⊥) → left_count len < m
    → extension_totals old m len (s ∷ ss) ≡ (B s (extension_totals old (m - left_count len) (len - left_count len) ss).0, B s (extension_totals old (m - left_count len) (len - left_count len) ss).1)
unfolding extension_totals
extension_totals-right old m len s ss part hi = passed_over _ _ _ (other_number m len part) ∙ passed_over _ _ _ (le_no m (left_count len) hi)

-- ---- the honest extension
length_all : (whole : Bool) (hs : List (List ℕ)) → length (if whole then [] else total hs ∷ []) ≡ (if whole then 0 else 1)
length_all true hs = refl
length_all false hs = refl

extension_in-count : (n : ℕ) (hs : List (List ℕ)) (m : ℕ) (whole : Bool) → length hs ≤ n → 0 < m → m ≤ length hs → length (extension_in hs m whole) ≡ extension_count_in (length hs) m whole
extension_in-count zero hs m whole short some within = absurd (omega arith)
extension_in-count (suc n) hs m whole short some within =
    elim (cases_eq m (length hs)) [
      | inl all ↦ ap length (extension_in-all hs m whole all) ∙ length_all whole hs ∙ sym (extension_count_in-all (length hs) m whole all)
      | inr part ↦
          let two : 1 < length hs = omega arith in
          let k = left_count (length hs) in
          let left = length-lefts hs two in
          let right = length-rights hs in
          elim (cases_lt k m) [
            | inl hi ↦
                let below : length (extension_in (rights hs) (m - k) false) ≡ extension_count_in (length hs - k) (m - k) false =
                extension_in-count n (rights hs) (m - k) false (rights-short hs n two short) (omega arith) (omega arith) ∙ ap (λ len. extension_count_in len (m - k) false) right in
                ap length (extension_in-right hs m whole two hi (omega arith)) ∙ length-append (extension_in (rights hs) (m - k) false) (total (lefts hs) ∷ []) ∙ omega (arith, below) ∙ sym (extension_count_in-right (length hs) m whole two hi (omega arith))
            | inr lo ↦
                let below : length (extension_in (lefts hs) m whole) ≡ extension_count_in k m whole =
                extension_in-count n (lefts hs) m whole (lefts-short hs n two short) some (omega arith) ∙ ap (λ len. extension_count_in len m whole) left in
                ap length (extension_in-left hs m whole two some lo) ∙ length-append (extension_in (lefts hs) m whole) (total (rights hs) ∷ []) ∙ omega (arith, below) ∙ sym (extension_count_in-left (length hs) m whole two some lo)
          ]
    ]

-- the honest extension has as many totals as lead from m hashes to all
pub extension-count : (hs : List (List ℕ)) (m : ℕ) → 0 < m → m ≤ length hs → length (extension hs m) ≡ extension_count (length hs) m
extension-count hs m some within = extension_in-count (length hs) hs m true (omega arith) some within

-- the first m hashes of a list, where m is above the left part, have the same left part
pub take-lefts : (hs : List (List ℕ)) (m : ℕ) → 1 < length hs → left_count (length hs) < m → m ≤ length hs → lefts (take m hs) ≡ lefts hs
take-lefts hs m two hi within =
    let k = left_count (length hs) in
    let long : length (take m hs) ≡ m = omega (arith, length-take m hs) in
    let same : left_count (length (take m hs)) ≡ k = ap left_count long ∙ left_count-same (length hs) m two hi within in
    ap (λ n. take n (take m hs)) same ∙ take-take k m hs (omega arith)

pub take-rights : (hs : List (List ℕ)) (m : ℕ) → 1 < length hs → left_count (length hs) < m → m ≤ length hs → rights (take m hs) ≡ take (m - left_count (length hs)) (rights hs)
take-rights hs m two hi within =
    let k = left_count (length hs) in
    let long : length (take m hs) ≡ m = omega (arith, length-take m hs) in
    let same : left_count (length (take m hs)) ≡ k = ap left_count long ∙ left_count-same (length hs) m two hi within in
    let sum : m ≡ k + (m - k) = omega arith in
    ap (λ n. drop n (take m hs)) same ∙ ap (λ n. drop k (take n hs)) sum ∙ drop-take k (m - k) hs

-- the total of the first m hashes, where m is above the left part
pub total-take : (hs : List (List ℕ)) (m : ℕ) → 1 < length hs → left_count (length hs) < m → m ≤ length hs
    → total (take m hs) ≡ B (total (lefts hs)) (total (take (m - left_count (length hs)) (rights hs)))
total-take hs m two hi within =
    let tells = left_count-tells (length hs) two in
    let some = tells.positive in
    let long : length (take m hs) ≡ m = omega (arith, length-take m hs) in
    total-split (take m hs) (omega arith) ∙ ap₂ (λ (l r : List (List ℕ)). B (total l) (total r)) (take-lefts hs m two hi within) (take-rights hs m two hi within)

-- the old total, if the extension begins where the whole list does
abbrev IsOld : List ℕ → List (List ℕ) → ℕ → Bool → Type 0
IsOld old hs m true = old ≡ total (take m hs)
IsOld old hs m false = Unit {0}

old_all : (old : List ℕ) (hs : List (List ℕ)) (m : ℕ) (whole : Bool) → m ≡ length hs → IsOld old hs m whole
    → extension_totals old m (length hs) (reverse (if whole then [] else total hs ∷ [])) ≡ (total (take m hs), total hs)
old_all old hs m true all is =
    let whole : take m hs ≡ hs = take_all m hs (omega arith) in
    extension_totals-none old m (length hs) ∙ ap₂ (λ (a b : List ℕ). (a, b)) is (is ∙ ap total whole)
old_all old hs m false all is =
    let whole : take m hs ≡ hs = take_all m hs (omega arith) in
    extension_totals-all old m (length hs) (total hs) [] all ∙ ap (λ (a : List ℕ). (a, total hs)) (sym (ap total whole))

old_left : (old : List ℕ) (hs : List (List ℕ)) (m : ℕ) (whole : Bool) → m ≤ left_count (length hs) → IsOld old hs m whole → IsOld old (lefts hs) m whole
old_left old hs m true lo is = is ∙ ap total (sym (take-take m (left_count (length hs)) hs lo))
old_left old hs m false lo is = tt

extension_in-totals : (n : ℕ) (old : List ℕ) (hs : List (List ℕ)) (m : ℕ) (whole : Bool) → length hs ≤ n → 0 < m → m ≤ length hs → IsOld old hs m whole
    → extension_totals old m (length hs) (reverse (extension_in hs m whole)) ≡ (total (take m hs), total hs)
extension_in-totals zero old hs m whole short some within is = absurd (omega arith)
extension_in-totals (suc n) old hs m whole short some within is =
    elim (cases_eq m (length hs)) [
      | inl all ↦ ap (λ (e : Path). extension_totals old m (length hs) (reverse e)) (extension_in-all hs m whole all) ∙ old_all old hs m whole all is
      | inr part ↦
          let two : 1 < length hs = omega arith in
          let k = left_count (length hs) in
          let left = length-lefts hs two in
          let right = length-rights hs in
          elim (cases_lt k m) [
            | inl hi ↦
                let e = extension_in (rights hs) (m - k) false in
                let below : extension_totals old (m - k) (length hs - k) (reverse e) ≡ (total (take (m - k) (rights hs)), total (rights hs)) =
                ap (λ len. extension_totals old (m - k) len (reverse e)) (sym right) ∙ extension_in-totals n old (rights hs) (m - k) false (rights-short hs n two short) (omega arith) (omega arith) tt in
                ap (extension_totals old m (length hs)) (ap reverse (extension_in-right hs m whole two hi (omega arith)) ∙ turned e (total (lefts hs)))
                ∙ extension_totals-right old m (length hs) (total (lefts hs)) (reverse e) part hi
                ∙ ap (λ (t : List ℕ × List ℕ). (B (total (lefts hs)) t.0, B (total (lefts hs)) t.1)) below
                ∙ ap₂ (λ (a b : List ℕ). (a, b)) (sym (total-take hs m two hi within)) (sym (total-split hs two))
            | inr lo ↦
                let e = extension_in (lefts hs) m whole in
                let below : extension_totals old m k (reverse e) ≡ (total (take m (lefts hs)), total (lefts hs)) =
                ap (λ len. extension_totals old m len (reverse e)) (sym left) ∙ extension_in-totals n old (lefts hs) m whole (lefts-short hs n two short) some (omega arith) (old_left old hs m whole lo is) in
                ap (extension_totals old m (length hs)) (ap reverse (extension_in-left hs m whole two some lo) ∙ turned e (total (rights hs)))
                ∙ extension_totals-left old m (length hs) (total (rights hs)) (reverse e) part lo
                ∙ ap (λ (t : List ℕ × List ℕ). (t.0, B t.1 (total (rights hs)))) below
                ∙ ap₂ (λ (a b : List ℕ). (a, b)) (ap total (take-take m k hs lo)) (sym (total-split hs two))
          ]
    ]

-- the honest extension results in both totals
pub extension-totals : (hs : List (List ℕ)) (m : ℕ) → 0 < m → m ≤ length hs → extension_totals (total (take m hs)) m (length hs) (reverse (extension hs m)) ≡ (total (take m hs), total hs)
extension-totals hs m some within = extension_in-totals (length hs) (total (take m hs)) hs m true (omega arith) some within refl

in_range : (m len : ℕ) → 0 < m → m ≤ len → (m == 0 || nat_lt len m) ≡ false
in_range m len some within = simp (other_number m 0 (λ none. absurd (omega arith)), lt_no len m within)

pub honest-extensions : HonestExtensionsAreAccepted
unfolding extension_refusal
honest-extensions hs m some within =
    let both = extension-totals hs m some within in
    simp (in_range m (length hs) some within, same-number _ _ (extension-count hs m some within), same-bytes _ _ (ap (λ (t : List ℕ × List ℕ). t.0) both), same-bytes _ _ (ap (λ (t : List ℕ × List ℕ). t.1) both))

-- ---- as extensions are verified
at_most_one : (whole : Bool) → (if whole then 0 else 1) ≤ 1
at_most_one true = omega arith
at_most_one false = omega arith

extension_count_in-within_len : (n len m : ℕ) (whole : Bool) → len ≤ n → 0 < m → m ≤ len → extension_count_in len m whole ≤ len
extension_count_in-within_len zero len m whole short some within = absurd (omega arith)
extension_count_in-within_len (suc n) len m whole short some within =
    elim (cases_eq m len) [
      | inl all ↦ omega (arith, extension_count_in-all len m whole all, at_most_one whole)
      | inr part ↦
          let two : 1 < len = omega arith in
          let k = left_count len in
          let tells = left_count-tells len two in
          let positive = tells.positive in
          let below = tells.below in
          elim (cases_lt k m) [
            | inl hi ↦ omega (arith, extension_count_in-right len m whole two hi (omega arith), extension_count_in-within_len n (len - k) (m - k) false (omega arith) (omega arith) (omega arith))
            | inr lo ↦ omega (arith, extension_count_in-left len m whole two some lo, extension_count_in-within_len n k m whole (omega arith) some lo)
          ]
    ]

-- no more totals lead from the old hashes to all than there are hashes
pub extension_count_in-bound : (len m : ℕ) (whole : Bool) → 0 < m → m ≤ len → extension_count_in len m whole ≤ len
extension_count_in-bound len m whole some within = extension_count_in-within_len len len m whole (omega arith) some within

-- the result of an extension with one total more, on top
pub both-none : (old : List ℕ) (m len : ℕ) (path : Path) → length path ≡ 0 → (old, old) ≡ extension_totals old m len (reverse path)
both-none old m len [] none = sym (extension_totals-none old m len)
both-none old m len (s ∷ path) none = absurd (omega arith)

pub both-all : (old s : List ℕ) (m len : ℕ) (path lower : Path) → m ≡ len → path ≡ lower ++ s ∷ [] → (s, s) ≡ extension_totals old m len (reverse path)
both-all old s m len path lower all is_path =
    sym (ap (λ (p : Path). extension_totals old m len (reverse p)) is_path ∙ ap (extension_totals old m len) (turned lower s) ∙ extension_totals-all old m len s (reverse lower) all)

pub both-left : (old s w : List ℕ) (below : List ℕ × List ℕ) (m len k : ℕ) (path lower : Path) → (m ≡ len → ⊥) → k ≡ left_count len → m ≤ k → path ≡ lower ++ s ∷ [] → below ≡ extension_totals old m k (reverse lower)
    → w ≡ B below.1 s → (below.0, w) ≡ extension_totals old m len (reverse path)
both-left old s w below m len k path lower part count lo is_path is_below is_w =
    let le : m ≤ left_count len = omega arith in
    let under : below ≡ extension_totals old m (left_count len) (reverse lower) = is_below ∙ ap (λ n. extension_totals old m n (reverse lower)) count in
    ap (λ (x : List ℕ). (below.0, x)) is_w ∙ ap (λ (t : List ℕ × List ℕ). (t.0, B t.1 s)) under
    ∙ sym (ap (λ (p : Path). extension_totals old m len (reverse p)) is_path ∙ ap (extension_totals old m len) (turned lower s) ∙ extension_totals-left old m len s (reverse lower) part le)

pub both-right : (old s o w : List ℕ) (below : List ℕ × List ℕ) (m len k : ℕ) (path lower : Path) → (m ≡ len → ⊥) → k ≡ left_count len → k < m → path ≡ lower ++ s ∷ [] → below ≡ extension_totals old (m - k) (len - k) (reverse lower)
    → o ≡ B s below.0 → w ≡ B s below.1 → (o, w) ≡ extension_totals old m len (reverse path)
both-right old s o w below m len k path lower part count hi is_path is_below is_o is_w =
    let gt : left_count len < m = omega arith in
    let under : below ≡ extension_totals old (m - left_count len) (len - left_count len) (reverse lower) = is_below ∙ ap (λ n. extension_totals old (m - n) (len - n) (reverse lower)) count in
    ap₂ (λ (x y : List ℕ). (x, y)) is_o is_w ∙ ap (λ (t : List ℕ × List ℕ). (B s t.0, B s t.1)) under
    ∙ sym (ap (λ (p : Path). extension_totals old m len (reverse p)) is_path ∙ ap (extension_totals old m len) (turned lower s) ∙ extension_totals-right old m len s (reverse lower) part gt)
