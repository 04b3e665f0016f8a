-- The honest path of a hash consists of the path in its part, and results in the total.
use Rattle.std.specs.Prelude.{◌≡◌, ℕ, zero, suc, ◌+◌, ◌-◌, ◌<◌, ◌≤◌, Bool, true, false, nat_lt, nat_le, if◌then◌else◌, List, [], ◌∷◌, ◌++◌, length, reverse, ◌==◌, not, bytes_eq}
use Rattle.std.proofs.Common.{arith, sym, ap, ap₂, ◌∙◌, refl, get_or, inl, inr, length-append}
use Rattle.std.proofs.lemmas.Bool.{cases_lt}
use Rattle.std.proofs.lemmas.Bool.Decides.{nat_tests}
use Rattle.std.proofs.lemmas.List.{reverse-append, get_or-take, get_or-drop}
use Rattle.std.proofs.lemmas.Slice.Eq.{bytes_eq-Decides}
use Rattle.jf_path.proofs.NumberLaws.{le_so, le_no, lt_so, lt_no}
use Rattle.jf_accum.specs.Totals.{A, B, left_count, lefts, rights, total}
use Rattle.jf_accum.specs.Members.{member_below, member, member_count_below, member_count, member_total, member_refusal}
use Rattle.jf_accum.specs.Laws.{HonestMembersAreAccepted}
use Rattle.jf_accum.proofs.Counts.{left_count-tells, length-lefts, length-rights, lefts-short, rights-short}
use Rattle.jf_accum.proofs.TotalLaws.{total-one, total-split}

-- ---- a choice by a test
pub chosen : {X : Type 0} (b : Bool) (x y : X) → b ≡ true → (if b then x else y) ≡ x
chosen true x y is = refl
chosen false x y is = absurd (cc)

pub passed_over : {X : Type 0} (b : Bool) (x y : X) → b ≡ false → (if b then x else y) ≡ y
passed_over true x y is = absurd (cc)
passed_over false x y is = refl

-- ---- paths
abbrev pub Path : Type 0
Path = List (List ℕ)

member_below-enough : (n m : ℕ) (hs : List (List ℕ)) (i : ℕ) → length hs ≤ n → length hs ≤ m → member_below n hs i ≡ member_below m hs i
unfolding member_below
member_below-enough n m [] i p q = refl
member_below-enough n m (h ∷ []) i p q = refl
member_below-enough zero m (h ∷ g ∷ hs) i p q = absurd (omega arith)
member_below-enough (suc n) zero (h ∷ g ∷ hs) i p q = absurd (omega arith)
member_below-enough (suc n) (suc m) (h ∷ g ∷ hs) i p q =
    let xs : List (List ℕ) = h ∷ g ∷ hs in
    let two : 1 < length xs = omega arith in
    let k = left_count (length xs) in
    ap₂ (λ (l r : Path). if nat_lt i k then l ++ total (rights xs) ∷ [] else r ++ total (lefts xs) ∷ [])
    (member_below-enough n m (lefts xs) i (lefts-short xs n two p) (lefts-short xs m two q)) (member_below-enough n m (rights xs) (i - k) (rights-short xs n two p) (rights-short xs m two q))

pub member-one : (h : List ℕ) (i : ℕ) → member (h ∷ []) i ≡ []
unfolding member member_below
member-one h i = refl

member-split : (hs : List (List ℕ)) (i : ℕ) → 1 < length hs
    → member hs i ≡ (if nat_lt i (left_count (length hs)) then member (lefts hs) i ++ total (rights hs) ∷ [] else member (rights hs) (i - left_count (length hs)) ++ total (lefts hs) ∷ [])
unfolding member member_below
member-split [] i two = absurd (omega arith)
member-split (h ∷ []) i two = absurd (omega arith)
member-split (h ∷ g ∷ hs) i two =
    let xs : List (List ℕ) = h ∷ g ∷ hs in
    let n = suc (length hs) in
    let short : length xs ≤ suc n = omega arith in
    let k = left_count (length xs) in
    ap₂ (λ (l r : Path). if nat_lt i k then l ++ total (rights xs) ∷ [] else r ++ total (lefts xs) ∷ [])
    (member_below-enough n (length (lefts xs)) (lefts xs) i (lefts-short xs n two short) (omega arith)) (member_below-enough n (length (rights xs)) (rights xs) (i - k) (rights-short xs n two short) (omega arith))

-- the path of a place in the left part
pub member-left : (hs : List (List ℕ)) (i : ℕ) → 1 < length hs → i < left_count (length hs) → member hs i ≡ member (lefts hs) i ++ total (rights hs) ∷ []
member-left hs i two lt = member-split hs i two ∙ chosen _ _ _ (lt_so i (left_count (length hs)) lt)

-- the path of a place in the right part
pub member-right : (hs : List (List ℕ)) (i : ℕ) → 1 < length hs → left_count (length hs) ≤ i → member hs i ≡ member (rights hs) (i - left_count (length hs)) ++ total (lefts hs) ∷ []
member-right hs i two ge = member-split hs i two ∙ passed_over _ _ _ (lt_no i (left_count (length hs)) ge)

-- ---- how many
member_count_below-enough : (n m len i : ℕ) → len ≤ n → len ≤ m → member_count_below n len i ≡ member_count_below m len i
unfolding member_count_below
member_count_below-enough zero zero len i p q = refl
member_count_below-enough zero (suc m) len i p q = sym (chosen (nat_le len 1) _ _ (le_so len 1 (omega arith)))
member_count_below-enough (suc n) zero len i p q = chosen (nat_le len 1) _ _ (le_so len 1 (omega arith))
member_count_below-enough (suc n) (suc m) len i p q =
    elim (cases_lt 1 len) [
      | inl two ↦
          let k = left_count len in
          let tells = left_count-tells len two in
          let some = tells.positive in
          let below = tells.below in
          ap₂ (λ (l r : ℕ). if nat_le len 1 then 0 else (if nat_lt i k then 1 + l else 1 + r)) (member_count_below-enough n m k i (omega arith) (omega arith)) (member_count_below-enough n m (len - k) (i - k) (omega arith) (omega arith))
      | inr one ↦ chosen (nat_le len 1) _ _ (le_so len 1 one) ∙ sym (chosen (nat_le len 1) _ _ (le_so len 1 one))
    ]

pub member_count-one : (len i : ℕ) → len ≤ 1 → member_count len i ≡ 0
unfolding member_count member_count_below
member_count-one zero i one = refl
member_count-one (suc len) i one = chosen _ _ _ (le_so (suc len) 1 one)

member_count-split : (len i : ℕ) → 1 < len → member_count len i ≡ (if nat_lt i (left_count len) then 1 + member_count (left_count len) i else 1 + member_count (len - left_count len) (i - left_count len))
unfolding member_count member_count_below
member_count-split zero i two = absurd (omega arith)
member_count-split (suc len) i two =
    let k = left_count (suc len) in
    let tells = left_count-tells (suc len) two in
    let some = tells.positive in
    let below = tells.below in
    passed_over (nat_le (suc len) 1) _ _ (le_no (suc len) 1 two)
    ∙ ap₂ (λ (l r : ℕ). if nat_lt i k then 1 + l else 1 + r) (member_count_below-enough len k k i (omega arith) (omega arith)) (member_count_below-enough len (suc len - k) (suc len - k) (i - k) (omega arith) (omega arith))

pub member_count-left : (len i : ℕ) → 1 < len → i < left_count len → member_count len i ≡ 1 + member_count (left_count len) i
member_count-left len i two lt = member_count-split len i two ∙ chosen _ _ _ (lt_so i (left_count len) lt)

pub member_count-right : (len i : ℕ) → 1 < len → left_count len ≤ i → member_count len i ≡ 1 + member_count (len - left_count len) (i - left_count len)
member_count-right len i two ge = member_count-split len i two ∙ passed_over _ _ _ (lt_no i (left_count len) ge)

-- ---- the result of a path
pub member_total-none : (len i : ℕ) (h : List ℕ) → member_total len i h [] ≡ A h
unfolding member_total
member_total-none len i h = refl

pub member_total-left : (len i : ℕ) (h s : List ℕ) (ss : Path) → i < left_count len → member_total len i h (s ∷ ss) ≡ B (member_total (left_count len) i h ss) s
unfolding member_total
member_total-left len i h s ss lt = chosen _ _ _ (lt_so i (left_count len) lt)

pub member_total-right : (len i : ℕ) (h s : List ℕ) (ss : Path) → left_count len ≤ i → member_total len i h (s ∷ ss) ≡ B s (member_total (len - left_count len) (i - left_count len) h ss)
unfolding member_total
member_total-right len i h s ss ge = passed_over _ _ _ (lt_no i (left_count len) ge)

pub turned : (path : Path) (s : List ℕ) → reverse (path ++ s ∷ []) ≡ s ∷ reverse path
turned path s = reverse-append path (s ∷ [])

-- ---- the honest path
member_count-within : (n : ℕ) (hs : List (List ℕ)) (i : ℕ) → length hs ≤ n → i < length hs → length (member hs i) ≡ member_count (length hs) i
member_count-within n [] i short lt = absurd (omega arith)
member_count-within n (h ∷ []) i short lt = ap length (member-one h i) ∙ sym (member_count-one 1 i (omega arith))
member_count-within zero (h ∷ g ∷ hs) i short lt = absurd (omega arith)
member_count-within (suc n) (h ∷ g ∷ hs) i short lt =
    let xs : List (List ℕ) = h ∷ g ∷ hs in
    let two : 1 < length xs = omega arith in
    let k = left_count (length xs) in
    let left = length-lefts xs two in
    let right = length-rights xs in
    elim (cases_lt i k) [
      | inl lo ↦
          let below : length (member (lefts xs) i) ≡ member_count k i = member_count-within n (lefts xs) i (lefts-short xs n two short) (omega arith) ∙ ap (λ len. member_count len i) left in
          ap length (member-left xs i two lo) ∙ length-append (member (lefts xs) i) (total (rights xs) ∷ []) ∙ omega (arith, below) ∙ sym (member_count-left (length xs) i two lo)
      | inr hi ↦
          let below : length (member (rights xs) (i - k)) ≡ member_count (length xs - k) (i - k) = member_count-within n (rights xs) (i - k) (rights-short xs n two short) (omega arith) ∙ ap (λ len. member_count len (i - k)) right in
          ap length (member-right xs i two hi) ∙ length-append (member (rights xs) (i - k)) (total (lefts xs) ∷ []) ∙ omega (arith, below) ∙ sym (member_count-right (length xs) i two hi)
    ]

-- the honest path has as many totals as there are beside the place
pub member-count : (hs : List (List ℕ)) (i : ℕ) → i < length hs → length (member hs i) ≡ member_count (length hs) i
member-count hs i lt = member_count-within (length hs) hs i (omega arith) lt

member_total-within : (n : ℕ) (hs : List (List ℕ)) (i : ℕ) → length hs ≤ n → i < length hs → member_total (length hs) i (get_or hs i []) (reverse (member hs i)) ≡ total hs
member_total-within n [] i short lt = absurd (omega arith)
member_total-within n (h ∷ []) zero short lt = ap (λ (p : Path). member_total 1 0 h (reverse p)) (member-one h 0) ∙ member_total-none 1 0 h ∙ sym (total-one h)
member_total-within n (h ∷ []) (suc i) short lt = absurd (omega arith)
member_total-within zero (h ∷ g ∷ hs) i short lt = absurd (omega arith)
member_total-within (suc n) (h ∷ g ∷ hs) i short lt =
    let xs : List (List ℕ) = h ∷ g ∷ hs in
    let two : 1 < length xs = omega arith in
    let k = left_count (length xs) in
    let own = get_or xs i [] in
    let left = length-lefts xs two in
    let right = length-rights xs in
    elim (cases_lt i k) [
      | inl lo ↦
          let below : member_total k i own (reverse (member (lefts xs) i)) ≡ total (lefts xs) =
          ap₂ (λ (len : ℕ) (h : List ℕ). member_total len i h (reverse (member (lefts xs) i))) (sym left) (sym (get_or-take k xs i [] lo)) ∙ member_total-within n (lefts xs) i (lefts-short xs n two short) (omega arith) in
          ap (member_total (length xs) i own) (ap reverse (member-left xs i two lo) ∙ turned (member (lefts xs) i) (total (rights xs)))
          ∙ member_total-left (length xs) i own (total (rights xs)) (reverse (member (lefts xs) i)) lo
          ∙ ap (λ t. B t (total (rights xs))) below ∙ sym (total-split xs two)
      | inr hi ↦
          let at : k + (i - k) ≡ i = omega arith in
          let below : member_total (length xs - k) (i - k) own (reverse (member (rights xs) (i - k))) ≡ total (rights xs) =
          ap₂ (λ (len : ℕ) (h : List ℕ). member_total len (i - k) h (reverse (member (rights xs) (i - k)))) (sym right) (ap (λ j. get_or xs j []) (sym at) ∙ sym (get_or-drop k xs (i - k) [])) ∙ member_total-within n (rights xs) (i - k) (rights-short xs n two short) (omega arith) in
          ap (member_total (length xs) i own) (ap reverse (member-right xs i two hi) ∙ turned (member (rights xs) (i - k)) (total (lefts xs)))
          ∙ member_total-right (length xs) i own (total (lefts xs)) (reverse (member (rights xs) (i - k))) hi
          ∙ ap (λ t. B (total (lefts xs)) t) below ∙ sym (total-split xs two)
    ]

-- the honest path of a hash results in the total
pub member-total : (hs : List (List ℕ)) (i : ℕ) → i < length hs → member_total (length hs) i (get_or hs i []) (reverse (member hs i)) ≡ total hs
member-total hs i lt = member_total-within (length hs) hs i (omega arith) lt

pub same-bytes : (a b : List ℕ) → a ≡ b → not (bytes_eq a b) ≡ false
same-bytes a b same = ap not ((bytes_eq-Decides a b).1 same)

pub same-number : (a b : ℕ) → a ≡ b → not (a == b) ≡ false
same-number a b same = grind (arith, nat_tests)

pub honest-members : HonestMembersAreAccepted
unfolding member_refusal
honest-members hs i lt =
    simp (le_no (length hs) i lt, same-number _ _ (member-count hs i lt), same-bytes _ _ (member-total hs i lt))

-- ---- as paths are verified
member_count-within_len : (n len i : ℕ) → len ≤ n → i < len → member_count len i ≤ len
member_count-within_len zero len i short lt = absurd (omega arith)
member_count-within_len (suc n) len i short lt =
    elim (cases_lt 1 len) [
      | inl two ↦
          let k = left_count len in
          let tells = left_count-tells len two in
          let some = tells.positive in
          let below = tells.below in
          elim (cases_lt i k) [
            | inl lo ↦ omega (arith, member_count-left len i two lo, member_count-within_len n k i (omega arith) lo)
            | inr hi ↦ omega (arith, member_count-right len i two hi, member_count-within_len n (len - k) (i - k) (omega arith) (omega arith))
          ]
      | inr one ↦ omega (arith, member_count-one len i one)
    ]

-- there are no more totals beside a place than hashes
pub member_count-bound : (len i : ℕ) → i < len → member_count len i ≤ len
member_count-bound len i lt = member_count-within_len len len i (omega arith) lt

-- where a total is beside the place, there are two hashes or more
pub two-from_count : (len i n : ℕ) → n + 1 ≡ member_count len i → 1 < len
two-from_count len i n more = elim (cases_lt 1 len) [ inl two ↦ two | inr one ↦ absurd (omega (arith, member_count-one len i one)) ]

-- the result of a path with one total more, on top
pub path-left : (len i k : ℕ) (h s t below : List ℕ) (path lower : Path) → k ≡ left_count len → i < k → path ≡ lower ++ s ∷ [] → below ≡ member_total k i h (reverse lower) → t ≡ B below s → t ≡ member_total len i h (reverse path)
path-left len i k h s t below path lower count lo is_path is_below is =
    let lt : i < left_count len = omega arith in
    is ∙ ap (λ b. B b s) (is_below ∙ ap (λ n. member_total n i h (reverse lower)) count)
    ∙ sym (ap (λ (p : Path). member_total len i h (reverse p)) is_path ∙ ap (member_total len i h) (turned lower s) ∙ member_total-left len i h s (reverse lower) lt)

pub path-right : (len i k : ℕ) (h s t below : List ℕ) (path lower : Path) → k ≡ left_count len → k ≤ i → path ≡ lower ++ s ∷ [] → below ≡ member_total (len - k) (i - k) h (reverse lower) → t ≡ B s below → t ≡ member_total len i h (reverse path)
path-right len i k h s t below path lower count hi is_path is_below is =
    let ge : left_count len ≤ i = omega arith in
    is ∙ ap (λ b. B s b) (is_below ∙ ap (λ n. member_total (len - n) (i - n) h (reverse lower)) count)
    ∙ sym (ap (λ (p : Path). member_total len i h (reverse p)) is_path ∙ ap (member_total len i h) (turned lower s) ∙ member_total-right len i h s (reverse lower) ge)

pub path-none : (len i : ℕ) (h t : List ℕ) (path : Path) → length path ≡ 0 → t ≡ A h → t ≡ member_total len i h (reverse path)
path-none len i h t [] none is = is ∙ sym (member_total-none len i h)
path-none len i h t (s ∷ path) none is = absurd (omega arith)
