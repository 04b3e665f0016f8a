-- Where an extension comes apart from the trees of the two lists, one step down.
use Rattle.std.specs.Prelude.{◌≡◌, ◌≢◌, ℕ, ◌+◌, ◌-◌, ◌<◌, ◌≤◌, Bool, false, List, [], ◌∷◌, ◌++◌, length, reverse, take, drop}
use Rattle.std.proofs.Common.{arith, sym, ap, ap₂, ◌∙◌, refl, inl, inr, length-take, length-drop, take-append-drop}
use Rattle.std.proofs.lemmas.Bool.{cases_lt}
use Rattle.std.proofs.lemmas.List.{take-take, take_all, drop-take}
use Rattle.jf_accum.specs.Totals.{B, left_count, total}
use Rattle.jf_accum.specs.Extensions.{extension_count_in, extension_totals}
use Rattle.jf_accum.specs.Outcomes.{IsFront}
use Rattle.jf_accum.proofs.Counts.{left_count-tells, left_count-same}
use Rattle.jf_accum.proofs.MemberLaws.{Path}
use Rattle.jf_accum.proofs.ExtensionLaws.{extension_count_in-left, extension_count_in-right, extension_totals-none, extension_totals-all, both-left, both-right}
use Rattle.jf_accum.proofs.ClashSteps.{cut-total}

abbrev Pair : Type 0
Pair = List ℕ × List ℕ

-- the result of an extension given with the lowest total first
abbrev pub totals : List ℕ → ℕ → ℕ → Path → Pair
totals ot m len path = extension_totals ot m len (reverse path)

-- ---- as many old hashes as all
one_total : (ot : List ℕ) (m len : ℕ) (ss : Path) → m ≡ len → (extension_totals ot m len ss).0 ≡ (extension_totals ot m len ss).1
one_total ot m len [] all = ap (λ (t : Pair). t.0) (extension_totals-none ot m len) ∙ sym (ap (λ (t : Pair). t.1) (extension_totals-none ot m len))
one_total ot m len (s ∷ ss) all = ap (λ (t : Pair). t.0) (extension_totals-all ot m len s ss all) ∙ sym (ap (λ (t : Pair). t.1) (extension_totals-all ot m len s ss all))

pub all-meet : (ot : List ℕ) (old list path : Path) → length old ≡ length list → (totals ot (length old) (length list) path).0 ≡ total old → (totals ot (length old) (length list) path).1 ≡ total list → total old ≡ total list
all-meet ot old list path all old_meets meets = sym old_meets ∙ one_total ot (length old) (length list) (reverse path) all ∙ meets

pub all-apart : (old list : Path) → length old ≡ length list → (IsFront old list → ⊥) → old ≢ list
all-apart old list all apart same = apart (take_all (length old) list (omega arith) ∙ sym same)

-- ---- fewer old hashes than all
pub some-left : (m len n : ℕ) (whole : Bool) → 0 < m → m ≤ len → (m ≡ len → ⊥) → n ≡ 0 → n ≡ extension_count_in len m whole → ⊥
some-left m len n whole some within part none count =
    let two : 1 < len = omega arith in
    elim (cases_lt (left_count len) m) [
      | inl hi ↦ absurd (omega (arith, extension_count_in-right len m whole two hi (omega arith)))
      | inr lo ↦ absurd (omega (arith, extension_count_in-left len m whole two some lo))
    ]

pub two-left : (m len : ℕ) → 0 < m → m ≤ len → (m ≡ len → ⊥) → 1 < len
two-left m len some within part = omega arith

pub left-length : (list left : Path) (k : ℕ) → k ≤ length list → left ≡ take k list → length left ≡ k
left-length list left k within is = omega (arith, ap length is, length-take k list)

pub right-length : (list right : Path) (k : ℕ) → right ≡ drop k list → length right ≡ length list - k
right-length list right k is = ap length is ∙ length-drop k list

-- ---- the old hashes end in the left part
pub below-left : (ot s : List ℕ) (m len k : ℕ) (path lower : Path) (below : Pair) → (m ≡ len → ⊥) → k ≡ left_count len → m ≤ k → path ≡ lower ++ s ∷ [] → below ≡ totals ot m k lower → totals ot m len path ≡ (below.0, B below.1 s)
below-left ot s m len k path lower below part count lo is_path is_below = sym (both-left ot s (B below.1 s) below m len k path lower part count lo is_path is_below refl)

pub left-meet : (ot s lt rt : List ℕ) (m k : ℕ) (list left right path lower : Path) (below : Pair) → 1 < length list → (m ≡ length list → ⊥) → k ≡ left_count (length list) → m ≤ k → path ≡ lower ++ s ∷ [] → below ≡ totals ot m k lower
    → left ≡ take k list → right ≡ drop k list → lt ≡ total left → rt ≡ total right → (totals ot m (length list) path).1 ≡ total list → B below.1 s ≡ B lt rt
left-meet ot s lt rt m k list left right path lower below two part count lo is_path is_below is_l is_r is_lt is_rt meets =
    sym (ap (λ (t : Pair). t.1) (below-left ot s m (length list) k path lower below part count lo is_path is_below)) ∙ meets
    ∙ cut-total list left right k two count is_l is_r ∙ sym (ap₂ B is_lt is_rt)

pub left-count : (m k n np : ℕ) (list left : Path) (whole : Bool) → 1 < length list → k ≡ left_count (length list) → 0 < m → m ≤ k → n + 1 ≡ np → np ≡ extension_count_in (length list) m whole → length left ≡ k → n ≡ extension_count_in (length left) m whole
left-count m k n np list left whole two count some lo more is long =
    let same : extension_count_in (length left) m whole ≡ extension_count_in (left_count (length list)) m whole = ap (λ j. extension_count_in j m whole) (long ∙ count) in
    omega (arith, extension_count_in-left (length list) m whole two some (omega arith))

pub left-old : (ot s : List ℕ) (m k : ℕ) (old list left path lower : Path) (below : Pair) → (m ≡ length list → ⊥) → k ≡ left_count (length list) → m ≤ k → path ≡ lower ++ s ∷ [] → below ≡ totals ot m k lower → length left ≡ k
    → (totals ot m (length list) path).0 ≡ total old → (totals ot m (length left) lower).0 ≡ total old
left-old ot s m k old list left path lower below part count lo is_path is_below long meets =
    ap (λ n. (totals ot m n lower).0) long ∙ ap (λ (t : Pair). t.0) (sym is_below) ∙ sym (ap (λ (t : Pair). t.0) (below-left ot s m (length list) k path lower below part count lo is_path is_below)) ∙ meets

pub left-new : (ot lt : List ℕ) (m k : ℕ) (left lower : Path) (below : Pair) → below ≡ totals ot m k lower → length left ≡ k → below.1 ≡ lt → lt ≡ total left → (totals ot m (length left) lower).1 ≡ total left
left-new ot lt m k left lower below is_below long same is_lt = ap (λ n. (totals ot m n lower).1) long ∙ ap (λ (t : Pair). t.1) (sym is_below) ∙ same ∙ is_lt

pub left-apart : (old list left : Path) (k : ℕ) → left ≡ take k list → length old ≤ k → (IsFront old list → ⊥) → IsFront old left → ⊥
left-apart old list left k is lo apart front = apart (sym (ap (take (length old)) is ∙ take-take (length old) k list lo) ∙ front)

-- ---- the old hashes end in the right part
pub below-right : (ot s : List ℕ) (m len k a b : ℕ) (path lower : Path) (below : Pair) → (m ≡ len → ⊥) → k ≡ left_count len → k < m → path ≡ lower ++ s ∷ [] → a ≡ m - k → b ≡ len - k → below ≡ totals ot a b lower
    → totals ot m len path ≡ (B s below.0, B s below.1)
below-right ot s m len k a b path lower below part count hi is_path is_a is_b is_below =
    sym (both-right ot s (B s below.0) (B s below.1) below m len k path lower part count hi is_path (is_below ∙ ap₂ (λ (x y : ℕ). totals ot x y lower) is_a is_b) refl refl)

pub right-meet : (ot s lt rt : List ℕ) (m k a b : ℕ) (list left right path lower : Path) (below : Pair) → 1 < length list → (m ≡ length list → ⊥) → k ≡ left_count (length list) → k < m → path ≡ lower ++ s ∷ [] → a ≡ m - k → b ≡ length list - k
    → below ≡ totals ot a b lower → left ≡ take k list → right ≡ drop k list → lt ≡ total left → rt ≡ total right → (totals ot m (length list) path).1 ≡ total list → B s below.1 ≡ B lt rt
right-meet ot s lt rt m k a b list left right path lower below two part count hi is_path is_a is_b is_below is_l is_r is_lt is_rt meets =
    sym (ap (λ (t : Pair). t.1) (below-right ot s m (length list) k a b path lower below part count hi is_path is_a is_b is_below)) ∙ meets
    ∙ cut-total list left right k two count is_l is_r ∙ sym (ap₂ B is_lt is_rt)

pub right-old_meet : (ot s lt rt : List ℕ) (len k a b : ℕ) (old left right path lower : Path) (below : Pair) → 1 < len → length old ≤ len → (length old ≡ len → ⊥) → k ≡ left_count len → k < length old → path ≡ lower ++ s ∷ [] → a ≡ length old - k → b ≡ len - k
    → below ≡ totals ot a b lower → left ≡ take k old → right ≡ drop k old → lt ≡ total left → rt ≡ total right → (totals ot (length old) len path).0 ≡ total old → B s below.0 ≡ B lt rt
right-old_meet ot s lt rt len k a b old left right path lower below two within part count hi is_path is_a is_b is_below is_l is_r is_lt is_rt meets =
    let some = left_count-tells len two in
    let positive = some.positive in
    let same : k ≡ left_count (length old) = count ∙ sym (left_count-same len (length old) two (omega arith) within) in
    sym (ap (λ (t : Pair). t.0) (below-right ot s (length old) len k a b path lower below part count hi is_path is_a is_b is_below)) ∙ meets
    ∙ cut-total old left right k (omega arith) same is_l is_r ∙ sym (ap₂ B is_lt is_rt)

pub right-count : (m k n np a b : ℕ) (list : Path) (whole : Bool) → 1 < length list → k ≡ left_count (length list) → k < m → m ≤ length list → (m ≡ length list → ⊥) → n + 1 ≡ np → np ≡ extension_count_in (length list) m whole → a ≡ m - k → b ≡ length list - k
    → n ≡ extension_count_in b a false
right-count m k n np a b list whole two count hi within part more is is_a is_b =
    let same : extension_count_in b a false ≡ extension_count_in (length list - left_count (length list)) (m - left_count (length list)) false = ap₂ (λ (x y : ℕ). extension_count_in x y false) (is_b ∙ ap (λ j. length list - j) count) (is_a ∙ ap (λ j. m - j) count) in
    omega (arith, extension_count_in-right (length list) m whole two (omega arith) (omega arith))

pub right-apart : (old list old_left old_right left right : Path) (k : ℕ) → old_left ≡ take k old → old_right ≡ drop k old → left ≡ take k list → right ≡ drop k list → k ≤ length old → length old ≤ length list → old_left ≡ left → (IsFront old list → ⊥)
    → IsFront old_right right → ⊥
right-apart old list old_left old_right left right k is_ol is_or is_l is_r lo within same apart front =
    let m = length old in
    let long : length old_right ≡ m - k = right-length old old_right k is_or in
    let sum : k + (m - k) ≡ m = omega arith in
    apart (sym (take-append-drop k (take m list)) ∙ ap₂ (λ (x y : Path). x ++ y) (take-take k m list lo ∙ sym is_l ∙ sym same ∙ is_ol) (ap (λ n. drop k (take n list)) (sym sum) ∙ drop-take k (m - k) list ∙ ap (take (m - k)) (sym is_r) ∙ ap (λ n. take n right) (sym long) ∙ front ∙ is_or) ∙ take-append-drop k old)
