-- A part of the hashes with its inner totals, cut in two as its hashes are.
use Rattle.std.specs.Prelude.{◌≡◌, ℕ, ◌+◌, ◌-◌, ◌<◌, ◌≤◌, List, length, take, drop}
use Rattle.std.proofs.Common.{arith, sym, ap, ap₂, ◌∙◌, get_or, length-drop, length-append}
use Rattle.jf_accum.specs.Totals.{left_count, total}
use Rattle.jf_accum.specs.Inner.{inner_totals}
use Rattle.jf_accum.proofs.Counts.{left_count-tells}
use Rattle.jf_accum.proofs.MemberLaws.{Path}
use Rattle.jf_accum.proofs.InnerLaws.{left_inner, right_inner-even, right_inner-uneven, length-left_inner, length-even, own-last, inner_totals-split}

-- what is known of a part: its hashes, two or more, their inner totals, and how many the left part has
pub record IsCut (us inner : Path) (k : ℕ) : Type 0 where
  pub two : 1 < length us
  pub kept : inner ≡ inner_totals us
  pub count : k ≡ left_count (length us)

pub is-cut : (hs us inner : Path) (len k : ℕ) → us ≡ hs → inner ≡ inner_totals us → 1 < length hs → len ≡ length hs → k ≡ left_count len → IsCut us inner k
is-cut hs us inner len k same kept two long count = record { two = omega (arith, ap length same); kept = kept; count = count ∙ ap left_count (long ∙ sym (ap length same)) }

pub cut-count : (us inner : Path) (k : ℕ) → IsCut us inner k → (0 < k) × (k < length us) × (length us ≤ k + k)
cut-count us inner k cut =
    let tells = left_count-tells (length us) cut.two in
    let count = cut.count in
    let some = tells.positive in
    let below = tells.below in
    let half = tells.half in
    (omega arith, omega arith, omega arith)

pub cut-left_room : (us inner : Path) (k : ℕ) → IsCut us inner k → k - 1 ≤ length inner
cut-left_room us inner k cut =
    let count = cut.count in
    let split = ap length (cut.kept ∙ inner_totals-split us cut.two) in
    omega (arith, split, length-left_inner us cut.two, length-append {A = List ℕ})

pub cut-left : (us inner : Path) (k : ℕ) (ls left : Path) → IsCut us inner k → ls ≡ take k us → left ≡ take (k - 1) inner → left ≡ inner_totals ls
cut-left us inner k ls left cut is_ls is_left =
    is_left ∙ ap₂ (λ (n : ℕ) (i : Path). take (n - 1) i) cut.count cut.kept ∙ left_inner us cut.two
    ∙ ap inner_totals (ap (λ n. take n us) (sym cut.count) ∙ sym is_ls)

pub cut-even : (us inner : Path) (k : ℕ) (rs : Path) → IsCut us inner k → rs ≡ drop k us → length rs ≡ k → length us ≡ left_count (length us) + left_count (length us)
cut-even us inner k rs cut is_rs even =
    let count = cut.count in
    let counts = cut-count us inner k cut in
    let long : length rs ≡ length us - k = ap length is_rs ∙ length-drop k us in
    omega (arith, counts.1)

pub cut-right_room : (us inner : Path) (k : ℕ) (rs rest : Path) → IsCut us inner k → rs ≡ drop k us → rest ≡ drop (k - 1) inner → length rs ≡ k → k - 1 ≤ length rest
cut-right_room us inner k rs rest cut is_rs is_rest even =
    let count = cut.count in
    let full = length-even us cut.two (cut-even us inner k rs cut is_rs even) in
    let counts = cut-count us inner k cut in
    let long : length rest ≡ length inner - (k - 1) = ap length is_rest ∙ length-drop (k - 1) inner in
    let kept = ap length cut.kept in
    omega (arith, counts.0, counts.1, cut-even us inner k rs cut is_rs even)

pub cut-right-even : (us inner : Path) (k : ℕ) (rs rest right : Path) → IsCut us inner k → rs ≡ drop k us → rest ≡ drop (k - 1) inner → length rs ≡ k → right ≡ take (k - 1) rest → right ≡ inner_totals rs
cut-right-even us inner k rs rest right cut is_rs is_rest even is_right =
    is_right ∙ ap (take (k - 1)) is_rest ∙ ap₂ (λ (n : ℕ) (i : Path). take (n - 1) (drop (n - 1) i)) cut.count cut.kept
    ∙ right_inner-even us cut.two (cut-even us inner k rs cut is_rs even)
    ∙ ap inner_totals (ap (λ n. drop n us) (sym cut.count) ∙ sym is_rs)

pub cut-right-uneven : (us inner : Path) (k : ℕ) (rs rest : Path) → IsCut us inner k → rs ≡ drop k us → rest ≡ drop (k - 1) inner → (length rs ≡ k → ⊥) → rest ≡ inner_totals rs
cut-right-uneven us inner k rs rest cut is_rs is_rest uneven =
    let count = cut.count in
    let counts = cut-count us inner k cut in
    let long : length rs ≡ length us - k = ap length is_rs ∙ length-drop k us in
    is_rest ∙ ap₂ (λ (n : ℕ) (i : Path). drop (n - 1) i) cut.count cut.kept
    ∙ right_inner-uneven us cut.two (λ even. uneven (omega (arith, counts.1)))
    ∙ ap inner_totals (ap (λ n. drop n us) (sym cut.count) ∙ sym is_rs)

-- the total is kept, or made of those of the parts
pub cut-total-even : (us inner : Path) (k : ℕ) (d : List ℕ) → IsCut us inner k → length us - k ≡ k → get_or inner (length us - 2) d ≡ total us
cut-total-even us inner k d cut even =
    let count = cut.count in
    let counts = cut-count us inner k cut in
    ap (λ (i : Path). get_or i (length us - 2) d) cut.kept ∙ own-last us d cut.two (omega (arith, counts.1))

pub cut-last_room : (us inner : Path) (k : ℕ) → IsCut us inner k → length us - k ≡ k → length us - 2 < length inner
cut-last_room us inner k cut even =
    let count = cut.count in
    let counts = cut-count us inner k cut in
    let kept = ap length cut.kept in
    let two = cut.two in
    omega (arith, length-even us cut.two (omega (arith, counts.1)), counts.1)
