use Rattle.std.proofs.Common.{◌≡◌, ℕ, ◌+◌, ◌-◌, ◌/◌, ◌^◌, ◌<◌, ◌∙◌, sym, ap, arith, inl, inr, List, true, false, length, length-append, map, is_some, replicate, take, drop, ◌++◌, set, append_assoc}
use Rattle.std.proofs.lemmas.List.{length-map, replicate-append-replicate}
use Rattle.jf_hash.specs.Ranges.{kept_within}
use Rattle.jf_hash.proofs.RangeLaws.{length-kept_within, some_power}
use Rattle.jf_hash.proofs.Halves.{halves, not_one, left_half, right_half}
use Rattle.jf_hash.proofs.RangeHashes.{bits-halves, appended}
use Rattle.jf_hash.proofs.Present.{IsNotHashed, bits-not_hashed, set-next}
use Rattle.jf_hash.proofs.occupied.Occupied.+mark.Goals.{then-width-lt2-via-then-width-lt2, then-width-lt2-via-else-width-lt2+then-not-is_many}
use Rattle.jf_hash.proofs.occupied.Occupied.+mark.Goals as goal

one_only : (level width : ℕ) → width ≡ 2 ^ level → width < 2 → 2 ^ level ≡ 1
one_only level width is few = omega (arith, some_power level)

pub returns-then-width-lt2 : goal.returns-then-width-lt2
returns-then-width-lt2 t c slots level before small wide long children leaves at was =
    let places = take c.args.width (drop c.args.start slots) in
    let why : IsNotHashed level places = elim c.then-width-lt2.branch [
      | then-width-lt2-via-then-width-lt2 w ↦ inl (one_only level c.args.width wide w.if-width-lt2.true)
      | then-width-lt2-via-else-width-lt2+then-not-is_many w ↦ inr (sym (w.is_many.ensures slots children leaves) ∙ w.if-not-is_many.true)
    ] in
    let n : (2 ^ level - 1) + (17 - (c.args.first + c.args.width)) ≡ 16 - c.args.first = omega (arith, wide, some_power level, c.requires.places) in
    was ∙ sym (
    ap (λ t. (before ++ t) ++ replicate (17 - (c.args.first + c.args.width)) false) (bits-not_hashed level places why)
    ∙ append_assoc before (replicate (2 ^ level - 1) false) (replicate (17 - (c.args.first + c.args.width)) false)
    ∙ ap (λ t. before ++ t) (replicate-append-replicate (2 ^ level - 1) (17 - (c.args.first + c.args.width)) false ∙ ap (λ k. replicate k false) n)
    )

length_bits : (level half : ℕ) (slots : List _) → half ≡ 2 ^ level → length (map (is_some {T = List ℕ}) (kept_within level slots)) + 1 ≡ half
length_bits level half slots is = ap (λ n. n + 1) (length-map (kept_within level slots) is_some) ∙ length-kept_within level slots ∙ sym is

pub returns : goal.returns
returns t c slots level before small wide long children leaves at was =
    let first = c.args.first in
    let start = c.args.start in
    let width = c.args.width in
    let half = width / 2 in
    let places = take width (drop start slots) in
    let some : 0 < level = not_one level width wide (λ one. omega (arith, one, c.if-width-lt2.false)) in
    let h = halves level width small some wide in
    let back : width - half ≡ half = omega (arith, h.twice, wide) in
    let in_half : half + half ≡ width = omega (arith, h.twice, wide) in
    let lefts = map is_some (kept_within (level - 1) (take half places)) in
    let rights = map is_some (kept_within (level - 1) (drop half places)) in
    let left_long : length lefts + 1 ≡ half = length_bits (level - 1) half (take half places) h.is in
    let right_long : length rights + 1 ≡ half = length_bits (level - 1) half (drop half places) h.is in
    let left = c.mark.ensures slots (level - 1) before (omega arith) h.is long children leaves at was ∙ ap (λ xs. (before ++ map is_some (kept_within (level - 1) xs)) ++ replicate (17 - (first + half)) false) (left_half half width start slots in_half) in
    let long_left : length (before ++ lefts) ≡ first + half - 1 = omega (arith, length-append before lefts, at, left_long, h.some) in
    let right =
    c.mark-2.ensures slots (level - 1) (before ++ lefts) (omega arith) (back ∙ h.is) long children leaves long_left (left ∙ ap (λ n. (before ++ lefts) ++ replicate n false) (let e : 17 - (first + half) ≡ 16 - (first + half - 1) = omega (arith, h.some) in e))
    ∙ ap (λ xs. ((before ++ lefts) ++ map is_some (kept_within (level - 1) xs)) ++ replicate (17 - (first + half - 1 + (width - half))) false) (right_half half width start slots in_half) in
    let long_right : length ((before ++ lefts) ++ rights) ≡ first + width - 2 = omega (arith, length-append (before ++ lefts) rights, long_left, right_long, in_half, h.some) in
    let many = sym (c.is_many.ensures slots children leaves) ∙ c.if-not-is_many.false in
    c.set.ensures ∙ ap (λ bits. set bits (first + width - 2) true) right
    ∙ set-next ((before ++ lefts) ++ rights) (first + width - 2) (17 - (first + half - 1 + (width - half))) (17 - (first + width)) long_right (omega (arith, in_half, back, h.some, c.requires.places))
    ∙ ap (λ t. t ++ replicate (17 - (first + width)) false) (appended before lefts rights (map is_some (kept_within level places)) true (bits-halves level half places some h.is many))
