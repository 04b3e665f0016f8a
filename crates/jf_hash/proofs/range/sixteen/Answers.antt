use Rattle.std.proofs.Common.{◌≡◌, ◌+◌, ◌-◌, ◌∙◌, ap, ap₂, arith, length, take, drop, take_all}
use Rattle.jf_hash.specs.Slots.{range_hash}
use Rattle.jf_hash.proofs.SlotLaws.{range_hash-all}
use Rattle.jf_hash.proofs.Halves.{range_within, small_range, length-places}
use Rattle.jf_hash.proofs.range.sixteen.Goals as goal

pub slice_bounds-hash_of-end : goal.slice_bounds-hash_of-end
slice_bounds-hash_of-end c = omega (arith, range_within _ _ c.requires.range)

pub returns-clause-value : goal.returns-clause-value
returns-clause-value c level wide =
    let range = c.requires.range in
    let n : c.args.start + c.args.width - c.args.start ≡ c.args.width = omega arith in
    let same = ap (λ k. take k (drop c.args.start c.args.children.now)) n in
    c.hash_of.ensures level (small_range _ _ level range wide) (ap length same ∙ length-places c.args.start c.args.width c.args.children.now c.told-children (range_within _ _ range) ∙ wide)
    ∙ ap (range_hash level) same

pub returns-clause-root : goal.returns-clause-root
returns-clause-root c d es below is from all =
    let slots = c.args.children.now in
    let whole : take c.args.width (drop c.args.start slots) ≡ slots =
    ap₂ (λ w s. take w (drop s slots)) all from ∙ take_all 16 slots (omega (arith, c.told-children)) in
    returns-clause-value c 4 all ∙ ap (range_hash 4) (whole ∙ is) ∙ range_hash-all d es below
