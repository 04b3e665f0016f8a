use Rattle.std.proofs.Common.{◌≡◌, ℕ, zero, suc, ◌+◌, ◌-◌, ◌*◌, ◌%◌, ◌^◌, ◌≤◌, ◌∙◌, sym, ap, subst, arith, None, IfSome, take, drop, get_or, pow-suc}
use Rattle.jf_hash.specs.Roots.{part_root}
use Rattle.jf_hash.specs.Slots.{occupants, slots_of, range_hash}
use Rattle.jf_hash.proofs.SlotLaws.{length-slots_of, range_hash-slots_of}
use Rattle.jf_hash.specs.Ranges.{IsRange, in_range, is_many, kept_hash, kept_hashes, range_index}
use Rattle.jf_hash.proofs.RangeLaws.{kept_hashes-at, some_power}
use Rattle.jf_hash.proofs.KeptLaws.{kept_is}
use Rattle.jf_hash.proofs.Halves.{small_range}
use Rattle.jf_hash.proofs.ranges.Ranges.hash.Goals as goal

-- a width of two or more has a level above 0
some_level : (width level : ℕ) → width ≡ 2 ^ level → 2 ≤ width → 1 ≤ level
some_level width zero is wide = absurd (omega arith)
some_level width (suc level) is wide = omega arith

-- a width of at most eight has a level of at most three
at_most_three : (width level : ℕ) → width ≡ 2 ^ level → width ≤ 8 → level ≤ 3
at_most_three width zero is narrow = omega arith
at_most_three width (suc zero) is narrow = omega arith
at_most_three width (suc (suc zero)) is narrow = omega arith
at_most_three width (suc (suc (suc zero))) is narrow = omega arith
at_most_three width (suc (suc (suc (suc n)))) is narrow = absurd (omega (arith, is, pow-suc 2 (suc (suc (suc n))), pow-suc 2 (suc (suc n)), pow-suc 2 (suc n), pow-suc 2 n, some_power n))

aligned_at : (start width level : ℕ) → IsRange start width → width ≡ 2 ^ level → start % 2 ^ level ≡ 0
aligned_at start width level range is = ap (λ w. start % w) (sym is) ∙ range.aligned

pub returns-clause-value : goal.returns-clause-value
returns-clause-value c slots level long is wide =
    let r = c.requires.range in
    c.at.ensures ∙ ap (λ hs. get_or hs (range_index c.args.start c.args.width) None) is ∙ ap (λ w. get_or (kept_hashes slots) (range_index c.args.start w) None) wide
    ∙ kept_hashes-at level c.args.start slots None (some_level c.args.width level wide c.requires.wide) (at_most_three c.args.width level wide c.requires.narrow) (aligned_at c.args.start c.args.width level r wide) r.within long
    ∙ ap (λ w. kept_hash level (take w (drop c.args.start slots))) (sym wide)

pub returns-clause-root : goal.returns-clause-root
returns-clause-root c d es level below is wide =
    let r = c.requires.range in
    let places = take c.args.width (drop c.args.start (slots_of d es)) in
    let root : range_hash level places ≡ part_root (4 * d + (4 - level)) (in_range d c.args.start c.args.width es) =
    ap (λ w. range_hash level (take w (drop c.args.start (slots_of d es)))) wide
    ∙ range_hash-slots_of level d c.args.start es (small_range c.args.start c.args.width level r wide) below r.within (aligned_at c.args.start c.args.width level r wide)
    ∙ ap (λ w. part_root (4 * d + (4 - level)) (in_range d c.args.start w es)) (sym wide) in
    subst (λ o. IfSome o (λ hash. hash ≡ part_root (4 * d + (4 - level)) (in_range d c.args.start c.args.width es))) (sym (returns-clause-value c (slots_of d es) level (length-slots_of d es) is wide))
    (kept_is (is_many (occupants places)) (range_hash level places) (part_root (4 * d + (4 - level)) (in_range d c.args.start c.args.width es)) root)
