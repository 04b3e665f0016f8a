use Rattle.std.proofs.Common.{◌≡◌, ℕ, zero, suc, ◌+◌, ◌-◌, ◌*◌, ◌%◌, ◌^◌, ◌∙◌, ◌≤◌, ap, ap₂, arith, length, pow-suc, refl, sym}
use Rattle.jf_hash.specs.Roots.{part_root}
use Rattle.jf_hash.specs.Slots.{Part, slots_of}
use Rattle.jf_hash.specs.Ranges.{IsRange, in_range}
use Rattle.jf_hash.proofs.RangeLaws.{range_level, some_power}
use Rattle.jf_hash.proofs.SlotLaws.{all_of, length-slots_of}
use Rattle.jf_node.proofs.KeptRanges.{kept_there}
use Rattle.jf_node.proofs.RangePlaces.{same_count, place_none, place_some, places_none, places_leaf}
use Rattle.jf_node.proofs.link.Link.range_hash.Goals as goal

-- sixteen places are those of level 4
level_of_all : (level : ℕ) → 16 ≡ 2 ^ level → level ≡ 4
level_of_all zero is = absurd (omega arith)
level_of_all (suc zero) is = absurd (omega arith)
level_of_all (suc (suc zero)) is = absurd (omega arith)
level_of_all (suc (suc (suc zero))) is = absurd (omega arith)
level_of_all (suc (suc (suc (suc zero)))) is = refl
level_of_all (suc (suc (suc (suc (suc n))))) is =
    absurd (omega (arith, is, some_power n, pow-suc 2 n, pow-suc 2 (suc n), pow-suc 2 (suc (suc n)), pow-suc 2 (suc (suc (suc n))), pow-suc 2 (suc (suc (suc (suc n))))))

-- the range of all places has all entries
all_places : (d start width level : ℕ) (es : Part) → IsRange start width → width ≡ 16 → width ≡ 2 ^ level → part_root (4 * d) es ≡ part_root (4 * d + (4 - level)) (in_range d start width es)
all_places d start width level es range whole wide =
    let four = level_of_all level (sym whole ∙ wide) in
    let aligned : start % 16 ≡ 0 = ap (λ w. start % w) (sym whole) ∙ range.aligned in
    let first : 0 ≡ start = (let within = range.within in omega arith) in
    ap₂ part_root (let e : 4 * d ≡ 4 * d + (4 - level) = omega (arith, four) in e)
    (sym (all_of d es) ∙ ap₂ (λ s w. in_range d s w es) first (sym whole))

pub returns-then-width-eq16 : goal.returns-then-width-eq16
returns-then-width-eq16 c level wide =
    c.hash.ensures ∙ all_places c.args.self.now.depth c.args.start c.args.width level c.args.self.now.entries c.requires.range c.if-width-eq16.true wide

pub returns-in-None : goal.returns-in-None
returns-in-None c level wide = c.empty.ensures ∙ place_none c.args.self.now _ c.args.start c.args.width _ c.in-Inner.ensures.shows c.requires.range.within c.if-width-eq1.true c.in-None.ensures

pub returns-in-Some : goal.returns-in-Some
returns-in-Some c level wide = c.hash-in-Some.ensures ∙ place_some c.args.self.now _ c.args.start c.args.width level _ c.in-Inner.ensures.shows c.requires.range.within c.if-width-eq1.true wide c.in-Some.ensures

pub returns-in-Nothing : goal.returns-in-Nothing
returns-in-Nothing c level wide = c.empty-in-Nothing.ensures ∙ places_none c.args.self.now _ c.args.start c.args.width _ c.in-Inner.ensures.shows c.in-Nothing.ensures

pub returns-in-Leaf-at : goal.returns-in-Leaf-at
returns-in-Leaf-at c level wide = c.hash-in-Leaf-at.ensures ∙ places_leaf c.args.self.now _ c.args.start c.args.width _ c.in-Leaf-at.child.now c.in-Inner.ensures.shows c.in-Leaf-at.ensures

pub unreachable-requires-in-None-hash : goal.unreachable-requires-in-None-hash
unreachable-requires-in-None-hash c =
    let x = c.args.self.now in
    let start = c.args.start in
    let width = c.args.width in
    let shows = c.in-Inner.ensures.shows in
    let level = range_level start width c.requires.range in
    let two : 2 ≤ length (in_range x.depth start width x.entries) = omega (arith, c.in-More.ensures, ap length (same_count x c.in-Inner.children.now start width shows)) in
    kept_there x c.in-Inner.children.now start width level.0 shows two (c.in-None-hash.ensures.value (slots_of x.depth x.entries) level.0 (length-slots_of x.depth x.entries) c.ranges-in-More.ensures level.2)
