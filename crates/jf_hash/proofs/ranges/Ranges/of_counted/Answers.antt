use Rattle.std.proofs.Common.{◌≡◌, ◌≤◌, ◌+◌, ℕ, ◌∙◌, ap, sym, subst, arith, length, replicate, Result, Ok, Err, MatchResult}
use Rattle.std.proofs.lemmas.List.{length-map}
use Rattle.jf_hash.specs.Slots.{is_occupied}
use Rattle.jf_hash.specs.Ranges.{Agree}
use Rattle.jf_hash.specs.declared.slot.Slot.TheVariants as slot
use Rattle.jf_hash.proofs.RangeLaws.{pairs_within-once}
use Rattle.jf_hash.proofs.RangeHashes.{agree_all, kept_hashes-none, range_hash-none}
use Rattle.jf_hash.proofs.ranges.Ranges.of_counted.Goals as goal

-- the ranges are made as if no child had been there and each place had changed
pub returns-clause-ranges : goal.returns-clause-ranges
returns-clause-ranges g c =
    let slots = g.P.Places.slots c.args.places.now in
    let long : length slots ≡ 16 = sym (length-map slots is_occupied) ∙ sym (ap length c.children.ensures) ∙ c.know.ensures in
    c.updated_counted.ensures.ranges (replicate 16 slot.Absent) (c.none-nothing.ensures ∙ kept_hashes-none) (subst (λ bits. Agree (replicate 16 slot.Absent) bits slots) (sym c.all.ensures) (agree_all slot.Absent 16 slots long))

pub returns-clause-top : goal.returns-clause-top
returns-clause-top g c =
    let slots = g.P.Places.slots c.args.places.now in
    let long : length slots ≡ 16 = sym (length-map slots is_occupied) ∙ sym (ap length c.children.ensures) ∙ c.know.ensures in
    c.updated_counted.ensures.top (replicate 16 slot.Absent) (c.none-nothing.ensures ∙ kept_hashes-none) (c.empty.ensures ∙ sym range_hash-none) (subst (λ bits. Agree (replicate 16 slot.Absent) bits slots) (sym c.all.ensures) (agree_all slot.Absent 16 slots long))

at_most : {X E : Type 0} (r : Result X E) (new old pairs : ℕ) → MatchResult r (λ x. new ≡ old + pairs) (λ e. new ≡ old) → pairs + 1 ≤ 16 → new ≤ old + 15
at_most (Ok x) new old pairs is few = omega arith
at_most (Err e) new old pairs is few = omega arith

pub returns-clause-cost : goal.returns-clause-cost
returns-clause-cost g c =
    at_most c.updated_counted.result c.updated_counted.new.steps c.args.steps.now _ c.updated_counted.ensures.pairs (pairs_within-once 4 (g.P.Places.slots c.args.places.now) c.all.result)
