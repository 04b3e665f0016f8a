use Rattle.std.proofs.Common.{arith, ap, ◌∙◌, sym, length}
use Rattle.jf_accum.proofs.InnerLaws.{inner_totals-short}
use Rattle.jf_accum.proofs.accumulator.Accumulator.with_capacity.Goals as goal

pub invariant_of-result : goal.invariant_of-result
invariant_of-result c = c.in_ok-with_capacity-2.ensures.items ∙ sym (inner_totals-short c.in_ok-with_capacity.field-0.items (omega (arith, ap length c.in_ok-with_capacity.ensures.items)))
