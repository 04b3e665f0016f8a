use Rattle.std.proofs.Common.{◌∙◌, sym, arith}
use Rattle.jelly.proofs.Leaves.{rise-more_entries, rise-broken_entries}
use Rattle.jelly.proofs.root.are_sorted.Goals as goal

pub returns-then-not-is_below : goal.returns-then-not-is_below
returns-then-not-is_below c = rise-broken_entries c.args.entries.now c.loop-i.i _ _ (omega arith) (omega arith) (sym c.is_below.ensures ∙ c.if-not-is_below.true)

pub loop-i-preserved : goal.loop-i-preserved
loop-i-preserved c = rise-more_entries c.args.entries.now c.loop-i.i _ _ (omega arith) (omega arith) (sym c.is_below.ensures ∙ c.if-not-is_below.false) c.loop-i.invariant
