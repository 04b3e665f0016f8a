-- The records at the spans that are left, and then those that were cut off, are those of the log.
use Rattle.std.proofs.Common.{◌≡◌, ◌++◌, length, reverse}
use Rattle.jf_frame.specs.Framed.{AreInOrder, all_lying}
use Rattle.jf_frame.proofs.log.Log.into_records.Given as goal

abbrev pub invariant-loop-span : goal.invariant-loop-span
invariant-loop-span l = (all_lying l.bytes.items l.spans.items ++ reverse l.records.items ≡ l.fn.self.records) × AreInOrder 0 l.spans.items (length l.bytes.items)

abbrev pub decreases-loop-span : goal.decreases-loop-span
decreases-loop-span l = length l.spans.items
