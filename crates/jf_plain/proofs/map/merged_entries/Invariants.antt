use Rattle.std.proofs.Common.{◌≡◌, ◌≤◌, ◌++◌, length, drop}
use Rattle.jf_model.specs.Changes.{entries_after_batch}
use Rattle.jf_plain.proofs.map.merged_entries.Given as goal

-- what was merged so far, with the rest of the batch applied to the rest of the entries, is the whole batch applied to them all
abbrev pub invariant-loop-key : goal.invariant-loop-key
invariant-loop-key l = record {
  within : l.next ≤ length l.entries;
  whole : l.merged.items ++ entries_after_batch (drop l.next l.entries) (drop l.key-index l.batch) ≡ entries_after_batch l.entries l.batch;
}
