use Rattle.std.proofs.Common.{sym, ◌∙◌, subst, T}
use Rattle.std.specs.FinMap.{is_sorted}
use Rattle.jf_path.specs.Keys.{key_cmp}
use Rattle.jf_split.proofs.KeyOrderLaws.{sorted-in_key_order}
use Rattle.jf_standing.specs.Named.{leaf_entries}
use Rattle.jf_update.specs.Restored.{AreShortEntries}
use Rattle.jf_replay.proofs.KeyOrder.{short-in_key_order}
use Rattle.jf_replay.proofs.floor.snapshot_of.Goals as goal

pub restored_from-requires-clause-sorted : goal.restored_from-requires-clause-sorted
restored_from-requires-clause-sorted c = subst (λ es. T (is_sorted key_cmp es)) (sym (c.deref.ensures.value ∙ c.in_ok-entries.ensures)) (sorted-in_key_order (leaf_entries c.args.nodes.now))

pub restored_from-requires-clause-short : goal.restored_from-requires-clause-short
restored_from-requires-clause-short c = subst AreShortEntries (sym (c.deref.ensures.value ∙ c.in_ok-entries.ensures)) (short-in_key_order c.args.format c.args.nodes.now c.requires.spelled)
