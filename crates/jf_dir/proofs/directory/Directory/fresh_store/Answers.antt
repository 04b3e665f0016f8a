use Rattle.std.specs.Prelude.{IfOk}
use Rattle.std.specs.FinMap.{len}
use Rattle.std.proofs.Common.{◌≡◌, ◌≤◌, ◌^◌, [], ap, ◌∙◌, sym, subst}
use Rattle.jf_node.specs.SnapshotValue.{SnapshotValue}
use Rattle.jf_standing.specs.Standing.{Standing}
use Rattle.jf_dir.specs.Directories.{snapshot_standing}
use Rattle.jf_dir.proofs.HeldAfter.{len-empty_map, begun-new}
use Rattle.jf_dir.proofs.directory.Directory.fresh_store.Goals as goal

pub of-requires-clause-room : goal.of-requires-clause-room
of-requires-clause-room c = subst (λ (x : SnapshotValue). len x.map ≤ 2 ^ 63) (sym c.empty.ensures) len-empty_map

pub returns : goal.returns
returns c = subst (λ (t : Standing). IfOk c.of.result (λ d. d ≡ t)) (ap (snapshot_standing 0 []) c.empty.ensures ∙ begun-new) c.of.ensures
