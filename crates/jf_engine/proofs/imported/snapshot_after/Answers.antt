-- The version after one without entries.
use Rattle.std.proofs.Common.{◌+◌, None, subst, ◌∙◌}
use Rattle.jf_node.specs.Snapshots.{snapshot_of}
use Rattle.jf_diff.specs.Landings.{IsNextSnapshot}
use Rattle.jf_diff.proofs.TopLaws.{ok_weaker}
use Rattle.jf_engine.specs.Imported.{IsImported}
use Rattle.jf_engine.proofs.ImportedSnapshot.{imported-next}
use Rattle.jf_engine.proofs.imported.snapshot_after.Goals as goal

pub returns : goal.returns
returns g c =
    ok_weaker (IsNextSnapshot c.empty-empty.result c.deref-2.result.now) (IsImported (c.args.before + 1) c.args.entries.now) (λ s next. imported-next c.args.before c.args.entries.now s c.requires.sorted
    (subst (λ b. IsNextSnapshot (snapshot_of c.args.before None) b s) (c.deref-2.ensures.value ∙ c.in_ok-puts.ensures.puts)
    (subst (λ h. IsNextSnapshot h c.deref-2.result.now s) c.empty-empty.ensures next))) c.advance.result c.advance.ensures
