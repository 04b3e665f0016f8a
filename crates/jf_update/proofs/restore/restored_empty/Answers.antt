use Rattle.std.proofs.Common.{[], subst, sym}
use Rattle.jf_update.specs.Restored.{IsRestored}
use Rattle.jf_update.proofs.RestoreLaws.{empty_restored, empty_refused}
use Rattle.jf_update.proofs.restore.restored_empty.Goals as goal

pub returns-then-versions-eq1-clause-restored : goal.returns-then-versions-eq1-clause-restored
returns-then-versions-eq1-clause-restored c = subst (IsRestored c.args.version [] c.args.versions.now) (sym c.empty.ensures) (empty_restored c.args.version c.args.versions.now c.requires c.if-versions-eq1.true)

pub returns-else-versions-eq1-clause-refused : goal.returns-else-versions-eq1-clause-refused
returns-else-versions-eq1-clause-refused c e = empty_refused c.args.version c.args.versions.now c.if-versions-eq1.false
