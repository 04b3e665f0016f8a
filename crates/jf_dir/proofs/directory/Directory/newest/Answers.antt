use Rattle.std.proofs.Common.{subst}
use Rattle.jf_standing.specs.Standing.{Standing}
use Rattle.jf_dir.specs.Directories.{IsSnapshotAt}
use Rattle.jf_dir.proofs.Lookups.{held-newest}
use Rattle.jf_dir.proofs.directory.Directory.newest.Goals as goal

pub returns : goal.returns
returns c =
    subst (λ (s : Standing). IsSnapshotAt s s.head c.in-Some.snapshot.now) c.self.view_is
    (held-newest _ _ _ _ _ _ c.self.invariant c.self.inside.snapshots.len c.in-Some.snapshot.now c.self.inside.snapshots.ok.0 c.in-Some.ensures.lookup)
