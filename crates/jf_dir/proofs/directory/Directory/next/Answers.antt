use Rattle.jf_dir.proofs.NextLandings.{next-landing, next-own}
use Rattle.jf_dir.proofs.directory.Directory.next.Goals as goal

pub returns-clause-landing : goal.returns-clause-landing
returns-clause-landing g c =
    rw c.of.ensures (next-landing c.args.self.now c.newest-head.result.now c.in_ok-snapshot.snapshot c.args.entries.now c.newest-head.ensures c.in_ok-snapshot.ensures c.requires.bounded
    _ _ _ c.root.ensures c.in_ok-fresh.ensures.fresh c.in_ok-fresh.ensures.stale c.as_slice.ensures.sorted)

pub returns-clause-own : goal.returns-clause-own
returns-clause-own g c =
    rw c.of.ensures (next-own c.args.self.now c.newest-head.result.now c.in_ok-snapshot.snapshot c.args.entries.now c.newest-head.ensures c.in_ok-snapshot.ensures c.requires.bounded
    _ _ _ c.root.ensures c.in_ok-fresh.ensures.fresh c.in_ok-fresh.ensures.stale c.as_slice.ensures.sorted)
