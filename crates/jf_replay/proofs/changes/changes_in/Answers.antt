use Rattle.std.proofs.Common.{ap, ◌∙◌}
use Rattle.jf_standing.proofs.Batches.{puts_of, removals_of}
use Rattle.jf_replay.specs.Changes.{put_each, leaves_at}
use Rattle.jf_replay.proofs.Puts.{put_each-by_key}
use Rattle.jf_replay.proofs.changes.changes_in.Goals as goal

pub returns-clause-found : goal.returns-clause-found
returns-clause-found c =
    let m = c.args.snapshot.now.map in
    c.in_ok-list.ensures ∙ c.in_ok-put_leaves.ensures
    ∙ ap (put_each (puts_of c.args.leaves.now)) c.in_ok-changes.ensures.found
    ∙ put_each-by_key (puts_of c.args.leaves.now) (removals_of (leaves_at m c.args.stale.now))
