-- What the format keeps of each node has a spelling.
use Rattle.std.proofs.Common.{subst}
use Rattle.jf_payload.specs.Spelling.{IsRecord}
use Rattle.jf_payload.specs.Counted.{record_in}
use Rattle.jf_payload.proofs.FormatLaws.{fresh_nodes, live_nodes, group_nodes}
use Rattle.jf_payload.proofs.encoding.put_record.Goals as goal

pub put_commit-requires : goal.put_commit-requires
put_commit-requires c = let sound = subst (λ r. IsRecord c.args.format (record_in c.args.format r)) c.in-NodeCommit.is c.requires in fresh_nodes c.args.format c.in-NodeCommit.commit.fresh sound.fresh

pub put_live-requires : goal.put_live-requires
put_live-requires c =
    let sound = subst (λ r. IsRecord c.args.format (record_in c.args.format r)) c.in-Checkpoint.is c.requires in
    rw c.as_slice-in-Checkpoint.ensures (live_nodes c.args.format c.in-Checkpoint.nodes sound.nodes_fit)

pub put_commits-requires : goal.put_commits-requires
put_commits-requires c =
    let sound = subst (λ r. IsRecord c.args.format (record_in c.args.format r)) c.in-Group.is c.requires in
    rw c.as_slice-in-Group.ensures (group_nodes c.args.format c.in-Group.commits sound.commits)
