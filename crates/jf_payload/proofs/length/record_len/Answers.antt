-- What the format keeps of each node has a spelling.
use Rattle.std.proofs.Common.{subst}
use Rattle.jf_payload.specs.Spelling.{IsRecord}
use Rattle.jf_payload.specs.Counted.{record_in}
use Rattle.jf_payload.proofs.FormatLaws.{fresh_nodes, live_nodes, group_nodes}
use Rattle.jf_payload.proofs.length.record_len.Goals as goal

pub commit_len-requires : goal.commit_len-requires
commit_len-requires c = let sound = subst (λ r. IsRecord c.args.format (record_in c.args.format r)) c.in-NodeCommit.is c.requires in fresh_nodes c.args.format c.in-NodeCommit.commit.fresh sound.fresh

pub live_len-requires : goal.live_len-requires
live_len-requires c =
    let sound = subst (λ r. IsRecord c.args.format (record_in c.args.format r)) c.in-Checkpoint.is c.requires in
    rw c.as_slice-in-Checkpoint.ensures (live_nodes c.args.format c.in-Checkpoint.nodes sound.nodes_fit)

pub commits_len-requires : goal.commits_len-requires
commits_len-requires c =
    let sound = subst (λ r. IsRecord c.args.format (record_in c.args.format r)) c.in-Group.is c.requires in
    rw c.as_slice-in-Group.ensures (group_nodes c.args.format c.in-Group.commits sound.commits)
