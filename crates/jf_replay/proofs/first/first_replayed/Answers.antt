use Rattle.std.proofs.Common.{subst}
use Rattle.jf_payload.specs.Spelling.{IsSpelling}
use Rattle.jf_replay.proofs.Checkpoints.{generation_first}
use Rattle.jf_replay.proofs.first.first_replayed.Goals as goal

pub returns-in-Checkpoint-clause-generation : goal.returns-in-Checkpoint-clause-generation
returns-in-Checkpoint-clause-generation g c = λ kind payload is.
    let r = c.in-Checkpoint in
    generation_first c.args.format r.generation r.base r.floor r.head r.roots r.nodes c.checkpoints_are_numbered.ensures kind payload (subst (λ found. IsSpelling c.args.format found kind payload) r.is is)
