use Rattle.std.proofs.Common.{ap, Err}
use Rattle.jf_replay.proofs.Written.{refused-unsound}
use Rattle.jf_replay.proofs.next.take_next.Goals as goal

pub returns-in-Err-clause-unsound : goal.returns-in-Err-clause-unsound
returns-in-Err-clause-unsound g c = λ at is.
    let told = refused-unsound c.in-Err.fault c.args.framed.offset at c.refused_at.result c.refused_at.ensures (cc) in
    (told.1, λ s follows. c.in-Err.ensures.unsound (ap (λ f. Err f) told.0) follows.0 s follows.1 follows.2)
