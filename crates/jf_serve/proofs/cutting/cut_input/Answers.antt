use Rattle.std.proofs.Common.{arith}
use Rattle.jf_serve.proofs.ScriptCuts.{scripts-some, scripts-more}
use Rattle.jf_serve.proofs.cutting.cut_input.Goals as goal

pub returns-then-len-eq-MAX_SESSIONS-clause-full : goal.returns-then-len-eq-MAX_SESSIONS-clause-full
returns-then-len-eq-MAX_SESSIONS-clause-full c = λ _.
    let cut = rw c.in-Some.is at c.loop-rest.invariant.cut in
    omega (arith, scripts-more c.loop-rest.scripts c.args.input.now c.in-Some.bytes.now cut, c.len.ensures, c.if-len-eq-MAX_SESSIONS.true)

pub returns-clause-number : goal.returns-clause-number
returns-clause-number c =
    let cut = rw c.in_default.is at c.loop-rest.invariant.cut in
    (scripts-some c.loop-rest.scripts c.args.input.now cut, c.loop-rest.invariant.number)
