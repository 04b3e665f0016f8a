use Rattle.std.proofs.Common.{length}
use Rattle.jf_io.specs.Lines.{lines}
use Rattle.jf_serve.proofs.LinesAnswered.{GoesThrough}
use Rattle.jf_serve.proofs.one_session.answer_lines.Given as goal

-- the first lines were answered
abbrev pub invariant-loop-line : goal.invariant-loop-line
invariant-loop-line g l = GoesThrough l.store l.fn.session.pass.number (lines l.fn.script) (lines l.left) l.session l.text

abbrev pub decreases-loop-line : goal.decreases-loop-line
decreases-loop-line g l = length l.left
