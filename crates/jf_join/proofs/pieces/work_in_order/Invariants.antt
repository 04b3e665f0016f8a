use Rattle.std.proofs.Common.{take}
use Rattle.jf_join.specs.Answers.{AnswersEach}
use Rattle.jf_join.proofs.pieces.work_in_order.Given as goal

abbrev pub invariant-loop-place : goal.invariant-loop-place
invariant-loop-place g l = AnswersEach g.F.Fn l.f (take l.place l.pieces) l.answers.items
