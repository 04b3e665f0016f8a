-- the parts so far end in the text
use Rattle.std.proofs.Common.{◌≤◌, length}
use Rattle.jf_session.proofs.ahead.parts_of.Given as goal

abbrev pub invariant-loop-part : goal.invariant-loop-part
invariant-loop-part l = l.start ≤ length l.text
