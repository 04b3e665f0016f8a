use Rattle.std.proofs.Common.{◌≡◌, take}
use Rattle.jf_replay.proofs.copies.copy_of_children.Given as goal

-- the copy has the children so far
abbrev pub invariant-loop-child : goal.invariant-loop-child
invariant-loop-child l = l.copy ≡ take l.child-index l.children
