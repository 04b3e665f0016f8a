-- The nodes of the parts before the present one are added.
use Rattle.std.proofs.Common.{◌≡◌, ◌++◌, take}
use Rattle.jf_diff.specs.Spelled.{nodes_of}
use Rattle.jf_diff.proofs.named_nodes.copy_parts.Given as goal

abbrev pub invariant-loop-part : goal.invariant-loop-part
invariant-loop-part l = l.out.items ≡ l.fn.out.items ++ nodes_of (take l.part-index l.parts)
