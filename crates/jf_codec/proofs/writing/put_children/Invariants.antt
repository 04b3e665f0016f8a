-- The children before the present one are written.
use Rattle.std.proofs.Common.{◌≡◌, ◌++◌, take}
use Rattle.std.specs.List.{flat_map}
use Rattle.jf_codec.specs.Spelling.{child_bytes}
use Rattle.jf_codec.proofs.writing.put_children.Given as goal

abbrev pub invariant-loop-child : goal.invariant-loop-child
invariant-loop-child l = l.out ≡ l.fn.out ++ flat_map (child_bytes l.format) (take l.child-index l.children)
