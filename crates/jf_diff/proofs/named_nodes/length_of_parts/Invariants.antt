-- The parts before the present one are counted.
use Rattle.std.proofs.Common.{◌≡◌, length, take}
use Rattle.std.specs.List.{flat_map}
use Rattle.jf_codec.specs.declared.format.Format.TheVariants as format
use Rattle.jf_payload.specs.Spelling.{fresh_bytes}
use Rattle.jf_diff.specs.Spelled.{nodes_of}
use Rattle.jf_diff.proofs.named_nodes.length_of_parts.Given as goal

abbrev pub invariant-loop-part : goal.invariant-loop-part
invariant-loop-part l = l.length ≡ length (flat_map (fresh_bytes format.Two) (nodes_of (take l.part-index l.parts)))
