-- The nodes before the present one are counted.
use Rattle.std.proofs.Common.{◌≡◌, length, map, take}
use Rattle.std.specs.List.{flat_map}
use Rattle.jf_codec.specs.declared.format.Format.TheVariants as format
use Rattle.jf_payload.specs.Spelling.{fresh_bytes}
use Rattle.jf_diff.specs.Plains.{plain_item}
use Rattle.jf_diff.proofs.spelled_nodes.length_of.Given as goal

abbrev pub invariant-loop-item : goal.invariant-loop-item
invariant-loop-item l = l.length ≡ length (flat_map (fresh_bytes format.Two) (map plain_item (take l.item-index l.nodes)))
