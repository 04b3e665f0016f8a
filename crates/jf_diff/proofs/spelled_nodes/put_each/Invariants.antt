-- The nodes before the present one are written, and have spellings.
use Rattle.std.proofs.Common.{◌≡◌, ◌++◌, map, take}
use Rattle.std.specs.List.{flat_map, AllByRecursion}
use Rattle.jf_path.specs.Names.{IsName}
use Rattle.jf_codec.specs.declared.format.Format.TheVariants as format
use Rattle.jf_codec.specs.Spelling.{IsNode}
use Rattle.jf_payload.specs.Spelling.{fresh_bytes}
use Rattle.jf_diff.specs.Plains.{plain_item}
use Rattle.jf_diff.proofs.spelled_nodes.put_each.Given as goal

abbrev pub invariant-loop-item : goal.invariant-loop-item
invariant-loop-item l =
    (l.out ≡ l.fn.out ++ flat_map (fresh_bytes format.Two) (map plain_item (take l.item-index l.nodes)))
    × AllByRecursion (λ x. IsName x.0 × IsNode format.Two x.1) (map plain_item (take l.item-index l.nodes))
