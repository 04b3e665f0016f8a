-- The nodes before the present one are read, and the others are still at the front.
use Rattle.std.proofs.Common.{◌≡◌, ◌++◌, take, drop}
use Rattle.std.specs.List.{flat_map}
use Rattle.jf_codec.specs.declared.format.Format.TheVariants as format
use Rattle.jf_payload.specs.Spelling.{fresh_bytes}
use Rattle.jf_diff.proofs.spelled_nodes.SpelledNodes.copy_into.Given as goal

abbrev pub invariant-loop : goal.invariant-loop
invariant-loop l =
    (l.out.items ≡ l.fn.out.items ++ take l.counter l.self)
    × (l.rest ≡ flat_map (fresh_bytes format.Two) (drop l.counter l.self))
