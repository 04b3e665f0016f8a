-- The nodes before the present one are counted.
use Rattle.std.proofs.Common.{◌≡◌, length, take}
use Rattle.std.specs.List.{flat_map}
use Rattle.jf_payload.specs.Spelling.{live_bytes}
use Rattle.jf_payload.proofs.length.live_len.Given as goal

abbrev pub invariant-loop-item : goal.invariant-loop-item
invariant-loop-item l = l.length ≡ length (flat_map (live_bytes l.format) (take l.item-index l.nodes))
