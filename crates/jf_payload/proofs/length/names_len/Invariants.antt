-- The names before the present one are counted.
use Rattle.std.proofs.Common.{◌≡◌, length, take}
use Rattle.std.specs.List.{flat_map}
use Rattle.jf_codec.specs.Spelling.{name_bytes}
use Rattle.jf_payload.proofs.length.names_len.Given as goal

abbrev pub invariant-loop-name : goal.invariant-loop-name
invariant-loop-name l = l.length ≡ length (flat_map name_bytes (take l.name-index l.names))
