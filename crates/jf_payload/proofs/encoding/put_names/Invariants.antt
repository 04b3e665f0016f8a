-- The names before the present one are written.
use Rattle.std.proofs.Common.{◌≡◌, ◌++◌, take}
use Rattle.std.specs.List.{flat_map}
use Rattle.jf_codec.specs.Spelling.{name_bytes}
use Rattle.jf_payload.proofs.encoding.put_names.Given as goal

abbrev pub invariant-loop-name : goal.invariant-loop-name
invariant-loop-name l = l.out ≡ l.fn.out ++ flat_map name_bytes (take l.name-index l.names)
