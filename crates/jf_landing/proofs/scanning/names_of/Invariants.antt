-- The names before the present one are read, and the others are still at the front.
use Rattle.std.proofs.Common.{◌≡◌, ◌++◌, List, ℕ, length, take, drop}
use Rattle.std.specs.List.{flat_map, AllByRecursion}
use Rattle.jf_path.specs.Names.{IsName}
use Rattle.jf_path.specs.declared.name.NodeName.{NodeName}
use Rattle.jf_codec.specs.Spelling.{name_bytes}
use Rattle.jf_landing.proofs.scanning.names_of.Given as goal

abbrev pub invariant-loop : goal.invariant-loop
invariant-loop l =
    (names : List NodeName) (tail : List ℕ) → length names ≡ l.count → AllByRecursion IsName names → l.bytes ≡ flat_map name_bytes names ++ tail
    → (l.rest ≡ flat_map name_bytes (drop l.counter names) ++ tail) × (l.names.items ≡ take l.counter names)
