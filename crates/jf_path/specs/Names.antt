-- Names of nodes, and their order: by version, and then by path.
use Rattle.std.specs.Prelude.{◌^◌, ◌<◌, Bool, true, ◌&&◌, List, [], ◌∷◌}
use Rattle.std.specs.Cmp.Lexicographic.{slice_cmp}
use Rattle.std.specs.Ordering.{nat_cmp, ordering_then, is_lt}
use Rattle.std.specs.declared.cmp.Ordering.{Ordering}
use Rattle.jf_path.specs.Paths.{IsPath}
use Rattle.jf_path.specs.declared.name.NodeName.{NodeName}

-- a node's name: a version below 2 ^ 64, and a path
pub record IsName (name : NodeName) : Type 0 where
  pub version : name.version < 2 ^ 64
  pub path : IsPath name.path

-- the order of names: by version, and then by path
abbrev pub name_cmp : NodeName → NodeName → Ordering
name_cmp a b = ordering_then (nat_cmp a.version b.version) (slice_cmp nat_cmp a.path b.path)

-- whether each name is below the next
abbrev pub are_rising : List NodeName → Bool
are_rising [] = true
are_rising (a ∷ []) = true
are_rising (a ∷ b ∷ names) = is_lt (name_cmp a b) && are_rising (b ∷ names)
