-- The marks of stale nodes in groups, a group for each version: the version, and the names of the nodes.
use Rattle.std.specs.Prelude.{◌≡◌, ◌==◌, ◌<◌, ℕ, Bool, false, List, [], ◌∷◌, map, filter, not, length}
use Rattle.std.specs.BTreeSet.{insert_key}
use Rattle.std.specs.List.{AllByRecursion, flat_map}
use Rattle.std.specs.List.Sorted.{IsStrictlySortedBy}
use Rattle.std.specs.Ordering.{eq_by_cmp}
use Rattle.jf_path.specs.declared.name.NodeName.{NodeName}
use Rattle.jf_path.specs.Names.{name_cmp}
use Rattle.jf_stale.specs.Marks.{Mark, AreAscendingMarks}

-- a group: a version, and names of nodes that are stale since then
abbrev pub NameGroup : Type 0
NameGroup = ℕ × List NodeName

-- each name is below all later ones
abbrev pub AreAscendingNames : List NodeName → Type 0
AreAscendingNames names = IsStrictlySortedBy name_cmp names

-- the names with one more, in its place; unchanged if the name is there
abbrev pub with_name : NodeName → List NodeName → List NodeName
with_name name names = insert_key name_cmp names name

-- the names without one
abbrev pub without_name : NodeName → List NodeName → List NodeName
without_name name names = filter (λ n. not (eq_by_cmp name_cmp name n)) names

-- the marks of a group
abbrev pub group_marks : NameGroup → List Mark
group_marks g = map (λ n. (g.0, n)) g.1

-- the marks of groups, one group after another
abbrev pub marks_in : List NameGroup → List Mark
marks_in gs = flat_map group_marks gs

-- the version of each group is below those of all later ones
abbrev pub AreRisingGroups : List NameGroup → Type 0
AreRisingGroups [] = Unit {0}
AreRisingGroups (g ∷ gs) = AllByRecursion (λ h. g.0 < h.0) gs × AreRisingGroups gs

-- whether the first group has no names
abbrev pub begins_empty : List NameGroup → Bool
begins_empty [] = false
begins_empty (g ∷ gs) = length g.1 == 0

-- groups hold so many marks, each once
pub record HoldMarks (gs : List NameGroup) (count : ℕ) : Type 0 where
  pub rising : AreRisingGroups gs
  pub ascending : AreAscendingMarks (marks_in gs)
  pub counted : count ≡ length (marks_in gs)
