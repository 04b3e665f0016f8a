-- The marks of stale nodes, as an ascending list.
use Rattle.std.specs.Prelude.{ℕ, List, not, filter}
use Rattle.std.specs.BTreeSet.{insert_key}
use Rattle.std.specs.List.Sorted.{IsStrictlySortedBy}
use Rattle.std.specs.Ordering.{nat_cmp, ordering_then, eq_by_cmp}
use Rattle.std.specs.declared.cmp.Ordering.{Ordering}
use Rattle.jf_path.specs.declared.name.NodeName.{NodeName}
use Rattle.jf_path.specs.Names.{name_cmp}

-- a mark: the version since which a node is stale, and the node's name
abbrev pub Mark : Type 0
Mark = ℕ × NodeName

-- marks are ordered by version, and then by name
abbrev pub mark_cmp : Mark → Mark → Ordering
mark_cmp a b = ordering_then (nat_cmp a.0 b.0) (name_cmp a.1 b.1)

-- each mark is below all later ones
abbrev pub AreAscendingMarks : List Mark → Type 0
AreAscendingMarks marks = IsStrictlySortedBy mark_cmp marks

-- the list with one more mark, in its place; unchanged if it holds the mark
abbrev pub with_mark : Mark → List Mark → List Mark
with_mark mark marks = insert_key mark_cmp marks mark

-- the list without a mark
abbrev pub without_mark : Mark → List Mark → List Mark
without_mark mark marks = filter (λ m. not (eq_by_cmp mark_cmp mark m)) marks
