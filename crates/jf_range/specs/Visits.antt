-- How many nodes are looked at, at most, when a range of entries is copied.
use Rattle.std.specs.Prelude.{ℕ, ◌+◌, ◌-◌, ◌*◌, min}

-- how many of n entries are copied: those after the first `skip`, `room` of them or as many as there are
abbrev pub copied_count : ℕ → ℕ → ℕ → ℕ
copied_count skip room n = min room (n - skip)

-- how many ends of the range, if anything is copied, lie inside: 1 if it begins after the first of n entries, and 1 more if it ends before their end
abbrev pub ends_inside : ℕ → ℕ → ℕ → ℕ
ends_inside skip room n = min 1 (min skip (copied_count skip room n)) + min 1 (min (copied_count skip room n) (n - (skip + room)))

-- below a node with n entries and at most `height` nodes under one another: the node itself; the nodes on the way to each entry that is copied; and for each end of the range that
-- lies inside, sixteen children of each node on the way to it
unfoldable pub most_nodes : ℕ → ℕ → ℕ → ℕ → ℕ
most_nodes height skip room n = 1 + copied_count skip room n * (height + 1) + ends_inside skip room n * (16 * height)
