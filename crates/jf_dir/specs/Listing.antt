-- What a list of nodes has of a standing.
use Rattle.std.specs.Prelude.{◌≡◌, ◌⊎◌, ◌≤◌, ℕ, List, Contains}
use Rattle.jf_standing.specs.Named.{NamedNode, not_stale}
use Rattle.jf_standing.specs.Standing.{Standing}

-- the list has nodes of the standing alone, and all that aren't stale or are stale since w or before
pub record AreListedTo (s : Standing) (w : ℕ) (ns : List NamedNode) : Type 0 where
  pub own : (n : NamedNode) → Contains ns n → Contains s.nodes n
  pub all : (n : NamedNode) → Contains s.nodes n → (n.2 ≡ not_stale) ⊎ (n.2 ≤ w) → Contains ns n
