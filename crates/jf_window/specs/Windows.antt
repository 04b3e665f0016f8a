-- What clauses see of a window.
use Rattle.atomic_table.specs.Seated.{TableId}

-- which window it is, and the key that its value always fits
pub record WindowState (K : Type 0) : Type 0 where
  pub id : TableId
  pub key : K
