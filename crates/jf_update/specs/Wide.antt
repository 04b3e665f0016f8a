-- The pieces of changes that several workers take, and their outcomes.
use Rattle.std.specs.Prelude.{◌≡◌, ℕ, ◌+◌, ◌-◌, ◌<◌, ◌≤◌, List, length, take, drop, Option, None, slice_index_or}
use Rattle.jf_hash.specs.Maps.{Batch}
use Rattle.jf_hash.specs.Slots.{Part, with_nibble}
use Rattle.jf_split.specs.declared.piece.Piece.{Piece}
use Rattle.jf_node.specs.LinkValue.{LinkValue}
use Rattle.jf_update.specs.Made.{IsBuilt}
use Rattle.jf_update.specs.Outcomes.{IsOutcome}
use Rattle.jf_update.specs.declared.outcome.Outcome.{Outcome}

-- a piece of more changes than these is cut again, if there are workers for its pieces
abbrev pub most_changes : ℕ
most_changes = 1024

-- a piece is exactly the changes with its nibble
pub record IsPieceOf (depth : ℕ) (bs : Batch) (p : Piece) : Type 0 where
  pub small : p.nibble < 16
  pub rising : p.start ≤ p.end
  pub within : p.end ≤ length bs
  pub exact : take (p.end - p.start) (drop p.start bs) ≡ with_nibble depth p.nibble bs

-- the outcome of a piece is that of its changes over the child at its nibble
pub record IsPieceOutcome (depth version : ℕ) (olds : List (Option LinkValue)) (bs : Batch) (p : Piece) (r : Outcome) : Type 0 where
  pub small : p.nibble < 16
  pub outcome : IsOutcome (depth + 1) version (slice_index_or olds p.nibble None) (with_nibble depth p.nibble bs) r

-- what is built for a piece has, of the entries es after all changes, those with its nibble
pub record IsPieceBuilt (depth version : ℕ) (es : Part) (p : Piece) (y : Option LinkValue) : Type 0 where
  pub small : p.nibble < 16
  pub built : IsBuilt (depth + 1) version (with_nibble depth p.nibble es) y
