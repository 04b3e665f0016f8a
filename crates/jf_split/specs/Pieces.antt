-- The pieces of a batch at a depth: one for each nibble that its keys have there.
use Rattle.std.specs.Prelude.{◌≡◌, ℕ, ◌<◌, AllPairs, List, [], ◌∷◌, length, All}
use Rattle.std.specs.List.{slice_range}
use Rattle.jf_path.specs.Nibbles.{nibble}
use Rattle.jf_hash.specs.Maps.{Batch}
use Rattle.jf_hash.specs.Slots.{with_nibble}
use Rattle.jf_split.specs.declared.piece.Piece.{Piece}

-- any two keys have the same first `depth` nibbles
abbrev pub AgreeBefore : ℕ → Batch → Type 0
AgreeBefore depth b = AllPairs (λ e f. (i : ℕ) → i < depth → nibble e.0 i ≡ nibble f.0 i) b

-- the entries from a piece's start up to its end
abbrev pub entries_of : Batch → Piece → Batch
entries_of b p = slice_range b p.start p.end

-- ranges that follow one another: each begins at the end of the one before, no range is empty, and together they go from `from` to `to`
abbrev pub Tile : ℕ → ℕ → List Piece → Type 0
Tile from to [] = from ≡ to
Tile from to (p ∷ ps) = (p.start ≡ from) × (p.start < p.end) × Tile p.end to ps

-- the pieces of a batch at a depth: together all of it, their nibbles rising strictly, each exactly the entries with
-- its nibble
pub record ArePieces (depth : ℕ) (b : Batch) (ps : List Piece) : Type 0 where
  pub tiled : Tile 0 (length b) ps
  pub rising : AllPairs (λ p q. p.nibble < q.nibble) ps
  pub exact : All (λ p. entries_of b p ≡ with_nibble depth p.nibble b) ps
