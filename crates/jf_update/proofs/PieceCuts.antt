-- Changes are cut into pieces by nibble: each piece is the changes with its nibble, and no change is left out.
use Rattle.std.proofs.Common.{ℕ, List, [], ◌∷◌, ◌≡◌, ◌≢◌, ◌-◌, ◌<◌, ◌≤◌, ◌⊎◌, ◌∙◌, inl, inr, sym, ap, arith, length, length-drop, take, drop, get_or, eq-or-lt_of_le}
use Rattle.std.proofs.lemmas.Bool.{cases_lt}
use Rattle.std.proofs.lemmas.List.{length-take-le}
use Rattle.std.proofs.lemmas.List.Elements.{All-cons, recursion_from_All}
use Rattle.std.specs.List.{All, AllByRecursion}
use Rattle.std.specs.List.Sorted.{IsNonDecreasingBy}
use Rattle.jf_path.specs.Nibbles.{nibble}
use Rattle.jf_path.proofs.ListLaws.{All-by_place}
use Rattle.jf_hash.specs.Maps.{Batch}
use Rattle.jf_hash.specs.Slots.{with_nibble}
use Rattle.jf_split.specs.Pieces.{ArePieces}
use Rattle.jf_split.specs.declared.piece.Piece.{Piece}
use Rattle.jf_split.proofs.PieceLaws.{Tile-each, with_nibble-absent}
use Rattle.jf_split.proofs.Rises.{IsNonDecreasingBy-nibble}
use Rattle.jf_model.specs.Parts.{IsPartUnder}
use Rattle.jf_walk.proofs.PartLaws.{with_nibble-past}
use Rattle.jf_update.specs.Wide.{IsPieceOf}

-- if all keys begin with the same nibbles, the nibble after them doesn't fall along the changes
pub rising_part : (d : ℕ) (path : ℕ → ℕ) (bs : Batch) → d < 64 → IsPartUnder d path bs → IsNonDecreasingBy (λ e. nibble e.0 d) bs
rising_part d path bs within part =
    let agrees = All-by_place (λ e. (i : ℕ) → i < d → nibble e.0 i ≡ path i) bs part.agree in
    IsNonDecreasingBy-nibble d bs within part.sorted part.keys (λ i j e lt lt' k below. agrees i e (omega arith) k below ∙ sym (agrees j e lt' k below))

-- two numbers are the same or not
pub same_or_not : (k m : ℕ) → (k ≡ m) ⊎ (¬ (k ≡ m))
same_or_not k m = elim (cases_lt k m) [
  | inl below ↦ inr (λ e. omega arith)
  | inr above ↦ elim (eq-or-lt_of_le above) [ inl same ↦ inl (sym same) | inr past ↦ inr (λ e. omega arith) ]
]

-- a piece that isn't empty has a nibble below 16
small : (d : ℕ) (bs : Batch) (p : Piece) → p.start < p.end → p.end ≤ length bs → take (p.end - p.start) (drop p.start bs) ≡ with_nibble d p.nibble bs → p.nibble < 16
small d bs p some within exact = elim (cases_lt p.nibble 16) [
  | inl below ↦ below
  | inr past ↦ absurd (omega (arith, ap length (exact ∙ with_nibble-past d p.nibble bs past), length-take-le (p.end - p.start) (drop p.start bs) (omega (arith, length-drop p.start bs))))
]

-- each piece is the changes with its nibble
pub pieces_each : (d : ℕ) (bs : Batch) (ps : List Piece) → ArePieces d bs ps → AllByRecursion (IsPieceOf d bs) ps
pieces_each d bs ps are = recursion_from_All (IsPieceOf d bs) ps (λ k p lt.
    let q = get_or ps k p in
    let placed = Tile-each 0 (length bs) ps are.tiled k p lt in
    record { small = small d bs q placed.0 placed.1 (are.exact k p lt); rising = omega (arith, placed.0); within = placed.1; exact = are.exact k p lt })

-- one of the pieces has nibble k
abbrev pub HasNibble : ℕ → List Piece → Type 0
HasNibble k [] = ⊥
HasNibble k (p ∷ ps) = (p.nibble ≡ k) ⊎ HasNibble k ps

-- one of the pieces has nibble k, or all have others
has_or_not : (k : ℕ) (ps : List Piece) → HasNibble k ps ⊎ All (λ p. p.nibble ≢ k) ps
has_or_not k [] = inr (λ i d lt. absurd (omega arith))
has_or_not k (p ∷ ps) = elim (same_or_not p.nibble k) [
  | inl same ↦ inl (inl same)
  | inr other ↦ elim (has_or_not k ps) [ inl has ↦ inl (inr has) | inr none ↦ inr (All-cons (λ q. q.nibble ≢ k) p ps other none) ]
]

-- one of the pieces has nibble k, or no change has it
pub pieces_whole : (d k : ℕ) (bs : Batch) (ps : List Piece) → ArePieces d bs ps → HasNibble k ps ⊎ (with_nibble d k bs ≡ [])
pieces_whole d k bs ps are = elim (has_or_not k ps) [ inl has ↦ inl has | inr none ↦ inr (with_nibble-absent d k bs ps are none) ]
