-- The pieces of a batch, joined, are the batch; there are at most sixteen; a nibble without a piece is no key's.
use Rattle.std.proofs.Common.{◌≡◌, ℕ, ◌-◌, false, eqb, ◌≢◌, arith, ◌≤◌, List, [], ◌∷◌, ◌<◌, ◌++◌, drop, sym, ap, ◌∙◌, append_assoc, length, true, get_or, subst, ap₂, refl, zero, suc, Option, None, inl, inr, length-drop}
use Rattle.std.proofs.lemmas.Bool.{eqb-true, cases_lt}
use Rattle.std.proofs.lemmas.Bool.Decides.{nat_tests}
use Rattle.std.proofs.lemmas.List.{append-nil, drop_all, length-take-le}
use Rattle.std.proofs.lemmas.List.Elements.{All-cons, filter_passes, All-head, All-tail, All-weaker, filter-append}
use Rattle.std.proofs.lemmas.List.Folds.{drop_split}
use Rattle.std.specs.List.{All, flat_map, AllPairs}
use Rattle.jf_path.specs.Nibbles.{nibble}
use Rattle.jf_path.proofs.FilterLaws.{filter_none}
use Rattle.jf_path.proofs.NibbleLaws.{nibble-small}
use Rattle.jf_hash.specs.Maps.{Batch}
use Rattle.jf_hash.specs.Slots.{with_nibble}
use Rattle.jf_split.specs.declared.piece.Piece.{Piece}
use Rattle.jf_split.specs.Pieces.{Tile, entries_of, ArePieces}

eqb-differs : (a b : ℕ) → a ≢ b → eqb a b ≡ false
eqb-differs a b other = grind (arith, nat_tests)

-- ranges that follow one another end no earlier than they begin
pub Tile-rises : (from to : ℕ) (ps : List Piece) → Tile from to ps → from ≤ to
Tile-rises from to [] tile = omega arith
Tile-rises from to (p ∷ ps) tile = omega (arith, tile.0, tile.1, Tile-rises p.end to ps tile.2)

-- each piece is not empty and ends within the whole
pub Tile-each : (from to : ℕ) (ps : List Piece) → Tile from to ps → All (λ p. (p.start < p.end) × (p.end ≤ to)) ps
Tile-each from to [] tile = λ k d lt. absurd (omega arith)
Tile-each from to (p ∷ ps) tile = All-cons (λ q. (q.start < q.end) × (q.end ≤ to)) p ps (tile.1, Tile-rises p.end to ps tile.2) (Tile-each p.end to ps tile.2)

joined_from : (b : Batch) (from to : ℕ) (ps : List Piece) → Tile from to ps → flat_map (entries_of b) ps ++ drop to b ≡ drop from b
joined_from b from to [] tile = ap (λ n. drop n b) (sym tile)
joined_from b from to (p ∷ ps) tile =
    append_assoc (entries_of b p) (flat_map (entries_of b) ps) (drop to b)
    ∙ ap (λ es. entries_of b p ++ es) (joined_from b p.end to ps tile.2)
    ∙ sym (drop_split b p.start p.end (omega (arith, tile.1)))
    ∙ ap (λ n. drop n b) tile.0

-- the pieces joined are the batch
pub flat_map-pieces : (depth : ℕ) (b : Batch) (ps : List Piece) → ArePieces depth b ps → flat_map (entries_of b) ps ≡ b
flat_map-pieces depth b ps are =
    sym (append-nil (flat_map (entries_of b) ps))
    ∙ ap (λ es. flat_map (entries_of b) ps ++ es) (sym (drop_all (length b) b (omega arith)))
    ∙ joined_from b 0 (length b) ps are.tiled

-- each entry of a piece has its nibble
pub nibble-entries_of : (depth : ℕ) (b : Batch) (p : Piece) → entries_of b p ≡ with_nibble depth p.nibble b → All (λ e. nibble e.0 depth ≡ p.nibble) (entries_of b p)
nibble-entries_of depth b p exact = λ k e lt.
    let passed = filter_passes (λ f. eqb (nibble f.0 depth) p.nibble) b in
    let all : All (λ f. eqb (nibble f.0 depth) p.nibble ≡ true) (entries_of b p) = subst (All (λ f. eqb (nibble f.0 depth) p.nibble ≡ true)) (sym exact) passed in
    eqb-true (nibble (get_or (entries_of b p) k e).0 depth) p.nibble (all k e lt)

joined_none : (depth n : ℕ) (b : Batch) (ps : List Piece) → All (λ p. entries_of b p ≡ with_nibble depth p.nibble b) ps → All (λ p. p.nibble ≢ n) ps → with_nibble depth n (flat_map (entries_of b) ps) ≡ []
joined_none depth n b [] exact other = refl
joined_none depth n b (p ∷ ps) exact other =
    let differs = All-head (λ q. q.nibble ≢ n) p ps other in
    let here = All-head (λ q. entries_of b q ≡ with_nibble depth q.nibble b) p ps exact in
    let none = filter_none (λ e. eqb (nibble e.0 depth) n) (entries_of b p) (All-weaker (λ e. nibble e.0 depth ≡ p.nibble) (λ e. eqb (nibble e.0 depth) n ≡ false) (λ e is. eqb-differs (nibble e.0 depth) n (λ same. differs (sym is ∙ same))) (entries_of b p) (nibble-entries_of depth b p here)) in
    filter-append (λ e. eqb (nibble e.0 depth) n) (entries_of b p) (flat_map (entries_of b) ps)
    ∙ ap₂ (λ xs ys. xs ++ ys) none (joined_none depth n b ps (All-tail (λ q. entries_of b q ≡ with_nibble depth q.nibble b) p ps exact) (All-tail (λ q. q.nibble ≢ n) p ps other))

-- if no piece has a nibble, no key has it
pub with_nibble-absent : (depth n : ℕ) (b : Batch) (ps : List Piece) → ArePieces depth b ps → All (λ p. p.nibble ≢ n) ps → with_nibble depth n b ≡ []
with_nibble-absent depth n b ps are other =
    ap (with_nibble depth n) (sym (flat_map-pieces depth b ps are)) ∙ joined_none depth n b ps are.exact other

-- rising numbers are no less than their places
rising_above : (ps : List Piece) (k : ℕ) (d : Piece) → AllPairs (λ p q. p.nibble < q.nibble) ps → k < length ps → k ≤ (get_or ps k d).nibble
rising_above ps zero d rising lt = omega arith
rising_above ps (suc k) d rising lt = omega (arith, rising_above ps k d rising (omega arith), rising k (suc k) d (omega arith) lt)

-- there are at most sixteen pieces
pub length-pieces : (depth : ℕ) (b : Batch) (ps : List Piece) → ArePieces depth b ps → length ps ≤ 16
length-pieces depth b ps are = elim (cases_lt 16 (length ps)) [
  | inl more ↦
      let d : Piece = record { nibble = 0; start = 0; end = 0 } in
      let p = get_or ps 16 d in
      let within = Tile-each 0 (length b) ps are.tiled 16 d more in
      let e : List ℕ × Option (List ℕ) = ([], None) in
      let long = length-take-le (p.end - p.start) (drop p.start b) (omega (arith, within.1, length-drop p.start b)) in
      let same = nibble-entries_of depth b p (are.exact 16 d more) 0 e (omega (arith, long, within.0)) in
      absurd (omega (arith, rising_above ps 16 d are.rising more, same, nibble-small (get_or (entries_of b p) 0 e).0 depth))
  | inr few ↦ few
]
