-- The pieces of the first entries of a batch, and of a front that is longer by one piece.
use Rattle.std.proofs.Common.{◌≡◌, ℕ, ◌-◌, ◌<◌, false, eqb, arith, ◌≤◌, [], true, eq-eqb, ◌+◌, ◌++◌, length, take, drop, ap, ◌∙◌, length-drop, sym, inl, inr, List, ◌∷◌, refl, get_or, ap₂, subst, length-append}
use Rattle.std.proofs.lemmas.Bool.{cases_lt}
use Rattle.std.proofs.lemmas.Bool.Decides.{nat_tests}
use Rattle.std.proofs.lemmas.List.{take-append-le, drop-append-le, drop_at, take_all, length-take-le, append-nil, take-take, take-append-drop, drop-take, get_or-take, get_or-drop}
use Rattle.std.proofs.lemmas.List.Elements.{All-weaker, All-push, filter-append}
use Rattle.std.proofs.lemmas.List.Quantifiers.{all_pairs_push}
use Rattle.std.specs.List.{All, slice_range, AllWithin, filter, AllPairs}
use Rattle.jf_path.specs.Nibbles.{nibble}
use Rattle.jf_path.proofs.FilterLaws.{filter_none, filter_all}
use Rattle.jf_hash.specs.Maps.{Batch}
use Rattle.jf_hash.specs.Slots.{with_nibble}
use Rattle.jf_split.specs.declared.piece.Piece.{Piece}
use Rattle.jf_split.specs.Pieces.{entries_of, Tile, ArePieces}
use Rattle.jf_split.proofs.PieceLaws.{Tile-each}

eqb-less : (a b : ℕ) → a < b → eqb a b ≡ false
eqb-less a b lt = grind (arith, nat_tests)

eqb-greater : (a b : ℕ) → b < a → eqb a b ≡ false
eqb-greater a b lt = grind (arith, nat_tests)

-- entries whose nibbles are less than n have none with nibble n
no_nibble_above : (depth m n : ℕ) (b : Batch) → m ≤ n → All (λ e. nibble e.0 depth < m) b → with_nibble depth n b ≡ []
no_nibble_above depth m n b le low =
    filter_none (λ e. eqb (nibble e.0 depth) n) b (All-weaker (λ e. nibble e.0 depth < m) (λ e. eqb (nibble e.0 depth) n ≡ false) (λ e lt. eqb-less (nibble e.0 depth) n (omega arith)) b low)

none_below : (depth m n : ℕ) (b : Batch) → n < m → All (λ e. nibble e.0 depth ≡ m) b → with_nibble depth n b ≡ []
none_below depth m n b lt same =
    filter_none (λ e. eqb (nibble e.0 depth) n) b (All-weaker (λ e. nibble e.0 depth ≡ m) (λ e. eqb (nibble e.0 depth) n ≡ false) (λ e is. eqb-greater (nibble e.0 depth) n (omega arith)) b same)

all_same : (depth n : ℕ) (b : Batch) → All (λ e. nibble e.0 depth ≡ n) b → with_nibble depth n b ≡ b
all_same depth n b same =
    filter_all (λ e. eqb (nibble e.0 depth) n) b (All-weaker (λ e. nibble e.0 depth ≡ n) (λ e. eqb (nibble e.0 depth) n ≡ true) (λ e is. eq-eqb (nibble e.0 depth) n is) b same)

-- a piece of a front is the same piece of the whole
entries_of-append : (xs ys : Batch) (p : Piece) → p.start < p.end → p.end ≤ length xs → entries_of (xs ++ ys) p ≡ entries_of xs p
entries_of-append xs ys p some within =
    ap (take (p.end - p.start)) (drop-append-le p.start xs ys (omega arith))
    ∙ take-append-le (p.end - p.start) (drop p.start xs) ys (omega (arith, length-drop p.start xs))

-- a piece that begins after a front has the entries after it
entries_of-rest : (xs ys : Batch) (p : Piece) → p.start ≡ length xs → p.end ≡ length xs + length ys → entries_of (xs ++ ys) p ≡ ys
entries_of-rest xs ys p start end =
    ap (take (p.end - p.start)) (drop_at xs ys p.start (sym start)) ∙ take_all (p.end - p.start) ys (omega arith)

-- if all nibbles are below n, so is the nibble of a piece that isn't empty
nibble-below : (depth n : ℕ) (b : Batch) (p : Piece) → p.start < p.end → p.end ≤ length b → entries_of b p ≡ with_nibble depth p.nibble b → All (λ e. nibble e.0 depth < n) b → p.nibble < n
nibble-below depth n b p some within exact low = elim (cases_lt p.nibble n) [
  | inl less ↦ less
  | inr le ↦ absurd (omega (arith, ap length (exact ∙ no_nibble_above depth n p.nibble b le low), length-take-le (p.end - p.start) (drop p.start b) (omega (arith, length-drop p.start b))))
]

Tile-push : (from to : ℕ) (ps : List Piece) (p : Piece) → Tile from to ps → p.start ≡ to → p.start < p.end → Tile from p.end (ps ++ p ∷ [])
Tile-push from to [] p tile at some = (at ∙ sym tile, some, refl)
Tile-push from to (q ∷ ps) p tile at some = (tile.0, tile.1, Tile-push q.end to ps p tile.2 at some)

-- entries with one nibble, after entries with lesser ones, are one more piece
ArePieces-push : (depth : ℕ) (xs ys : Batch) (ps : List Piece) (p : Piece) → ArePieces depth xs ps → p.start ≡ length xs → p.end ≡ length xs + length ys → p.start < p.end → All (λ e. nibble e.0 depth < p.nibble) xs → All (λ e. nibble e.0 depth ≡ p.nibble) ys → ArePieces depth (xs ++ ys) (ps ++ p ∷ [])
ArePieces-push depth xs ys ps p are start end some low same =
    let each = Tile-each 0 (length xs) ps are.tiled in
    let below : All (λ q. q.nibble < p.nibble) ps = λ k d lt. nibble-below depth p.nibble xs (get_or ps k d) (each k d lt).0 (each k d lt).1 (are.exact k d lt) low in
    let split = λ (n : ℕ). filter-append (λ e. eqb (nibble e.0 depth) n) xs ys in
    record {
      tiled = subst (λ to. Tile 0 to (ps ++ p ∷ [])) (end ∙ sym (length-append xs ys)) (Tile-push 0 (length xs) ps p are.tiled start some);
      rising = all_pairs_push (λ q r. q.nibble < r.nibble) ps p are.rising below;
      exact = All-push (λ q. entries_of (xs ++ ys) q ≡ with_nibble depth q.nibble (xs ++ ys)) ps p
          (λ k d lt. let q = get_or ps k d in
          entries_of-append xs ys q (each k d lt).0 (each k d lt).1 ∙ are.exact k d lt
          ∙ sym (split q.nibble ∙ ap (λ es. with_nibble depth q.nibble xs ++ es) (none_below depth p.nibble q.nibble ys (below k d lt) same) ∙ append-nil (with_nibble depth q.nibble xs)))
          (entries_of-rest xs ys p start end
          ∙ sym (split p.nibble ∙ ap₂ (λ es fs. es ++ fs) (no_nibble_above depth p.nibble p.nibble xs (omega arith) low) (all_same depth p.nibble ys same)));
    }

-- a front and the piece after it are a longer front
take_part : (b : Batch) (s e : ℕ) → s ≤ e → take e b ≡ take s b ++ slice_range b s e
take_part b s e le =
    let joins : s + (e - s) ≡ e = omega arith in
    sym (take-append-drop s (take e b)) ∙ ap₂ (λ xs ys. xs ++ ys) (take-take s e b le) (subst (λ n. drop s (take n b) ≡ slice_range b s e) joins (drop-take s (e - s) b))

module _ (P : List ℕ × Rattle.std.specs.Prelude.Option (List ℕ) → Type 0) where
  All-front : (b : Batch) (s : ℕ) → s ≤ length b → AllWithin P b 0 s → All P (take s b)
  All-front b s le within = λ k d lt. let below : k < s = omega (arith, length-take-le s b le) in subst P (sym (get_or-take s b k d below)) (within k d (omega arith) below)

  All-part : (b : Batch) (s e : ℕ) → s ≤ e → e ≤ length b → AllWithin P b s e → All P (slice_range b s e)
  All-part b s e le end within = λ k d lt.
      let below : k < e - s = omega (arith, length-take-le (e - s) (drop s b) (omega (arith, length-drop s b))) in
      subst P (sym (get_or-take (e - s) (drop s b) k d below ∙ get_or-drop s b k d)) (within (s + k) d (omega arith) (omega arith))

-- the pieces of a front, and the piece after it, are the pieces of the longer front
pub pieces_more : (depth : ℕ) (b : Batch) (ps : List Piece) (p : Piece) → ArePieces depth (take p.start b) ps → p.start < p.end → p.end ≤ length b → AllWithin (λ e. nibble e.0 depth < p.nibble) b 0 p.start → AllWithin (λ e. nibble e.0 depth ≡ p.nibble) b p.start p.end → ArePieces depth (take p.end b) (ps ++ p ∷ [])
pieces_more depth b ps p are some within low same =
    let front = length-take-le p.start b (omega arith) in
    let behind = length-take-le (p.end - p.start) (drop p.start b) (omega (arith, length-drop p.start b)) in
    subst (λ es. ArePieces depth es (ps ++ p ∷ [])) (sym (take_part b p.start p.end (omega arith)))
    (ArePieces-push depth (take p.start b) (slice_range b p.start p.end) ps p are (sym front) (omega (arith, front, behind)) some
    (All-front (λ e. nibble e.0 depth < p.nibble) b p.start (omega arith) low)
    (All-part (λ e. nibble e.0 depth ≡ p.nibble) b p.start p.end (omega arith) within same))

-- the entries before the end of a piece have lesser nibbles than those from there on
pub front_below : (depth n : ℕ) (b : Batch) (s e : ℕ) → AllWithin (λ x. nibble x.0 depth < n) b 0 s → AllWithin (λ x. nibble x.0 depth ≡ n) b s e → AllWithin (λ x. n < nibble x.0 depth) b e (length b) → e < length b → AllWithin (λ x. nibble x.0 depth < nibble (get_or b e x).0 depth) b 0 e
front_below depth n b s e low same other lt = λ k d _ below.
    let above = other e (get_or b k d) (omega arith) lt in
    elim (cases_lt k s) [
      | inl before ↦ omega (arith, low k d (omega arith) before, above)
      | inr behind ↦ omega (arith, same k d behind below, above)
    ]
