-- The hash of a range of places is the root of the entries that stand in it, and the hash of all places is the root of the part.
use Rattle.std.specs.Prelude.{◌≡◌, ℕ, zero, suc, ◌+◌, ◌*◌, ◌/◌, ◌%◌, ◌^◌, ◌<◌, List, Bool, true, false, not, ◌&&◌, ◌-◌, [], ◌∷◌, ◌++◌, cond, filter, ◌==◌, slice_index, take, drop, map, ◌≤◌, length}
use Rattle.std.proofs.Common.{ap, arith, ◌∙◌, refl, sym, take-take, drop-drop, ap₂, take-append-drop, take_all}
use Rattle.std.proofs.lemmas.Bool.{agree_below_at}
use Rattle.std.proofs.lemmas.Bool.Decides.{nat_tests}
use Rattle.std.proofs.lemmas.List.{drop_more, take-map, drop-map, drop-take}
use Rattle.std.specs.List.{AllByRecursion}
use Rattle.jf_path.specs.Keys.{bit, IsKey, IsBytes}
use Rattle.jf_path.specs.Nibbles.{bit_number, nibble}
use Rattle.jf_path.proofs.NibbleLaws.{digit_small, nibble-small}
use Rattle.jf_path.proofs.FilterLaws.{filter-alike, filter-filter}
use Rattle.jf_path.proofs.NumberLaws.{double}
use Rattle.jf_hash.specs.Ranges.{lies_in, in_range}
use Rattle.jf_hash.specs.Roots.{zeros, ones, part_root}
use Rattle.jf_hash.specs.Slots.{Occupants, Empty, Lone, Many, with_leaf, occupants, Part, all_nibbles, with_nibble, slot_of, slots_of, range_hash, occupants_hash}
use Rattle.jf_hash.specs.declared.slot.Slot.{Slot}
use Rattle.jf_hash.specs.Hashes.{L, V, N}
use Rattle.jf_hash.specs.declared.slot.Slot.TheVariants as slot
use Rattle.jf_hash.proofs.RootLaws.{part_root-one, part_root-none, part_root-split}

-- ---- bits of a nibble
-- the bit of weight 2 ^ l of nibble d
pub weight : (key : List ℕ) (d l j : ℕ) → l < 4 → j + l ≡ 4 * d + 3 → nibble key d / 2 ^ l % 2 ≡ bit_number (bit key j)
unfolding nibble
weight key d l j small at = at_weight l small at
  where
    at_weight : (l : ℕ) → l < 4 → j + l ≡ 4 * d + 3 → (8 * bit_number (bit key (4 * d)) + 4 * bit_number (bit key (4 * d + 1)) + 2 * bit_number (bit key (4 * d + 2)) + bit_number (bit key (4 * d + 3))) / 2 ^ l % 2 ≡ bit_number (bit key j)
    at_weight zero small at = omega (arith, digit_small (bit key (4 * d + 3)), ap (λ k. bit_number (bit key k)) (let e : j ≡ 4 * d + 3 = omega arith in e))
    at_weight (suc zero) small at = omega (arith, digit_small (bit key (4 * d + 3)), digit_small (bit key (4 * d + 2)), ap (λ k. bit_number (bit key k)) (let e : j ≡ 4 * d + 2 = omega arith in e))
    at_weight (suc (suc zero)) small at = omega (arith, digit_small (bit key (4 * d + 3)), digit_small (bit key (4 * d + 2)), digit_small (bit key (4 * d + 1)), ap (λ k. bit_number (bit key k)) (let e : j ≡ 4 * d + 1 = omega arith in e))
    at_weight (suc (suc (suc zero))) small at = omega (arith, digit_small (bit key (4 * d + 3)), digit_small (bit key (4 * d + 2)), digit_small (bit key (4 * d + 1)), digit_small (bit key (4 * d)), ap (λ k. bit_number (bit key k)) (let e : j ≡ 4 * d = omega arith in e))
    at_weight (suc (suc (suc (suc l)))) small at = absurd (omega arith)

-- ---- a range falls into its halves by one bit
lower : (l start n : ℕ) (b : Bool) → l < 4 → start % 2 ^ suc l ≡ 0 → n / 2 ^ l % 2 ≡ bit_number b → (lies_in start (2 ^ suc l) n && not b) ≡ lies_in start (2 ^ l) n
lower zero start n true small aligned is = grind (arith, nat_tests)
lower zero start n false small aligned is = grind (arith, nat_tests)
lower (suc zero) start n true small aligned is = grind (arith, nat_tests)
lower (suc zero) start n false small aligned is = grind (arith, nat_tests)
lower (suc (suc zero)) start n true small aligned is = grind (arith, nat_tests)
lower (suc (suc zero)) start n false small aligned is = grind (arith, nat_tests)
lower (suc (suc (suc zero))) start n true small aligned is = grind (arith, nat_tests)
lower (suc (suc (suc zero))) start n false small aligned is = grind (arith, nat_tests)
lower (suc (suc (suc (suc l)))) start n b small aligned is = absurd (omega arith)

upper : (l start n : ℕ) (b : Bool) → l < 4 → start % 2 ^ suc l ≡ 0 → n / 2 ^ l % 2 ≡ bit_number b → (lies_in start (2 ^ suc l) n && b) ≡ lies_in (start + 2 ^ l) (2 ^ l) n
upper zero start n true small aligned is = grind (arith, nat_tests)
upper zero start n false small aligned is = grind (arith, nat_tests)
upper (suc zero) start n true small aligned is = grind (arith, nat_tests)
upper (suc zero) start n false small aligned is = grind (arith, nat_tests)
upper (suc (suc zero)) start n true small aligned is = grind (arith, nat_tests)
upper (suc (suc zero)) start n false small aligned is = grind (arith, nat_tests)
upper (suc (suc (suc zero))) start n true small aligned is = grind (arith, nat_tests)
upper (suc (suc (suc zero))) start n false small aligned is = grind (arith, nat_tests)
upper (suc (suc (suc (suc l)))) start n b small aligned is = absurd (omega arith)

pub zeros-in_range : {X : Type 0} (d l start j : ℕ) (es : List (List ℕ × X)) → l < 4 → j + l ≡ 4 * d + 3 → start % 2 ^ suc l ≡ 0 → zeros j (in_range d start (2 ^ suc l) es) ≡ in_range d start (2 ^ l) es
zeros-in_range d l start j es small at aligned =
    filter-filter (λ e. lies_in start (2 ^ suc l) (nibble e.0 d)) (λ e. not (bit e.0 j)) es
    ∙ filter-alike _ _ es (λ e. lower l start (nibble e.0 d) (bit e.0 j) small aligned (weight e.0 d l j small at))

pub ones-in_range : {X : Type 0} (d l start j : ℕ) (es : List (List ℕ × X)) → l < 4 → j + l ≡ 4 * d + 3 → start % 2 ^ suc l ≡ 0 → ones j (in_range d start (2 ^ suc l) es) ≡ in_range d (start + 2 ^ l) (2 ^ l) es
ones-in_range d l start j es small at aligned =
    filter-filter (λ e. lies_in start (2 ^ suc l) (nibble e.0 d)) (λ e. bit e.0 j) es
    ∙ filter-alike _ _ es (λ e. upper l start (nibble e.0 d) (bit e.0 j) small aligned (weight e.0 d l j small at))

-- ---- what stands in a range
-- what two ranges hold together
abbrev occupants_of_both : Occupants → Occupants → Occupants
occupants_of_both Empty other = other
occupants_of_both (Lone hash) other = with_leaf hash other
occupants_of_both Many other = Many

occupants_of_both-with_leaf : (hash : List ℕ) (a b : Occupants) → occupants_of_both (with_leaf hash a) b ≡ with_leaf hash (occupants_of_both a b)
occupants_of_both-with_leaf hash Empty b = refl
occupants_of_both-with_leaf hash (Lone other) Empty = refl
occupants_of_both-with_leaf hash (Lone other) (Lone more) = refl
occupants_of_both-with_leaf hash (Lone other) Many = refl
occupants_of_both-with_leaf hash Many b = refl

leaf_after : (hash : List ℕ) (a b : Occupants) → occupants_of_both a (with_leaf hash b) ≡ with_leaf hash (occupants_of_both a b)
leaf_after hash Empty b = refl
leaf_after hash (Lone other) Empty = refl
leaf_after hash (Lone other) (Lone more) = refl
leaf_after hash (Lone other) Many = refl
leaf_after hash Many b = refl

occupants-append : (xs ys : List Slot) → occupants (xs ++ ys) ≡ occupants_of_both (occupants xs) (occupants ys)
occupants-append [] ys = refl
occupants-append (slot.Absent ∷ xs) ys = occupants-append xs ys
occupants-append (slot.Leaf hash ∷ xs) ys = ap (with_leaf hash) (occupants-append xs ys) ∙ sym (occupants_of_both-with_leaf hash (occupants xs) (occupants ys))
occupants-append (slot.Inner hash ∷ xs) ys = refl

-- what a range with these entries holds
abbrev occupants_of : Part → Occupants
occupants_of [] = Empty
occupants_of (e ∷ []) = Lone (L e.0 (V e.1))
occupants_of (e ∷ f ∷ es) = Many

occupants_of-more : (e : List ℕ × List ℕ) (es : Part) → occupants_of (e ∷ es) ≡ with_leaf (L e.0 (V e.1)) (occupants_of es)
occupants_of-more e [] = refl
occupants_of-more e (f ∷ []) = refl
occupants_of-more e (f ∷ g ∷ es) = refl

-- entries hold what those that pass a test and those that fail it hold together
occupants_of-halves : (test : List ℕ × List ℕ → Bool) (es : Part) → occupants_of es ≡ occupants_of_both (occupants_of (filter (λ e. not (test e)) es)) (occupants_of (filter test es))
occupants_of-halves test [] = refl
occupants_of-halves test (e ∷ es) =
    let zero_es = filter (λ e. not (test e)) es in
    let one_es = filter test es in
    occupants_of-more e es ∙ ap (with_leaf (L e.0 (V e.1))) (occupants_of-halves test es)
    ∙ elim (test e) as (λ b. with_leaf (L e.0 (V e.1)) (occupants_of_both (occupants_of zero_es) (occupants_of one_es)) ≡ occupants_of_both (occupants_of (cond (not b) (e ∷ zero_es) zero_es)) (occupants_of (cond b (e ∷ one_es) one_es))) [
      | true ↦ sym (ap (occupants_of_both (occupants_of zero_es)) (occupants_of-more e one_es) ∙ leaf_after (L e.0 (V e.1)) (occupants_of zero_es) (occupants_of one_es))
      | false ↦ sym (ap (λ s. occupants_of_both s (occupants_of one_es)) (occupants_of-more e zero_es) ∙ occupants_of_both-with_leaf (L e.0 (V e.1)) (occupants_of zero_es) (occupants_of one_es))
    ]

-- ---- one place
nibble_at : (i : ℕ) → i < 16 → slice_index all_nibbles i ≡ i
nibble_at i small = nat_is (slice_index all_nibbles i) i (agree_below_at (λ n. slice_index all_nibbles n == n) (λ n. true) 16 i refl small)
  where
    nat_is : (a b : ℕ) → (a == b) ≡ true → a ≡ b
    nat_is a b h = grind (arith, nat_tests)

one_nibble : (i : ℕ) → i < 16 → take 1 (drop i all_nibbles) ≡ i ∷ []
one_nibble i small = ap (take 1) (drop_more all_nibbles i 0 small) ∙ ap (λ n. n ∷ []) (nibble_at i small)

one_place : (d i : ℕ) (es : Part) → i < 16 → take 1 (drop i (slots_of d es)) ≡ slot_of (4 * (d + 1)) (with_nibble d i es) ∷ []
unfolding slots_of
one_place d i es small =
    let place : ℕ → Slot = λ i. slot_of (4 * (d + 1)) (with_nibble d i es) in
    ap (take 1) (drop-map place i all_nibbles) ∙ take-map place 1 (drop i all_nibbles) ∙ ap (map place) (one_nibble i small)

single : (start n : ℕ) → (n == start) ≡ lies_in start 1 n
single start n = grind (arith, nat_tests)

one_range : {X : Type 0} (d i : ℕ) (es : List (List ℕ × X)) → with_nibble d i es ≡ in_range d i 1 es
one_range d i es = filter-alike _ _ es (λ e. single i (nibble e.0 d))

occupants-slot_of : (d : ℕ) (es : Part) → occupants (slot_of d es ∷ []) ≡ occupants_of es
occupants-slot_of d [] = refl
occupants-slot_of d (e ∷ []) = ap Lone (part_root-one d e.0 e.1)
occupants-slot_of d (e ∷ f ∷ es) = refl

slot_of-hash : (d : ℕ) (es : Part) → range_hash 0 (slot_of d es ∷ []) ≡ part_root d es
unfolding range_hash
slot_of-hash d [] = sym (part_root-none d)
slot_of-hash d (e ∷ []) = refl
slot_of-hash d (e ∷ f ∷ es) = refl

-- ---- a range, by its halves
-- the places of a range
abbrev places : ℕ → ℕ → List Slot → List Slot
places start width slots = take width (drop start slots)

first_half : (l start : ℕ) (slots : List Slot) → take (2 ^ l) (places start (2 ^ suc l) slots) ≡ places start (2 ^ l) slots
first_half l start slots = take-take (2 ^ l) (2 ^ suc l) (drop start slots) (omega (arith, double l))

second_half : (l start : ℕ) (slots : List Slot) → drop (2 ^ l) (places start (2 ^ suc l) slots) ≡ places (start + 2 ^ l) (2 ^ l) slots
second_half l start slots = ap (λ n. drop (2 ^ l) (take n (drop start slots))) (double l) ∙ drop-take (2 ^ l) (2 ^ l) (drop start slots) ∙ ap (take (2 ^ l)) (drop-drop (2 ^ l) start slots)

halved : (l start : ℕ) (slots : List Slot) → places start (2 ^ suc l) slots ≡ places start (2 ^ l) slots ++ places (start + 2 ^ l) (2 ^ l) slots
halved l start slots =
    sym (take-append-drop (2 ^ l) (places start (2 ^ suc l) slots)) ∙ ap₂ (λ a b. a ++ b) (first_half l start slots) (second_half l start slots)

-- both halves of a range are ranges
both_ranges : (l start : ℕ) → l < 4 → start < 16 → start % 2 ^ suc l ≡ 0 → (start % 2 ^ l ≡ 0) × (start + 2 ^ l < 16) × ((start + 2 ^ l) % 2 ^ l ≡ 0)
both_ranges zero start small lt aligned = (omega arith, omega arith, omega arith)
both_ranges (suc zero) start small lt aligned = (omega arith, omega arith, omega arith)
both_ranges (suc (suc zero)) start small lt aligned = (omega arith, omega arith, omega arith)
both_ranges (suc (suc (suc zero))) start small lt aligned = (omega arith, omega arith, omega arith)
both_ranges (suc (suc (suc (suc l)))) start small lt aligned = absurd (omega arith)

occupants-range : (l d start : ℕ) (es : Part) → l ≤ 4 → start < 16 → start % 2 ^ l ≡ 0 → occupants (places start (2 ^ l) (slots_of d es)) ≡ occupants_of (in_range d start (2 ^ l) es)
occupants-range zero d start es small lt aligned = ap occupants (one_place d start es lt) ∙ occupants-slot_of (4 * (d + 1)) (with_nibble d start es) ∙ ap occupants_of (one_range d start es)
occupants-range (suc l) d start es small lt aligned =
    let h = both_ranges l start (omega arith) lt aligned in
    let j : ℕ = 4 * d + (3 - l) in
    let at : j + l ≡ 4 * d + 3 = omega arith in
    ap occupants (halved l start (slots_of d es)) ∙ occupants-append (places start (2 ^ l) (slots_of d es)) (places (start + 2 ^ l) (2 ^ l) (slots_of d es))
    ∙ ap₂ occupants_of_both (occupants-range l d start es (omega arith) lt h.0 ∙ ap occupants_of (sym (zeros-in_range d l start j es (omega arith) at aligned)))
    (occupants-range l d (start + 2 ^ l) es (omega arith) h.1 h.2 ∙ ap occupants_of (sym (ones-in_range d l start j es (omega arith) at aligned)))
    ∙ sym (occupants_of-halves (λ e. bit e.0 j) (in_range d start (2 ^ suc l) es))

-- the root of entries, from what a range with them holds
part_root-occupants : (j : ℕ) (es : Part) → j < 256 → occupants_hash (occupants_of es) (N (part_root (j + 1) (zeros j es)) (part_root (j + 1) (ones j es))) ≡ part_root j es
part_root-occupants j [] lt = sym (part_root-none j)
part_root-occupants j (e ∷ []) lt = sym (part_root-one j e.0 e.1)
part_root-occupants j (e ∷ f ∷ es) lt = sym (part_root-split j (e ∷ f ∷ es) lt (omega arith))

-- the hash of 2 ^ level places is the root of the entries that stand there, below the bits that tell the range from the others
pub range_hash-slots_of : (level d start : ℕ) (es : Part) → level ≤ 4 → d < 64 → start < 16 → start % 2 ^ level ≡ 0
    → range_hash level (take (2 ^ level) (drop start (slots_of d es))) ≡ part_root (4 * d + (4 - level)) (in_range d start (2 ^ level) es)
unfolding range_hash
range_hash-slots_of zero d start es small below lt aligned =
    ap (range_hash 0) (one_place d start es lt) ∙ slot_of-hash (4 * (d + 1)) (with_nibble d start es)
    ∙ ap₂ part_root (let e : 4 * (d + 1) ≡ 4 * d + (4 - 0) = omega arith in e) (one_range d start es)
range_hash-slots_of (suc l) d start es small below lt aligned =
    let h = both_ranges l start (omega arith) lt aligned in
    let j : ℕ = 4 * d + (3 - l) in
    let at : j + l ≡ 4 * d + 3 = omega arith in
    let next : 4 * d + (4 - l) ≡ j + 1 = omega arith in
    let slots = slots_of d es in
    let part = in_range d start (2 ^ suc l) es in
    ap₂ (λ s m. occupants_hash s m) (occupants-range (suc l) d start es small lt aligned)
    (ap₂ N
    (ap (range_hash l) (first_half l start slots) ∙ range_hash-slots_of l d start es (omega arith) below lt h.0 ∙ ap₂ part_root next (sym (zeros-in_range d l start j es (omega arith) at aligned)))
    (ap (range_hash l) (second_half l start slots) ∙ range_hash-slots_of l d (start + 2 ^ l) es (omega arith) below h.1 h.2 ∙ ap₂ part_root next (sym (ones-in_range d l start j es (omega arith) at aligned))))
    ∙ part_root-occupants j part (omega arith) ∙ ap (λ k. part_root k part) (let e : j ≡ 4 * d + (4 - suc l) = omega arith in e)

-- ---- all places
pub all_of : {X : Type 0} (d : ℕ) (es : List (List ℕ × X)) → in_range d 0 16 es ≡ es
all_of d [] = refl
all_of d (e ∷ es) = ap₂ (λ b t. cond b (e ∷ t) t) (any_nibble (nibble e.0 d) (nibble-small e.0 d)) (all_of d es)
  where
    any_nibble : (n : ℕ) → n < 16 → lies_in 0 16 n ≡ true
    any_nibble n small = grind (arith, nat_tests)

pub length-slots_of : (d : ℕ) (es : Part) → length (slots_of d es) ≡ 16
unfolding slots_of
length-slots_of d es = refl

-- the hash of the sixteen places of a node is the root of its part
pub range_hash-all : (d : ℕ) (es : Part) → d < 64 → range_hash 4 (slots_of d es) ≡ part_root (4 * d) es
range_hash-all d es below =
    ap (range_hash 4) (sym (take_all 16 (slots_of d es) (omega (arith, length-slots_of d es))))
    ∙ range_hash-slots_of 4 d 0 es (omega arith) below (omega arith) refl ∙ ap₂ part_root (let e : 4 * d + (4 - 4) ≡ 4 * d = omega arith in e) (all_of d es)

pub keys_are_keys : (es : Part) → AllByRecursion (λ e. IsKey e.0 × IsBytes e.1) es → AllByRecursion (λ e. IsKey e.0) es
keys_are_keys [] h = tt
keys_are_keys (e ∷ es) h = (h.0.0, keys_are_keys es h.1)
