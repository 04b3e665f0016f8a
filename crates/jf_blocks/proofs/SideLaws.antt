-- The siblings that are kept of a block represent all of them: more than 256 are refused, whatever they are.
use Rattle.std.proofs.Common.{◌≡◌, ℕ, ◌<◌, ◌≤◌, ◌+◌, Bool, true, false, cond, List, [], ◌∷◌, ◌++◌, length, take, nat_lt, not, ◌==◌, ◌||◌, Option, refl, sym, ap, ◌∙◌, arith, suc, zero, length-take-le, length-append, ltb-true, ltb-false}
use Rattle.std.proofs.lemmas.Bool.Decides.{nat_tests}
use Rattle.std.proofs.lemmas.List.{take_all, take-append-le}
use Rattle.jf_path.specs.Keys.{bit}
use Rattle.jf_evidence.specs.Ranges.{Entries, zero_bits, is_miscounted, range_refusal, last_key}
use Rattle.jf_blocks.specs.Sides.{kept_sides, with_kept}

-- ---- one sibling more
more_kept : (xs : List (List ℕ)) (h : List ℕ) (t : Bool) → nat_lt (length xs) 257 ≡ t → with_kept (kept_sides xs) h ≡ kept_sides (xs ++ h ∷ [])
more_kept xs h true few =
    let small = ltb-true (length xs) 257 few in
    let all : take 257 xs ≡ xs = take_all 257 xs (omega arith) in
    let more : take 257 (xs ++ h ∷ []) ≡ xs ++ h ∷ [] = take_all 257 (xs ++ h ∷ []) (omega (arith, length-append xs (h ∷ []))) in
    ap (λ k. with_kept k h) all ∙ ap (λ b. cond b (xs ++ h ∷ []) xs) few ∙ sym more
more_kept xs h false many =
    let large = ltb-false (length xs) 257 many in
    let full : length (take 257 xs) ≡ 257 = length-take-le 257 xs large in
    let over : nat_lt (length (take 257 xs)) 257 ≡ false = ap (λ n. nat_lt n 257) full in
    ap (λ b. cond b (take 257 xs ++ h ∷ []) (take 257 xs)) over ∙ sym (take-append-le 257 xs (h ∷ []) large)

-- what is kept of siblings and one more is what is kept of those that were kept and this one
pub with_kept-kept_sides : (xs : List (List ℕ)) (h : List ℕ) → with_kept (kept_sides xs) h ≡ kept_sides (xs ++ h ∷ [])
with_kept-kept_sides xs h = more_kept xs h (nat_lt (length xs) 257) refl

-- ---- a proof of one key
-- siblings of a proof that isn't too deep are all kept
pub kept_sides-shallow : (xs : List (List ℕ)) → nat_lt 256 (length xs) ≡ false → kept_sides xs ≡ xs
kept_sides-shallow xs shallow = let small = ltb-false 256 (length xs) shallow in take_all 257 xs (omega arith)

-- of a proof that is too deep so many siblings are kept that it still is
pub kept_sides-deep : (xs : List (List ℕ)) → nat_lt 256 (length xs) ≡ true → nat_lt 256 (length (kept_sides xs)) ≡ true
kept_sides-deep xs deep =
    let large = ltb-true 256 (length xs) deep in
    let full : length (take 257 xs) ≡ 257 = length-take-le 257 xs (omega arith) in
    ap (λ n. nat_lt 256 n) full

-- ---- a proof of a chunk
bit_more : (t : Bool) (a b n : ℕ) → a ≤ n → b ≤ n → cond t a (1 + b) ≤ suc n
bit_more true a b n few few' = omega arith
bit_more false a b n few few' = omega arith

-- a key has at most n 0 bits among n
zero_bits-most : (n d : ℕ) (key : List ℕ) → zero_bits n d key ≤ n
unfolding zero_bits
zero_bits-most zero d key = omega arith
zero_bits-most (suc n) d key = bit_more (bit key d) (zero_bits n (d + 1) key) (zero_bits n (d + 1) key) n (zero_bits-most n (d + 1) key) (zero_bits-most n (d + 1) key)

-- more siblings than 256 are too many at any depth
too_many : (key : List ℕ) (depth : ℕ) (xs : List (List ℕ)) → 256 < length xs → (t : Bool) → nat_lt 256 depth ≡ t → is_miscounted key (record { depth = depth; siblings = xs }) ≡ true
too_many key depth xs many true deep = ap (λ b. b || not (length xs == zero_bits depth 0 key)) deep
too_many key depth xs many false shallow =
    let small = ltb-false 256 depth shallow in
    let fewer = zero_bits-most depth 0 key in
    let apart : (length xs == zero_bits depth 0 key) ≡ false = grind (arith, nat_tests) in
    ap (λ b. b || not (length xs == zero_bits depth 0 key)) shallow ∙ ap not apart

too_many_sides : (root : List ℕ) (known fresh : Entries) (depth : ℕ) (xs : List (List ℕ)) (t : Bool) → nat_lt 256 (length xs) ≡ t
    → range_refusal root known fresh (record { depth = depth; siblings = kept_sides xs }) ≡ range_refusal root known fresh (record { depth = depth; siblings = xs })
unfolding range_refusal
too_many_sides root known fresh depth xs true deep =
    let large = ltb-true 256 (length xs) deep in
    let full : length (take 257 xs) ≡ 257 = length-take-le 257 xs (omega arith) in
    let key = last_key fresh in
    let few : is_miscounted key (record { depth = depth; siblings = take 257 xs }) ≡ true = too_many key depth (take 257 xs) (omega arith) (nat_lt 256 depth) refl in
    let all : is_miscounted key (record { depth = depth; siblings = xs }) ≡ true = too_many key depth xs large (nat_lt 256 depth) refl in
    rw (few, all) refl
too_many_sides root known fresh depth xs false shallow = ap (λ ss. range_refusal root known fresh (record { depth = depth; siblings = ss })) (kept_sides-shallow xs shallow)

-- a chunk with the siblings that are kept is refused as one with all of them is
pub range_refusal-kept_sides : (root : List ℕ) (known fresh : Entries) (depth : ℕ) (xs : List (List ℕ))
    → range_refusal root known fresh (record { depth = depth; siblings = kept_sides xs }) ≡ range_refusal root known fresh (record { depth = depth; siblings = xs })
range_refusal-kept_sides root known fresh depth xs = too_many_sides root known fresh depth xs (nat_lt 256 (length xs)) refl
