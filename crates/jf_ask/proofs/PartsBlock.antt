-- A block read part by part is the block of the lines.
use Rattle.std.proofs.Common.{◌≡◌, ℕ, zero, suc, ◌+◌, List, [], ◌∷◌, Option, Some, None, option_and_then, option_map, Ok, Err, refl, ap, ◌∙◌}
use Rattle.jf_blocks.specs.Reading.{Block, LinePlace, ReadResult, and_then, gives, one_line_read, line_by, lines_by, line_read, named_of, claim_of, leaf_line_of, side_of, proof_block}
use Rattle.jf_ask.specs.Lookups.{siblings_of, block_alone, block_of}
use Rattle.jf_ask.specs.Parts.{first_by, sides_of, with_end, block_by_parts}

abbrev Lines : Type 0
Lines = List (List ℕ)

-- ---- one line
-- two ways to go on after it agree, whatever was read and wherever the next line is
module _ {X : Type 0} (F : X → Lines → Option Block) (G : X → LinePlace → ReadResult Block) (alike : (x : X) (at : ℕ) (ls : Lines) → F x ls ≡ block_alone (G x (record { at = at; left = ls }))) where
  matched-alike : (at : ℕ) (ls : Lines) (o : Option X) → option_and_then (λ (a : X × Lines). F a.0 a.1) (option_map (λ x. (x, ls)) o) ≡ block_alone (and_then (one_line_read at ls o) G)
  matched-alike at ls None = refl
  matched-alike at ls (Some x) = alike x (at + 1) ls

  line-alike : (f : Lines → Option X) (at : ℕ) (ls : Lines) → option_and_then (λ (a : X × Lines). F a.0 a.1) (first_by (line_read f) ls) ≡ block_alone (and_then (line_by f (record { at = at; left = ls })) G)
  line-alike f at [] = refl
  line-alike f at (l ∷ ls) = matched-alike at ls (line_read f l)

-- ---- siblings
map_more : (F : Lines → Lines → Option Block) (s : List ℕ) (o : Option (Lines × Lines))
    → option_and_then (λ (a : Lines × Lines). F a.0 a.1) (option_map (λ (b : Lines × Lines). (s ∷ b.0, b.1)) o) ≡ option_and_then (λ (a : Lines × Lines). F (s ∷ a.0) a.1) o
map_more F s None = refl
map_more F s (Some b) = refl

read_more : (G : Lines → LinePlace → ReadResult Block) (s : List ℕ) (r : ReadResult Lines) → and_then r (λ xs q. G (s ∷ xs) q) ≡ and_then (and_then r (λ xs q. gives (s ∷ xs) q)) G
read_more G s (Ok p) = refl
read_more G s (Err at) = refl

-- siblings read by lines go on as those read by parts
abbrev AreSidesAlike : ℕ → Type 0
AreSidesAlike n = (at : ℕ) (ls : Lines) (F : Lines → Lines → Option Block) (G : Lines → LinePlace → ReadResult Block) → ((xs : Lines) (at' : ℕ) (ls' : Lines) → F xs ls' ≡ block_alone (G xs (record { at = at'; left = ls' })))
    → option_and_then (λ (a : Lines × Lines). F a.0 a.1) (sides_of n ls) ≡ block_alone (and_then (lines_by side_of n (record { at = at; left = ls })) G)

side-alike : (n : ℕ) → AreSidesAlike n → (at : ℕ) (ls : Lines) (o : Option (List ℕ)) (F : Lines → Lines → Option Block) (G : Lines → LinePlace → ReadResult Block) → ((xs : Lines) (at' : ℕ) (ls' : Lines) → F xs ls' ≡ block_alone (G xs (record { at = at'; left = ls' })))
    → option_and_then (λ (a : Lines × Lines). F a.0 a.1) (option_and_then (λ (a : List ℕ × Lines). option_map (λ (b : Lines × Lines). (a.0 ∷ b.0, b.1)) (sides_of n a.1)) (option_map (λ x. (x, ls)) o))
    ≡ block_alone (and_then (and_then (one_line_read at ls o) (λ x q. and_then (lines_by side_of n q) (λ xs r. gives (x ∷ xs) r))) G)
side-alike n more at ls None F G alike = refl
side-alike n more at ls (Some s) F G alike =
    map_more F s (sides_of n ls) ∙ more (at + 1) ls (λ xs. F (s ∷ xs)) (λ xs. G (s ∷ xs)) (λ xs. alike (s ∷ xs))
    ∙ ap block_alone (read_more G s (lines_by side_of n (record { at = at + 1; left = ls })))

sides-alike : (n : ℕ) → AreSidesAlike n
unfolding sides_of lines_by
sides-alike zero at ls F G alike = alike [] at ls
sides-alike (suc n) at [] F G alike = refl
sides-alike (suc n) at (l ∷ ls) F G alike = side-alike n (sides-alike n) at ls (line_read side_of l) F G alike

-- ---- the block
with_end-alike : (b : Block) (at : ℕ) (ls : Lines) → with_end b ls ≡ block_alone (gives b (record { at = at; left = ls }))
with_end-alike b at [] = refl
with_end-alike b at (l ∷ ls) = refl

abbrev with_sides : ℕ → List ℕ → Option (List ℕ) → Option (List ℕ × List ℕ) → Lines → Option Block
with_sides n name claim leaf ls = option_and_then (λ (e : Lines × Lines). with_end (name, claim, record { leaf = leaf; siblings = e.0 }) e.1) (sides_of n ls)

abbrev with_leaf : ℕ → List ℕ → Option (List ℕ) → Lines → Option Block
with_leaf n name claim ls = option_and_then (λ (d : Option (List ℕ × List ℕ) × Lines). with_sides n name claim d.0 d.1) (first_by (line_read leaf_line_of) ls)

abbrev with_claim : ℕ → List ℕ → Lines → Option Block
with_claim n name ls = option_and_then (λ (c : Option (List ℕ) × Lines). with_leaf n name c.0 c.1) (first_by (line_read claim_of) ls)

abbrev read_sides : ℕ → List ℕ → Option (List ℕ) → Option (List ℕ × List ℕ) → LinePlace → ReadResult Block
read_sides n name claim leaf s = and_then (lines_by side_of n s) (λ sides t. gives (name, claim, record { leaf = leaf; siblings = sides }) t)

abbrev read_leaf : ℕ → List ℕ → Option (List ℕ) → LinePlace → ReadResult Block
read_leaf n name claim r = and_then (line_by leaf_line_of r) (λ leaf s. read_sides n name claim leaf s)

abbrev read_claim : ℕ → List ℕ → LinePlace → ReadResult Block
read_claim n name q = and_then (line_by claim_of q) (λ claim r. read_leaf n name claim r)

body-alike : (n at : ℕ) (ls : Lines) → option_and_then (λ (b : List ℕ × Lines). with_claim n b.0 b.1) (first_by (line_read named_of) ls) ≡ block_alone (proof_block n (record { at = at; left = ls }))
unfolding proof_block
body-alike n at ls =
    line-alike (with_claim n) (read_claim n) (λ name at' ls'.
    line-alike (with_leaf n name) (read_leaf n name) (λ claim at'' ls''.
    line-alike (with_sides n name claim) (read_sides n name claim) (λ leaf at3 ls3.
    sides-alike n at3 ls3 (λ sides. with_end (name, claim, record { leaf = leaf; siblings = sides })) (λ sides. gives (name, claim, record { leaf = leaf; siblings = sides }))
    (λ sides. with_end-alike (name, claim, record { leaf = leaf; siblings = sides })))
    leaf_line_of at'' ls'') claim_of at' ls') named_of at ls

counted-alike : (ls : Lines) (o : Option ℕ) → option_and_then (λ (a : ℕ × Lines). option_and_then (λ (b : List ℕ × Lines). with_claim a.0 b.0 b.1) (first_by (line_read named_of) a.1)) (option_map (λ n. (n, ls)) o)
    ≡ option_and_then (λ n. block_alone (proof_block n (record { at = 2; left = ls }))) o
counted-alike ls None = refl
counted-alike ls (Some n) = body-alike n 2 ls

pub block_by_parts-block : (ls : Lines) → block_by_parts ls ≡ block_of ls
unfolding block_by_parts block_of
block_by_parts-block [] = refl
block_by_parts-block (l ∷ ls) = counted-alike ls (siblings_of l)
