-- A text that is one proof block is no longer than 260 lines of 8,500 bytes with their line feeds.
use Rattle.std.specs.Prelude.{IfSome}
use Rattle.std.proofs.Common.{◌≡◌, ℕ, zero, suc, ◌+◌, ◌*◌, ◌<◌, ◌≤◌, ◌==◌, Bool, true, false, if◌then◌else◌, List, [], ◌∷◌, length, Option, Some, None, option_and_then, Ok, Err, refl, ap, nat_le, arith}
use Rattle.std.proofs.lemmas.Bool.Decides.{nat_tests}
use Rattle.std.specs.List.{onto_first}
use Rattle.jf_io.specs.Lines.{lines}
use Rattle.jf_text.specs.Words.{is_long, words}
use Rattle.jf_blocks.specs.Reading.{Block, LinePlace, ReadResult, gives, and_then, one_line_read, line_by, lines_by, named_of, claim_of, leaf_line_of, side_of, first_line_of, proof_block}
use Rattle.jf_blocks.specs.declared.first.FirstLine.{FirstLine}
use Rattle.jf_blocks.specs.declared.first.FirstLine.TheVariants as first
use Rattle.jf_ask.specs.Lookups.{siblings_in, siblings_of, block_alone, block_of, lookup_in, lookup}
use Rattle.jf_ask.specs.declared.lookup.LookupFault.TheVariants as fault
use Rattle.jf_judge.specs.JudgedReplies.{max_reply}

-- ---- lines
-- how many bytes lines have, each with its line feed
abbrev bytes_of : List (List ℕ) → ℕ
bytes_of [] = 0
bytes_of (l ∷ ls) = length l + 1 + bytes_of ls

byte-more : (feed : Bool) (b n : ℕ) (ls : List (List ℕ)) → n ≤ bytes_of ls → n + 1 ≤ bytes_of (if feed then [] ∷ ls else onto_first b ls)
byte-more true b n ls h = omega arith
byte-more false b n [] h = omega arith
byte-more false b n (l ∷ ls) h = omega arith

lines-bytes : (bytes : List ℕ) → length bytes ≤ bytes_of (lines bytes)
unfolding lines
lines-bytes [] = omega arith
lines-bytes (b ∷ bytes) = omega (arith, byte-more (b == 10) b (length bytes) (lines bytes) (lines-bytes bytes))

-- ---- readings
-- what was read has at most n bytes
abbrev Takes : {X : Type 0} → ℕ → List (List ℕ) → ReadResult X → Type 0
Takes n ls (Ok r) = bytes_of ls ≤ n + bytes_of r.1.left
Takes n ls (Err at) = Unit {0}

further : {X : Type 0} (m n : ℕ) (ls ks : List (List ℕ)) (r : ReadResult X) → bytes_of ls ≤ m + bytes_of ks → Takes n ks r → Takes (m + n) ls r
further m n ls ks (Ok r) less h = omega arith
further m n ls ks (Err at) less h = tt

and_then-takes : {X Y : Type 0} (m n : ℕ) (ls : List (List ℕ)) (r : ReadResult X) (f : X → LinePlace → ReadResult Y) → Takes m ls r → ((x : X) (q : LinePlace) → Takes n q.left (f x q)) → Takes (m + n) ls (and_then r f)
and_then-takes m n ls (Ok r) f h more = further m n ls r.1.left (f r.0 r.1) h (more r.0 r.1)
and_then-takes m n ls (Err at) f h more = tt

short : (line : List ℕ) → is_long line ≡ false → length line ≤ 8500
short line h = grind (arith, nat_tests)

matched-takes : {X : Type 0} (at : ℕ) (line : List ℕ) (ls : List (List ℕ)) (long : Bool) (o : Option X) → (long ≡ false → length line ≤ 8500) → Takes 8501 (line ∷ ls) (one_line_read at ls (if long then None else o))
matched-takes at line ls true o h = tt
matched-takes at line ls false None h = tt
matched-takes at line ls false (Some x) h = let small = h refl in omega arith

line_by-takes_at : {X : Type 0} (f : List (List ℕ) → Option X) (at : ℕ) (ls : List (List ℕ)) → Takes 8501 ls (line_by f (record { at = at; left = ls }))
line_by-takes_at f at [] = tt
line_by-takes_at f at (line ∷ ls) = matched-takes at line ls (is_long line) (f (words line)) (short line)

line_by-takes : {X : Type 0} (f : List (List ℕ) → Option X) (p : LinePlace) → Takes 8501 p.left (line_by f p)
line_by-takes f p = line_by-takes_at f p.at p.left

same-takes : {X : Type 0} (x : X) (p : LinePlace) → Takes 0 p.left (gives x p)
same-takes x p = omega arith

sum-takes : {X : Type 0} (m n : ℕ) (ls : List (List ℕ)) (r : ReadResult X) → m ≡ n → Takes m ls r → Takes n ls r
sum-takes m n ls (Ok r) e h = omega arith
sum-takes m n ls (Err at) e h = tt

lines_by-takes : {X : Type 0} (f : List (List ℕ) → Option X) (n : ℕ) (p : LinePlace) → Takes (n * 8501) p.left (lines_by f n p)
unfolding lines_by
lines_by-takes f zero p = omega arith
lines_by-takes f (suc n) p =
    sum-takes (8501 + (n * 8501 + 0)) (suc n * 8501) p.left _ (omega arith)
    (and_then-takes 8501 (n * 8501 + 0) p.left (line_by f p) _ (line_by-takes f p) (λ x q. and_then-takes (n * 8501) 0 q.left (lines_by f n q) _ (lines_by-takes f n q) (λ xs r. same-takes (x ∷ xs) r)))

proof_block-takes : (n : ℕ) (p : LinePlace) → Takes (8501 + (8501 + (8501 + (n * 8501 + 0)))) p.left (proof_block n p)
unfolding proof_block
proof_block-takes n p =
    and_then-takes 8501 (8501 + (8501 + (n * 8501 + 0))) p.left (line_by named_of p) _ (line_by-takes named_of p) (λ name q.
    and_then-takes 8501 (8501 + (n * 8501 + 0)) q.left (line_by claim_of q) _ (line_by-takes claim_of q) (λ claim r.
    and_then-takes 8501 (n * 8501 + 0) r.left (line_by leaf_line_of r) _ (line_by-takes leaf_line_of r) (λ leaf s.
    and_then-takes (n * 8501) 0 s.left (lines_by side_of n s) _ (lines_by-takes side_of n s) (λ sides t. same-takes {X = Block} (name, claim, record { leaf = leaf; siblings = sides }) t))))

-- ---- a block alone
alone-left : (b : Block) (left : List (List ℕ)) (w n : ℕ) → w ≤ n + bytes_of left → IfSome (elim left [ [] ↦ Some b | line ∷ rest ↦ None ]) (λ a. w ≤ n)
alone-left b [] w n h = omega arith
alone-left b (line ∷ rest) w n h = tt

alone-takes : (n : ℕ) (ls : List (List ℕ)) (r : ReadResult Block) → Takes n ls r → IfSome (block_alone r) (λ b. bytes_of ls ≤ n)
alone-takes n ls (Ok r) h = alone-left r.0 r.1.left (bytes_of ls) n h
alone-takes n ls (Err at) h = tt

-- what the first line of a block says, and how long it is
abbrev IsSmallHead : List ℕ → Option ℕ → Type 0
IsSmallHead line o = IfSome o (λ n. (n ≤ 256) × (length line ≤ 8500))

counted : (line : List ℕ) (n : ℕ) (fits : Bool) → (fits ≡ true → n ≤ 256) → length line ≤ 8500 → IsSmallHead line (if fits then Some n else None)
counted line n true most small = (most refl, small)
counted line n false most small = tt

at_most : (n : ℕ) → nat_le n 256 ≡ true → n ≤ 256
at_most n h = grind (arith, nat_tests)

headed : (line : List ℕ) (long : Bool) (o : Option FirstLine) → (long ≡ false → length line ≤ 8500) → IsSmallHead line (siblings_in (if long then None else o))
headed line true o h = tt
headed line false None h = tt
headed line false (Some (first.Root root)) h = tt
headed line false (Some (first.Proof n)) h = counted line n (nat_le n 256) (at_most n) (h refl)

head-small : (line : List ℕ) → IsSmallHead line (siblings_of line)
head-small line = headed line (is_long line) (first_line_of (words line)) (short line)

-- a fact about a block also holds if it is weaker
weaker : (o : Option Block) (v n w m : ℕ) → (v ≤ n → w ≤ m) → IfSome o (λ b. v ≤ n) → IfSome o (λ b. w ≤ m)
weaker None v n w m f h = tt
weaker (Some b) v n w m f h = f h

begun : (line : List ℕ) (rest : List (List ℕ)) (o : Option ℕ) → IsSmallHead line o
    → IfSome (option_and_then (λ n. block_alone (proof_block n (record { at = 2; left = rest }))) o) (λ b. bytes_of (line ∷ rest) ≤ max_reply)
begun line rest None h = tt
begun line rest (Some n) h =
    weaker (block_alone (proof_block n (record { at = 2; left = rest }))) (bytes_of rest) (8501 + (8501 + (8501 + (n * 8501 + 0)))) (bytes_of (line ∷ rest)) max_reply (λ small. omega (arith, small, h.0, h.1))
    (alone-takes (8501 + (8501 + (8501 + (n * 8501 + 0)))) rest (proof_block n (record { at = 2; left = rest })) (proof_block-takes n (record { at = 2; left = rest })))

block-small : (ls : List (List ℕ)) → IfSome (block_of ls) (λ b. bytes_of ls ≤ max_reply)
unfolding block_of
block-small [] = tt
block-small (line ∷ rest) = begun line rest (siblings_of line) (head-small line)

none-long : (o : Option Block) (w : ℕ) → max_reply < w → IfSome o (λ b. w ≤ max_reply) → o ≡ None
none-long None w long h = refl
none-long (Some b) w long h = absurd (omega arith)

-- a longer text shows nothing
pub lookup-long : (top name text : List ℕ) → max_reply < length text → lookup top name text ≡ Err fault.NoBlock
unfolding lookup
lookup-long top name text long =
    ap (lookup_in top name) (none-long (block_of (lines text)) (bytes_of (lines text)) (omega (arith, long, lines-bytes text)) (block-small (lines text)))
