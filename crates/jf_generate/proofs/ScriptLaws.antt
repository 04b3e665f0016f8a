-- Lines of generated scripts: how many there are, and which come first.
use Rattle.std.proofs.Common.{ℕ, zero, suc, if◌then◌else◌, ◌+◌, ◌-◌, ◌*◌, ◌≤◌, ◌<◌, ◌≡◌, Bool, true, false, List, [], ◌∷◌, ◌++◌, length, arith, refl, ap, codes, decimal, ◌∙◌, ◌%◌, ◌==◌, length-append}
use Rattle.std.proofs.lemmas.Nat.{mul-le}
use Rattle.jf_generate.specs.Scripts.{max_batches, max_size, max_lines, lines_of_script, drawn_line, drawn_lines, drawn_after, prune_lines, compact_lines, batch_end, generated_from, next_drawn}

-- n numbers have n lines
length-drawn_lines : (n x : ℕ) → length (drawn_lines n x) ≡ n
unfolding drawn_lines
length-drawn_lines zero x = refl
length-drawn_lines (suc n) x = ap suc (length-drawn_lines n (next_drawn x))

length-one_or_none : (b : Bool) (line : List ℕ) → length (if b then line ∷ [] else []) ≤ 1
length-one_or_none true line = omega arith
length-one_or_none false line = omega arith

-- a batch has at most three lines after its puts and deletes
length-batch_end : (b : ℕ) (later : List (List ℕ)) → length (batch_end b later) ≤ length later + 3
length-batch_end b later =
    let prunes = length-one_or_none (b % 10 == 0) (codes "prune " ++ decimal (b - 5)) in
    let compacts = length-one_or_none (b % 25 == 0) (codes "compact") in
    omega (arith, prunes, compacts, length-append (prune_lines b) (compact_lines b ++ later), length-append (compact_lines b) later)

-- a script has at most `size` + 3 lines for each batch, and two at its end
pub length-generated_from : (n b size x : ℕ) → length (generated_from n b size x) ≤ n * (size + 3) + 2
unfolding generated_from
length-generated_from zero b size x = omega arith
length-generated_from (suc n) b size x =
    let later = generated_from n (b + 1) size (drawn_after size x) in
    let h = length-generated_from n (b + 1) size (drawn_after size x) in
    let e = length-batch_end b later in
    omega (arith, h, e, length-drawn_lines size x, length-append (drawn_lines size x) (batch_end b later))

-- where no number is left, no line is
pub drawn_lines-none : (x : ℕ) → drawn_lines 0 x ≡ []
unfolding drawn_lines
drawn_lines-none x = refl

pub drawn_after-none : (x : ℕ) → drawn_after 0 x ≡ x
unfolding drawn_after
drawn_after-none x = refl

drawn_lines-suc : (n x : ℕ) → drawn_lines (suc n) x ≡ drawn_line (next_drawn x) ∷ drawn_lines n (next_drawn x)
unfolding drawn_lines
drawn_lines-suc n x = refl

drawn_after-suc : (n x : ℕ) → drawn_after (suc n) x ≡ drawn_after n (next_drawn x)
unfolding drawn_after
drawn_after-suc n x = refl

-- where numbers are left, the first of them has the first line
pub drawn_lines-more : (n x : ℕ) → 0 < n → drawn_lines n x ≡ drawn_line (next_drawn x) ∷ drawn_lines (n - 1) (next_drawn x)
drawn_lines-more n x h = ap (λ m. drawn_lines m x) (omega (arith, h)) ∙ drawn_lines-suc (n - 1) x

pub drawn_after-more : (n x : ℕ) → 0 < n → drawn_after n x ≡ drawn_after (n - 1) (next_drawn x)
drawn_after-more n x h = ap (λ m. drawn_after m x) (omega (arith, h)) ∙ drawn_after-suc (n - 1) x

-- where no batch is left, the script ends
pub generated_from-none : (b size x : ℕ) → generated_from 0 b size x ≡ codes "root head" ∷ codes "status" ∷ []
unfolding generated_from
generated_from-none b size x = refl

generated_from-suc : (n b size x : ℕ) → generated_from (suc n) b size x ≡ drawn_lines size x ++ batch_end b (generated_from n (b + 1) size (drawn_after size x))
unfolding generated_from
generated_from-suc n b size x = refl

-- where batches are left, the first of them has the first lines
pub generated_from-more : (n b size x : ℕ) → 0 < n
    → generated_from n b size x ≡ drawn_lines size x ++ batch_end b (generated_from (n - 1) (b + 1) size (drawn_after size x))
generated_from-more n b size x h = ap (λ m. generated_from m b size x) (omega (arith, h)) ∙ generated_from-suc (n - 1) b size x

-- a script has at most 10,003,002 lines
pub length-script_le : (seed batches size : ℕ) → batches ≤ max_batches → size ≤ max_size → length (lines_of_script seed batches size) ≤ max_lines
length-script_le seed batches size few small =
    let h = length-generated_from batches 1 size seed in
    let most : batches * (size + 3) ≤ 1000 * 10003 = mul-le batches (size + 3) 1000 10003 few (omega (arith, small)) in
    omega (arith, h, most)
