-- The next bit of two keys: they agree in it, or their common bits end before it.
use Rattle.std.proofs.Common.{◌≡◌, ℕ, suc, ◌+◌, ◌-◌, ◌<◌, Bool, true, false, not, cond, List, ap, ap₂, ◌∙◌, sym, arith, true≢false}
use Rattle.std.specs.Bool.{beq}
use Rattle.jf_path.specs.Keys.{bit}
use Rattle.jf_path.specs.Nibbles.{common_from, common_bits}

next : (i : ℕ) (a b : List ℕ) → i < 256 → common_from (256 - i) i a b ≡ cond (beq (bit a i) (bit b i)) (1 + common_from (256 - (i + 1)) (i + 1) a b) 0
unfolding common_from
next i a b lt = ap (λ n. common_from n i a b) (let e : 256 - i ≡ suc (256 - (i + 1)) = omega arith in e)

chosen : (t : Bool) (n x : ℕ) → n ≡ cond t x 0 → (not t ≡ false → n ≡ x) × (not t ≡ true → n ≡ 0)
chosen true n x e = (λ h. e, λ h. absurd (true≢false (sym h)))
chosen false n x e = (λ h. absurd (true≢false h), λ h. e)

-- equal bits at place i are common, and the count goes on after them; different bits end it
step : (i : ℕ) (a b : List ℕ) (x y : Bool) → i < 256 → x ≡ bit a i → y ≡ bit b i → common_from (256 - i) i a b ≡ cond (beq x y) (1 + common_from (256 - (i + 1)) (i + 1) a b) 0
step i a b x y lt ex ey = next i a b lt ∙ ap₂ (λ s t. cond (beq s t) (1 + common_from (256 - (i + 1)) (i + 1) a b) 0) (sym ex) (sym ey)

pub common_from-same : (i : ℕ) (a b : List ℕ) (x y : Bool) → i < 256 → x ≡ bit a i → y ≡ bit b i → not (beq x y) ≡ false → i + common_from (256 - i) i a b ≡ i + 1 + common_from (256 - (i + 1)) (i + 1) a b
common_from-same i a b x y lt ex ey same = omega (arith, (chosen (beq x y) _ _ (step i a b x y lt ex ey)).0 same)

pub common_from-differ : (i : ℕ) (a b : List ℕ) (x y : Bool) → i < 256 → x ≡ bit a i → y ≡ bit b i → not (beq x y) ≡ true → i + common_from (256 - i) i a b ≡ i
common_from-differ i a b x y lt ex ey differ = omega (arith, (chosen (beq x y) _ _ (step i a b x y lt ex ey)).1 differ)

pub common_bits-start : (a b : List ℕ) → common_bits a b ≡ 0 + common_from (256 - 0) 0 a b
unfolding common_bits
common_bits-start a b = omega arith

pub common_from-end : (i : ℕ) (a b : List ℕ) → i ≡ 256 → i + common_from (256 - i) i a b ≡ 256
unfolding common_from
common_from-end i a b e = ap (λ j. j + common_from (256 - j) j a b) e
