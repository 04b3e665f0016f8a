-- How many bits entries and a key agree in, one bit further down.
use Rattle.std.specs.Prelude.{ℕ, Bool, nat_le, List, ◌≡◌, suc, ◌+◌, false, true, cond, not, ◌||◌, [], ◌∷◌}
use Rattle.std.proofs.Common.{arith, ap₂, ◌∙◌, refl, ap}
use Rattle.std.proofs.lemmas.Bool.Decides.{nat_tests}
use Rattle.std.specs.Bool.{beq}
use Rattle.std.specs.List.{list_any}
use Rattle.jf_path.specs.Nibbles.{common_from}
use Rattle.jf_path.specs.Keys.{bit}
use Rattle.jf_hash.specs.Roots.{ones, zeros}
use Rattle.jf_evidence.specs.Ranges.{Entries}

-- whether an entry agrees with a key in n bits, of the k bits from bit d on
abbrev pub is_near : ℕ → ℕ → ℕ → List ℕ → Entries → Bool
is_near n k d key es = list_any (λ e. nat_le n (common_from k d e.0 key)) es

one_less : (n c : ℕ) → nat_le (suc n) (1 + c) ≡ nat_le n c
one_less n c = grind (arith, nat_tests)

too_many : (n : ℕ) → nat_le (suc n) 0 ≡ false
too_many n = grind (arith, nat_tests)

-- with the same next bit two keys agree in one bit more than below it, with different ones in none
pub same_next_bit : (n k d : ℕ) (a key : List ℕ) (b : Bool) → bit a d ≡ b → bit key d ≡ b → nat_le (suc n) (common_from (suc k) d a key) ≡ nat_le n (common_from k (d + 1) a key)
unfolding common_from
same_next_bit n k d a key true is own = ap₂ (λ s t. nat_le (suc n) (cond (beq s t) (1 + common_from k (d + 1) a key) 0)) is own ∙ one_less n (common_from k (d + 1) a key)
same_next_bit n k d a key false is own = ap₂ (λ s t. nat_le (suc n) (cond (beq s t) (1 + common_from k (d + 1) a key) 0)) is own ∙ one_less n (common_from k (d + 1) a key)

pub other_bit : (n k d : ℕ) (a key : List ℕ) (b : Bool) → bit a d ≡ not b → bit key d ≡ b → nat_le (suc n) (common_from (suc k) d a key) ≡ false
unfolding common_from
other_bit n k d a key true is own = ap₂ (λ s t. nat_le (suc n) (cond (beq s t) (1 + common_from k (d + 1) a key) 0)) is own ∙ too_many n
other_bit n k d a key false is own = ap₂ (λ s t. nat_le (suc n) (cond (beq s t) (1 + common_from k (d + 1) a key) 0)) is own ∙ too_many n

-- only entries with the key's next bit agree with it further down, in as many bits below as before
pub is_near-one : (n k d : ℕ) (key : List ℕ) (es : Entries) → bit key d ≡ true → is_near (suc n) (suc k) d key es ≡ is_near n k (d + 1) key (ones d es)
is_near-one n k d key [] own = refl
is_near-one n k d key (e ∷ es) own =
    elim (bit e.0 d) as (λ b. bit e.0 d ≡ b → (nat_le (suc n) (common_from (suc k) d e.0 key) || is_near (suc n) (suc k) d key es) ≡ is_near n k (d + 1) key (cond b (e ∷ ones d es) (ones d es))) [
      | true ↦ λ is. ap₂ (λ a b. a || b) (same_next_bit n k d e.0 key true is own) (is_near-one n k d key es own)
      | false ↦ λ is. ap₂ (λ a b. a || b) (other_bit n k d e.0 key true is own) (is_near-one n k d key es own)
    ] refl

pub is_near-zero : (n k d : ℕ) (key : List ℕ) (es : Entries) → bit key d ≡ false → is_near (suc n) (suc k) d key es ≡ is_near n k (d + 1) key (zeros d es)
is_near-zero n k d key [] own = refl
is_near-zero n k d key (e ∷ es) own =
    elim (bit e.0 d) as (λ b. bit e.0 d ≡ b → (nat_le (suc n) (common_from (suc k) d e.0 key) || is_near (suc n) (suc k) d key es) ≡ is_near n k (d + 1) key (cond (not b) (e ∷ zeros d es) (zeros d es))) [
      | true ↦ λ is. ap₂ (λ a b. a || b) (other_bit n k d e.0 key false is own) (is_near-zero n k d key es own)
      | false ↦ λ is. ap₂ (λ a b. a || b) (same_next_bit n k d e.0 key false is own) (is_near-zero n k d key es own)
    ] refl

pub any_number : (n : ℕ) → nat_le 0 n ≡ true
any_number n = grind (arith, nat_tests)

-- if no entry agrees with a key in no bits, there is no entry
pub is_near-none : (k d : ℕ) (key : List ℕ) (es : Entries) → is_near 0 k d key es ≡ false → es ≡ []
is_near-none k d key [] none = refl
is_near-none k d key (e ∷ es) none = let yes : is_near 0 k d key (e ∷ es) ≡ true = ap (λ b. b || is_near 0 k d key es) (any_number (common_from k d e.0 key)) in absurd (cc)
