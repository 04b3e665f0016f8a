-- Laws on the root of a chunk, by the entries before its last one and with the highest sibling first.
use Rattle.std.specs.Prelude.{◌≡◌, ◌+◌, ◌-◌, List, [], ◌∷◌, ◌++◌, Option, Some, ℕ, reverse, drop, zero, suc, if◌then◌else◌, true, false, cond, length, not}
use Rattle.std.proofs.Common.{refl, ap, arith, length-append, ◌∙◌, ap₂}
use Rattle.std.proofs.lemmas.Grind.{reverse_onto}
use Rattle.std.proofs.lemmas.List.{take_at, append-nil}
use Rattle.std.proofs.lemmas.List.Elements.{filter-append}
use Rattle.std.specs.List.{last_or}
use Rattle.std.specs.Option.{unwrap_or}
use Rattle.jf_path.specs.Keys.{bit}
use Rattle.jf_hash.specs.Hashes.{L, N, V}
use Rattle.jf_hash.specs.Roots.{zeros, ones, part_root}
use Rattle.jf_hash.proofs.HashLaws.{L-IsKey, N-IsKey}
use Rattle.jf_evidence.specs.Ranges.{KeyAndValue, Entries, last_entry, last_hash, all_but_last, first_hash, range_root_below}
use Rattle.jf_evidence.specs.Inputs.{leaf_input, pair_input, value_input}
use Rattle.jf_evidence.specs.MapClashes.{part_inputs}
use Rattle.jf_evidence.specs.FrontClashes.{range_inputs}

-- ---- the last of a list
pub last_or-push : {X : Type 0} (o : Option X) (xs : List X) (x : X) → last_or o (xs ++ x ∷ []) ≡ Some x
last_or-push o [] x = refl
last_or-push o (y ∷ xs) x = last_or-push (Some y) xs x

pub last_entry-push : (xs : Entries) (x : KeyAndValue) → last_entry (xs ++ x ∷ []) ≡ x
last_entry-push xs x = ap (λ o. unwrap_or o ([], [])) (last_or-push _ xs x)

pub last_hash-push : (xs : List (List ℕ)) (x : List ℕ) → last_hash (xs ++ x ∷ []) ≡ x
last_hash-push xs x = ap (λ o. unwrap_or o []) (last_or-push _ xs x)

pub all_but_last-push : {X : Type 0} (xs : List X) (x : X) → all_but_last (xs ++ x ∷ []) ≡ xs
all_but_last-push xs x = take_at xs (x ∷ []) _ (omega (arith, length-append xs (x ∷ [])))

last_hash-turned : (ts : List (List ℕ)) → last_hash (reverse ts) ≡ first_hash ts
last_hash-turned [] = refl
last_hash-turned (t ∷ ts) = ap last_hash (reverse_onto ts t []) ∙ last_hash-push (reverse ts) t

all_but_last-turned : (ts : List (List ℕ)) → all_but_last (reverse ts) ≡ reverse (drop 1 ts)
all_but_last-turned [] = refl
all_but_last-turned (t ∷ ts) = ap all_but_last (reverse_onto ts t []) ∙ all_but_last-push (reverse ts) t

-- the root of a chunk whose last entry is x, with xs before it
unfoldable pub chain_root : ℕ → ℕ → Entries → KeyAndValue → List (List ℕ) → List ℕ
chain_root zero d xs x ts = L x.0 (V x.1)
chain_root (suc n) d xs x ts =
    if bit x.0 d then N (part_root (d + 1) (zeros d xs)) (chain_root n (d + 1) (ones d xs) x ts) else N (chain_root n (d + 1) xs x (drop 1 ts)) (first_hash ts)

-- what the chunk's root hashes, by the entries before its last one
unfoldable pub chain_inputs : ℕ → ℕ → Entries → KeyAndValue → List (List ℕ) → List (List ℕ)
chain_inputs zero d xs x ts = leaf_input x.0 (V x.1) ∷ value_input x.1 ∷ []
chain_inputs (suc n) d xs x ts =
    if bit x.0 d
    then pair_input (part_root (d + 1) (zeros d xs)) (chain_root n (d + 1) (ones d xs) x ts) ∷ (part_inputs (256 - (d + 1)) (d + 1) (zeros d xs) ++ chain_inputs n (d + 1) (ones d xs) x ts)
    else pair_input (chain_root n (d + 1) xs x (drop 1 ts)) (first_hash ts) ∷ chain_inputs n (d + 1) xs x (drop 1 ts)

-- the root of a chunk has 32 bytes
pub chain_root-long : (n d : ℕ) (xs : Entries) (x : KeyAndValue) (ts : List (List ℕ)) → length (chain_root n d xs x ts) ≡ 32
unfolding chain_root
chain_root-long zero d xs x ts = (L-IsKey x.0 (V x.1)).long
chain_root-long (suc n) d xs x ts =
    elim (bit x.0 d) as (λ b. length (cond b (N (part_root (d + 1) (zeros d xs)) (chain_root n (d + 1) (ones d xs) x ts)) (N (chain_root n (d + 1) xs x (drop 1 ts)) (first_hash ts))) ≡ 32) [
      | true ↦ (N-IsKey _ _).long
      | false ↦ (N-IsKey _ _).long
    ]

-- ---- the two forms
zeros_last : (d : ℕ) (xs : Entries) (x : KeyAndValue) → bit x.0 d ≡ true → zeros d (xs ++ x ∷ []) ≡ zeros d xs
zeros_last d xs x one = filter-append (λ e. not (bit e.0 d)) xs (x ∷ []) ∙ ap (λ b. zeros d xs ++ cond (not b) (x ∷ []) []) one ∙ append-nil (zeros d xs)

ones_last : (d : ℕ) (xs : Entries) (x : KeyAndValue) → bit x.0 d ≡ true → ones d (xs ++ x ∷ []) ≡ ones d xs ++ x ∷ []
ones_last d xs x one = filter-append (λ e. bit e.0 d) xs (x ∷ []) ∙ ap (λ b. ones d xs ++ cond b (x ∷ []) []) one

pub range_root_below-chain : (n d : ℕ) (xs : Entries) (x : KeyAndValue) (ts : List (List ℕ)) → range_root_below n d x.0 (xs ++ x ∷ []) (reverse ts) ≡ chain_root n d xs x ts
unfolding range_root_below chain_root
range_root_below-chain zero d xs x ts = ap (λ (e : KeyAndValue). L e.0 (V e.1)) (last_entry-push xs x)
range_root_below-chain (suc n) d xs x ts =
    elim (bit x.0 d) as (λ b. bit x.0 d ≡ b
    → cond b (N (part_root (d + 1) (zeros d (xs ++ x ∷ []))) (range_root_below n (d + 1) x.0 (ones d (xs ++ x ∷ [])) (reverse ts)))
    (N (range_root_below n (d + 1) x.0 (xs ++ x ∷ []) (all_but_last (reverse ts))) (last_hash (reverse ts)))
    ≡ cond b (N (part_root (d + 1) (zeros d xs)) (chain_root n (d + 1) (ones d xs) x ts)) (N (chain_root n (d + 1) xs x (drop 1 ts)) (first_hash ts))) [
      | true ↦ λ is. ap₂ (λ (a b : List ℕ). N a b) (ap (part_root (d + 1)) (zeros_last d xs x is))
          (ap (λ (es : Entries). range_root_below n (d + 1) x.0 es (reverse ts)) (ones_last d xs x is) ∙ range_root_below-chain n (d + 1) (ones d xs) x ts)
      | false ↦ λ is. ap₂ (λ (a b : List ℕ). N a b)
          (ap (range_root_below n (d + 1) x.0 (xs ++ x ∷ [])) (all_but_last-turned ts) ∙ range_root_below-chain n (d + 1) xs x (drop 1 ts)) (last_hash-turned ts)
    ] refl

pub range_inputs-chain : (n d : ℕ) (xs : Entries) (x : KeyAndValue) (ts : List (List ℕ)) → range_inputs n d x.0 (xs ++ x ∷ []) (reverse ts) ≡ chain_inputs n d xs x ts
unfolding range_inputs chain_inputs
range_inputs-chain zero d xs x ts = ap (λ (e : KeyAndValue). leaf_input e.0 (V e.1) ∷ value_input e.1 ∷ []) (last_entry-push xs x)
range_inputs-chain (suc n) d xs x ts =
    let es : Entries = xs ++ x ∷ [] in
    elim (bit x.0 d) as (λ b. bit x.0 d ≡ b
    → cond b (pair_input (part_root (d + 1) (zeros d es)) (range_root_below n (d + 1) x.0 (ones d es) (reverse ts)) ∷ (part_inputs (256 - (d + 1)) (d + 1) (zeros d es) ++ range_inputs n (d + 1) x.0 (ones d es) (reverse ts)))
    (pair_input (range_root_below n (d + 1) x.0 es (all_but_last (reverse ts))) (last_hash (reverse ts)) ∷ range_inputs n (d + 1) x.0 es (all_but_last (reverse ts)))
    ≡ cond b (pair_input (part_root (d + 1) (zeros d xs)) (chain_root n (d + 1) (ones d xs) x ts) ∷ (part_inputs (256 - (d + 1)) (d + 1) (zeros d xs) ++ chain_inputs n (d + 1) (ones d xs) x ts))
    (pair_input (chain_root n (d + 1) xs x (drop 1 ts)) (first_hash ts) ∷ chain_inputs n (d + 1) xs x (drop 1 ts))) [
      | true ↦ λ is.
          let root = ap (λ (fs : Entries). range_root_below n (d + 1) x.0 fs (reverse ts)) (ones_last d xs x is) ∙ range_root_below-chain n (d + 1) (ones d xs) x ts in
          let inputs = ap (λ (fs : Entries). range_inputs n (d + 1) x.0 fs (reverse ts)) (ones_last d xs x is) ∙ range_inputs-chain n (d + 1) (ones d xs) x ts in
          ap₂ (λ (z : Entries) (h : List ℕ). pair_input (part_root (d + 1) z) h ∷ (part_inputs (256 - (d + 1)) (d + 1) z ++ range_inputs n (d + 1) x.0 (ones d es) (reverse ts))) (zeros_last d xs x is) root
          ∙ ap (λ (r : List (List ℕ)). pair_input (part_root (d + 1) (zeros d xs)) (chain_root n (d + 1) (ones d xs) x ts) ∷ (part_inputs (256 - (d + 1)) (d + 1) (zeros d xs) ++ r)) inputs
      | false ↦ λ is.
          let root = ap (range_root_below n (d + 1) x.0 es) (all_but_last-turned ts) ∙ range_root_below-chain n (d + 1) xs x (drop 1 ts) in
          let inputs = ap (range_inputs n (d + 1) x.0 es) (all_but_last-turned ts) ∙ range_inputs-chain n (d + 1) xs x (drop 1 ts) in
          ap₂ (λ (h : List ℕ) (r : List (List ℕ)). pair_input h (last_hash (reverse ts)) ∷ r) root inputs
          ∙ ap (λ (h : List ℕ). pair_input (chain_root n (d + 1) xs x (drop 1 ts)) h ∷ chain_inputs n (d + 1) xs x (drop 1 ts)) (last_hash-turned ts)
    ] refl
