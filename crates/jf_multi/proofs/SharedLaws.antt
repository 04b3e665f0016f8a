-- The honest proof of many keys has the root of the map, the honest proof of each key, and few items.
use Rattle.std.specs.Prelude.{◌≡◌, ℕ, zero, suc, ◌+◌, ◌-◌, ◌*◌, ◌≤◌, ◌⊎◌, Bool, true, false, not, cond, List, [], ◌∷◌, length, filter, Option, Some, option_map}
use Rattle.std.specs.List.{AllByRecursion}
use Rattle.std.proofs.Common.{refl, sym, ap, ap₂, ◌∙◌, arith, inl, inr, length-append}
use Rattle.std.proofs.Math.Nat.{add-mul, mul-add}
use Rattle.std.proofs.lemmas.List.Filters.{length-filter_both}
use Rattle.jf_path.specs.Keys.{bit}
use Rattle.jf_hash.specs.Hashes.{E, N}
use Rattle.jf_hash.specs.Maps.{Map}
use Rattle.jf_hash.specs.Roots.{Leaf, zeros, ones, leaves_root, root_below}
use Rattle.jf_hash.proofs.RootLaws.{leaves_root-none, leaves_root-one, leaves_root-split}
use Rattle.jf_evidence.specs.Proofs.{under_root, honest_below, honest_from, honest, leaves}
use Rattle.jf_evidence.specs.declared.proof.Proof.{Proof}
use Rattle.jf_multi.specs.Trees.{preorder, tree_height, tree_root, single_proof}
use Rattle.jf_multi.specs.SharedTrees.{zero_keys, one_keys, shared_below, shared_tree, shared_proof}

-- ---- its root
no_bit : (d : ℕ) (e f : Leaf) (es : List Leaf) → zero ≡ 256 - d → E ≡ leaves_root d (e ∷ f ∷ es)
unfolding leaves_root root_below
no_bit d e f es fuel = ap (λ (n : ℕ). root_below n d (e ∷ f ∷ es)) fuel

pub tree_root-shared_below : (n d : ℕ) (es : List Leaf) (keys : List (List ℕ)) → n ≡ 256 - d → tree_root (shared_below n d es keys) ≡ leaves_root d es
unfolding tree_root shared_below
tree_root-shared_below n d es [] fuel = refl
tree_root-shared_below n d [] (k ∷ ks) fuel = sym (leaves_root-none d)
tree_root-shared_below n d (e ∷ []) (k ∷ ks) fuel = sym (leaves_root-one d e)
tree_root-shared_below zero d (e ∷ f ∷ es) (k ∷ ks) fuel = no_bit d e f es fuel
tree_root-shared_below (suc n) d (e ∷ f ∷ es) (k ∷ ks) fuel =
    let all : List Leaf = e ∷ f ∷ es in
    ap₂ N (tree_root-shared_below n (d + 1) (zeros d all) (zero_keys d (k ∷ ks)) (omega arith)) (tree_root-shared_below n (d + 1) (ones d all) (one_keys d (k ∷ ks)) (omega arith))
    ∙ sym (leaves_root-split d all (omega arith) (omega arith))

-- ---- its single proofs
-- a key is one of those that are asked for
abbrev pub IsAsked : List ℕ → List (List ℕ) → Type 0
IsAsked key [] = ⊥
IsAsked key (k ∷ ks) = (key ≡ k) ⊎ IsAsked key ks

among_filter : (p : List ℕ → Bool) (key : List ℕ) (keys : List (List ℕ)) → p key ≡ true → IsAsked key keys → IsAsked key (filter p keys)
among_filter p key [] is among = absurd among
among_filter p key (k ∷ ks) is (inl e) = rw (ap p (sym e) ∙ is) (inl e)
among_filter p key (k ∷ ks) is (inr later) =
    let rest = among_filter p key ks is later in
    elim (p k) as (λ b. IsAsked key (cond b (k ∷ filter p ks) (filter p ks))) [ true ↦ inr rest | false ↦ rest ]

pub all_among : (P : List ℕ → Type 0) (keys : List (List ℕ)) → ((k : List ℕ) → IsAsked k keys → P k) → AllByRecursion P keys
all_among P [] h = tt
all_among P (k ∷ ks) h = (h k (inl refl), all_among P ks (λ q among. h q (inr among)))

-- the single proof of each key is the honest one
pub single_proof-shared_below : (n d : ℕ) (key : List ℕ) (es : List Leaf) (keys : List (List ℕ)) → n ≡ 256 - d → IsAsked key keys → single_proof d key (shared_below n d es keys) ≡ Some (honest_below n d key es)
unfolding single_proof shared_below honest_below
single_proof-shared_below n d key es [] fuel among = absurd among
single_proof-shared_below n d key [] (k ∷ ks) fuel among = refl
single_proof-shared_below n d key (e ∷ []) (k ∷ ks) fuel among = refl
single_proof-shared_below zero d key (e ∷ f ∷ es) (k ∷ ks) fuel among = refl
single_proof-shared_below (suc n) d key (e ∷ f ∷ es) (k ∷ ks) fuel among =
    let all : List Leaf = e ∷ f ∷ es in
    let keys : List (List ℕ) = k ∷ ks in
    let more : n ≡ 256 - (d + 1) = omega arith in
    let left = shared_below n (d + 1) (zeros d all) (zero_keys d keys) in
    let right = shared_below n (d + 1) (ones d all) (one_keys d keys) in
    elim (bit key d) as (λ b. bit key d ≡ b → cond b (option_map (λ p. under_root p (tree_root left)) (single_proof (d + 1) key right)) (option_map (λ p. under_root p (tree_root right)) (single_proof (d + 1) key left))
    ≡ Some (under_root (honest_below n (d + 1) key (cond b (ones d all) (zeros d all))) (leaves_root (d + 1) (cond b (zeros d all) (ones d all))))) [
      | true ↦ λ is.
          ap₂ (λ (o : Option Proof) (s : List ℕ). option_map (λ p. under_root p s) o)
          (single_proof-shared_below n (d + 1) key (ones d all) (one_keys d keys) more (among_filter (λ q. bit q d) key keys is among))
          (tree_root-shared_below n (d + 1) (zeros d all) (zero_keys d keys) more)
      | false ↦ λ is.
          ap₂ (λ (o : Option Proof) (s : List ℕ). option_map (λ p. under_root p s) o)
          (single_proof-shared_below n (d + 1) key (zeros d all) (zero_keys d keys) more (among_filter (λ q. not (bit q d)) key keys (ap not is) among))
          (tree_root-shared_below n (d + 1) (ones d all) (one_keys d keys) more)
    ] refl

pub single_proof-shared : (m : Map) (keys : List (List ℕ)) → AllByRecursion (λ k. single_proof 0 k (shared_tree 0 (leaves m) keys) ≡ Some (honest m k)) keys
unfolding shared_tree honest honest_from
single_proof-shared m keys = all_among _ keys (λ k among. single_proof-shared_below 256 0 k (leaves m) keys refl among)

-- ---- its tree_height and length
height_below : (n d : ℕ) (es : List Leaf) (keys : List (List ℕ)) → tree_height (shared_below n d es keys) ≤ n
unfolding tree_height shared_below
height_below n d es [] = omega arith
height_below n d [] (k ∷ ks) = omega arith
height_below n d (e ∷ []) (k ∷ ks) = omega arith
height_below zero d (e ∷ f ∷ es) (k ∷ ks) = omega arith
height_below (suc n) d (e ∷ f ∷ es) (k ∷ ks) =
    let all : List Leaf = e ∷ f ∷ es in
    omega (arith, height_below n (d + 1) (zeros d all) (zero_keys d (k ∷ ks)), height_below n (d + 1) (ones d all) (one_keys d (k ∷ ks)))

pub tree_height-shared_tree : (es : List Leaf) (keys : List (List ℕ)) → tree_height (shared_tree 0 es keys) ≤ 256
unfolding shared_tree
tree_height-shared_tree es keys = height_below 256 0 es keys

-- n levels, c keys of which z and o go to the two parts
step : (n c z o a b : ℕ) → 1 ≤ c → z + o ≡ c → a ≤ 2 * (n * z) + 1 → b ≤ 2 * (n * o) + 1 → suc (a + b) ≤ 2 * (suc n * c) + 1
step n c z o a b some both la lb =
    let split : n * c ≡ n * z + n * o = ap (λ (x : ℕ). n * x) (sym both) ∙ mul-add n z o in
    let next : suc n ≡ n + 1 = omega arith in
    let more : suc n * c ≡ n * c + 1 * c = ap (λ (k : ℕ). k * c) next ∙ add-mul n 1 c in
    omega arith

-- a fork for each level and key at most, and one item more than twice the forks
length_below : (n d : ℕ) (es : List Leaf) (keys : List (List ℕ)) → length (preorder (shared_below n d es keys)) ≤ 2 * (n * length keys) + 1
unfolding preorder shared_below
length_below n d es [] = omega arith
length_below n d [] (k ∷ ks) = omega arith
length_below n d (e ∷ []) (k ∷ ks) = omega arith
length_below zero d (e ∷ f ∷ es) (k ∷ ks) = omega arith
length_below (suc n) d (e ∷ f ∷ es) (k ∷ ks) =
    let all : List Leaf = e ∷ f ∷ es in
    let keys : List (List ℕ) = k ∷ ks in
    let left = preorder (shared_below n (d + 1) (zeros d all) (zero_keys d keys)) in
    let right = preorder (shared_below n (d + 1) (ones d all) (one_keys d keys)) in
    rw (length-append left right) (
    step n (length keys) (length (zero_keys d keys)) (length (one_keys d keys)) (length left) (length right) (omega arith)
    (length-filter_both (λ (q : List ℕ). not (bit q d)) (λ q. bit q d) (λ q. not_not (bit q d)) keys)
    (length_below n (d + 1) (zeros d all) (zero_keys d keys)) (length_below n (d + 1) (ones d all) (one_keys d keys)))
  where
    not_not : (b : Bool) → b ≡ not (not b)
    not_not true = refl
    not_not false = refl

pub length-shared_proof : (m : Map) (keys : List (List ℕ)) → length (shared_proof m keys) ≤ 512 * length keys + 1
unfolding shared_proof shared_tree
length-shared_proof m keys = omega (arith, length_below 256 0 (leaves m) keys)
