-- The siblings of an honest proof, the highest first, and those on the right of the way.
use Rattle.std.specs.Prelude.{ℕ, if◌then◌else◌, List, zero, suc, ◌+◌, [], ◌∷◌, ◌≡◌, true, false, not, cond, map, reverse, length, Bool, ◌++◌, ◌≤◌, ◌⊎◌}
use Rattle.std.proofs.Common.{refl, ap, ap₂, ◌∙◌, arith, length-append, sym, inl, inr}
use Rattle.std.proofs.lemmas.Grind.{reverse_onto}
use Rattle.std.proofs.lemmas.List.{reverse-append, reverse-reverse}
use Rattle.jf_path.specs.Keys.{bit}
use Rattle.jf_hash.specs.Roots.{zeros, ones, part_root, leaf_of, Leaf, leaves_root}
use Rattle.jf_hash.proofs.RootLaws.{filter-leaves}
use Rattle.jf_evidence.specs.Ranges.{Entries, right_siblings, KeyAndValue}
use Rattle.jf_evidence.specs.Proofs.{near, far, honest_below}

-- ---- all of them
-- the half whose bit d is the key's
abbrev pub near_half : List ℕ → ℕ → Entries → Entries
near_half key d es = if bit key d then ones d es else zeros d es

-- the half whose bit d is not the key's
abbrev pub far_half : List ℕ → ℕ → Entries → Entries
far_half key d es = if bit key d then zeros d es else ones d es

-- the siblings of a key, the highest first, among entries that agree in their first d bits and have n bits more
unfoldable pub siblings_down : ℕ → ℕ → List ℕ → Entries → List (List ℕ)
siblings_down n d key [] = []
siblings_down n d key (e ∷ []) = []
siblings_down zero d key (e ∷ f ∷ es) = []
siblings_down (suc n) d key (e ∷ f ∷ es) = part_root (d + 1) (far_half key d (e ∷ f ∷ es)) ∷ siblings_down n (d + 1) key (near_half key d (e ∷ f ∷ es))

near_leaves : (key : List ℕ) (d : ℕ) (es : Entries) → near key d (map leaf_of es) ≡ map leaf_of (near_half key d es)
near_leaves key d es =
    elim (bit key d) as (λ b. cond b (ones d (map leaf_of es)) (zeros d (map leaf_of es)) ≡ map leaf_of (cond b (ones d es) (zeros d es))) [
      | true ↦ filter-leaves (λ k. bit k d) es
      | false ↦ filter-leaves (λ k. not (bit k d)) es
    ]

far_leaves : (key : List ℕ) (d : ℕ) (es : Entries) → far key d (map leaf_of es) ≡ map leaf_of (far_half key d es)
far_leaves key d es =
    elim (bit key d) as (λ b. cond b (zeros d (map leaf_of es)) (ones d (map leaf_of es)) ≡ map leaf_of (cond b (zeros d es) (ones d es))) [
      | true ↦ filter-leaves (λ k. not (bit k d)) es
      | false ↦ filter-leaves (λ k. bit k d) es
    ]

pub siblings-down : (n d : ℕ) (key : List ℕ) (es : Entries) → reverse (honest_below n d key (map leaf_of es)).siblings ≡ siblings_down n d key es
unfolding honest_below siblings_down part_root
siblings-down n d key [] = refl
siblings-down n d key (e ∷ []) = refl
siblings-down zero d key (e ∷ f ∷ es) = refl
siblings-down (suc n) d key (e ∷ f ∷ es) =
    let all : Entries = e ∷ f ∷ es in
    let below = honest_below n (d + 1) key (near key d (map leaf_of all)) in
    reverse-append below.siblings (leaves_root (d + 1) (far key d (map leaf_of all)) ∷ [])
    ∙ ap₂ (λ (far near : List Leaf). leaves_root (d + 1) far ∷ reverse (honest_below n (d + 1) key near).siblings) (far_leaves key d all) (near_leaves key d all)
    ∙ ap (λ (ts : List (List ℕ)). leaves_root (d + 1) (map leaf_of (far_half key d all)) ∷ ts) (siblings-down n (d + 1) key (near_half key d all))

-- the siblings on the right of the way
abbrev pub rights : ℕ → List ℕ → List (List ℕ) → List (List ℕ)
rights d key [] = []
rights d key (t ∷ ts) = if bit key d then rights (d + 1) key ts else t ∷ rights (d + 1) key ts

-- the siblings on the right, of siblings with the lowest first and the one of bit d last
abbrev rights_to : ℕ → List ℕ → List (List ℕ) → List (List ℕ)
rights_to d key [] = []
rights_to d key (s ∷ ss) = if bit key (d + length ss) then rights_to d key ss else s ∷ rights_to d key ss

right_siblings-rights_to : (key : List ℕ) (ss : List (List ℕ)) → right_siblings key ss ≡ rights_to 0 key ss
unfolding right_siblings
right_siblings-rights_to key [] = refl
right_siblings-rights_to key (s ∷ ss) =
    let i : length ss ≡ 0 + length ss = omega arith in
    ap₂ (λ (n : ℕ) (r : List (List ℕ)). cond (bit key n) r (s ∷ r)) i (right_siblings-rights_to key ss)

rights_to-push : (d : ℕ) (key : List ℕ) (ss : List (List ℕ)) (t : List ℕ) → rights_to d key (ss ++ t ∷ []) ≡ cond (bit key d) (rights_to (d + 1) key ss) (rights_to (d + 1) key ss ++ t ∷ [])
rights_to-push d key [] t = let i : d + 0 ≡ d = omega arith in ap (λ n. cond (bit key n) [] (t ∷ [])) i
rights_to-push d key (s ∷ ss) t =
    let i : d + length (ss ++ t ∷ []) ≡ (d + 1) + length ss = omega (arith, length-append ss (t ∷ [])) in
    ap₂ (λ (n : ℕ) (r : List (List ℕ)). cond (bit key n) r (s ∷ r)) i (rights_to-push d key ss t)
    ∙ swap (bit key ((d + 1) + length ss)) (bit key d) s t (rights_to (d + 1) key ss)
  where
    swap : (a b : Bool) (s t : List ℕ) (r : List (List ℕ)) → cond a (cond b r (r ++ t ∷ [])) (s ∷ cond b r (r ++ t ∷ [])) ≡ cond b (cond a r (s ∷ r)) (cond a r (s ∷ r) ++ t ∷ [])
    swap true true s t r = refl
    swap true false s t r = refl
    swap false true s t r = refl
    swap false false s t r = refl

rights_to-turned : (d : ℕ) (key : List ℕ) (ts : List (List ℕ)) → rights_to d key (reverse ts) ≡ reverse (rights d key ts)
rights_to-turned d key [] = refl
rights_to-turned d key (t ∷ ts) =
    ap (rights_to d key) (reverse_onto ts t []) ∙ rights_to-push d key (reverse ts) t ∙ ap (λ (r : List (List ℕ)). cond (bit key d) r (r ++ t ∷ [])) (rights_to-turned (d + 1) key ts)
    ∙ elim (bit key d) as (λ b. cond b (reverse (rights (d + 1) key ts)) (reverse (rights (d + 1) key ts) ++ t ∷ []) ≡ reverse (cond b (rights (d + 1) key ts) (t ∷ rights (d + 1) key ts))) [
      | true ↦ refl
      | false ↦ sym (reverse_onto (rights (d + 1) key ts) t [])
    ]

pub right_siblings-rights : (key : List ℕ) (ss : List (List ℕ)) → right_siblings key ss ≡ reverse (rights 0 key (reverse ss))
right_siblings-rights key ss = right_siblings-rights_to key ss ∙ ap (rights_to 0 key) (sym (reverse-reverse ss)) ∙ rights_to-turned 0 key (reverse ss)

-- ---- one entry alone, or more
pub alone_or_more : (xs : Entries) (x : KeyAndValue) (ys : Entries) → ((xs ≡ []) × (ys ≡ [])) ⊎ (2 ≤ length (xs ++ x ∷ ys))
alone_or_more [] x [] = inl (refl, refl)
alone_or_more [] x (y ∷ ys) = inr (omega arith)
alone_or_more (e ∷ xs) x ys = inr (omega (arith, length-append xs (x ∷ ys)))

pub siblings_down-split : (n d : ℕ) (key : List ℕ) (es : Entries) → 2 ≤ length es → siblings_down (suc n) d key es ≡ part_root (d + 1) (far_half key d es) ∷ siblings_down n (d + 1) key (near_half key d es)
unfolding siblings_down
siblings_down-split n d key [] two = absurd (omega arith)
siblings_down-split n d key (e ∷ []) two = absurd (omega arith)
siblings_down-split n d key (e ∷ f ∷ es) two = refl
