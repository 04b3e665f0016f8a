-- The honest proof of a key results in the root of the map and has at most 256 siblings, whatever the key.
use Rattle.std.specs.Prelude.{◌≡◌, ℕ, ◌-◌, List, [], None, ◌∷◌, Some, suc, ◌+◌, ◌≤◌, length, ◌<◌, ◌++◌, true, false, cond, zero}
use Rattle.std.proofs.Common.{refl, arith, ap, ◌∙◌, length-append, sym}
use Rattle.jf_path.specs.Keys.{bit}
use Rattle.jf_hash.specs.Roots.{Leaf, leaves_root, zeros, ones, root_below, root}
use Rattle.jf_hash.specs.Hashes.{N}
use Rattle.jf_hash.specs.Maps.{Map}
use Rattle.jf_evidence.specs.Proofs.{alone, honest_from, honest_below, near, far, under_root, join, rise, climb, start_of, leaves, honest, proof_root}
use Rattle.jf_evidence.specs.declared.proof.Proof.{Proof}

-- ---- the honest proof by parts
pub honest_from-none : (d : ℕ) (key : List ℕ) → honest_from d key [] ≡ alone None
unfolding honest_from honest_below
honest_from-none d key = refl

pub honest_from-one : (d : ℕ) (key : List ℕ) (e : Leaf) → honest_from d key (e ∷ []) ≡ alone (Some e)
unfolding honest_from honest_below
honest_from-one d key e = refl

split_below : (n d : ℕ) (key : List ℕ) (es : List Leaf) → 2 ≤ length es → honest_below (suc n) d key es ≡ under_root (honest_below n (d + 1) key (near key d es)) (leaves_root (d + 1) (far key d es))
unfolding honest_below
split_below n d key [] two = absurd (omega arith)
split_below n d key (e ∷ []) two = absurd (omega arith)
split_below n d key (e ∷ f ∷ es) two = refl

pub honest_from-split : (d : ℕ) (key : List ℕ) (es : List Leaf) → d < 256 → 2 ≤ length es → honest_from d key es ≡ under_root (honest_from (d + 1) key (near key d es)) (leaves_root (d + 1) (far key d es))
unfolding honest_from
honest_from-split d key es lt two =
    let n : 256 - d ≡ suc (256 - (d + 1)) = omega arith in
    rw n (split_below (256 - (d + 1)) d key es two)

-- the way up with one more sibling, at the bottom
pub rise-push : (d : ℕ) (key hash : List ℕ) (ts : List (List ℕ)) (t : List ℕ) → rise d key hash (ts ++ t ∷ []) ≡ rise d key (join key (d + length ts) hash t) ts
rise-push d key hash [] t = let i : d ≡ d + 0 = omega arith in ap (λ n. join key n hash t) i
rise-push d key hash (u ∷ ts) t =
    let i : (d + 1) + length ts ≡ d + length (u ∷ ts) = omega arith in
    ap (λ h. join key d h u) (rise-push (d + 1) key hash ts t ∙ ap (λ n. rise (d + 1) key (join key n hash t) ts) i)

-- the hash at bit d, climbing along siblings with the lowest first
abbrev pub climb_to : ℕ → List ℕ → List ℕ → List (List ℕ) → List ℕ
climb_to d key hash [] = hash
climb_to d key hash (s ∷ ss) = climb_to d key (join key (d + length ss) hash s) ss

pub climb-climb_to : (key hash : List ℕ) (ss : List (List ℕ)) → climb key hash ss ≡ climb_to 0 key hash ss
climb-climb_to key hash [] = refl
climb-climb_to key hash (s ∷ ss) =
    let i : length ss ≡ 0 + length ss = omega arith in
    climb-climb_to key (join key (length ss) hash s) ss ∙ ap (λ n. climb_to 0 key (join key n hash s) ss) i

-- the last sibling is that of bit d
pub climb_to-push : (d : ℕ) (key hash : List ℕ) (ss : List (List ℕ)) (s : List ℕ) → climb_to d key hash (ss ++ s ∷ []) ≡ join key d (climb_to (d + 1) key hash ss) s
climb_to-push d key hash [] s = let i : d + 0 ≡ d = omega arith in ap (λ n. join key n hash s) i
climb_to-push d key hash (t ∷ ss) s =
    let i : d + length (ss ++ s ∷ []) ≡ (d + 1) + length ss = omega (arith, length-append ss (s ∷ [])) in
    climb_to-push d key (join key (d + length (ss ++ s ∷ [])) hash t) ss s
    ∙ ap (λ n. join key d (climb_to (d + 1) key (join key n hash t) ss) s) i

abbrev top_of : ℕ → List ℕ → Proof → List ℕ
top_of d key proof = climb_to d key (start_of proof.leaf) proof.siblings

-- the near part and the far part are the two parts of a root
sides : (d : ℕ) (key : List ℕ) (es : List Leaf) (h : List ℕ) → h ≡ leaves_root (d + 1) (near key d es)
    → join key d h (leaves_root (d + 1) (far key d es)) ≡ N (leaves_root (d + 1) (zeros d es)) (leaves_root (d + 1) (ones d es))
sides d key es h e =
    elim (bit key d) as (λ b. h ≡ leaves_root (d + 1) (cond b (ones d es) (zeros d es))
    → cond b (N (leaves_root (d + 1) (cond b (zeros d es) (ones d es))) h) (N h (leaves_root (d + 1) (cond b (zeros d es) (ones d es)))) ≡ N (leaves_root (d + 1) (zeros d es)) (leaves_root (d + 1) (ones d es))) [
      | true ↦ λ is. ap (λ x. N (leaves_root (d + 1) (zeros d es)) x) is
      | false ↦ λ is. ap (λ x. N x (leaves_root (d + 1) (ones d es))) is
    ] e

honest_top : (n d : ℕ) (key : List ℕ) (es : List Leaf) → n ≡ 256 - d → top_of d key (honest_below n d key es) ≡ root_below n d es
unfolding honest_below root_below leaves_root
honest_top n d key [] fuel = refl
honest_top n d key (e ∷ []) fuel = refl
honest_top zero d key (e ∷ f ∷ es) fuel = refl
honest_top (suc n) d key (e ∷ f ∷ es) fuel =
    let more : n ≡ 256 - (d + 1) = omega arith in
    let p = honest_below n (d + 1) key (near key d (e ∷ f ∷ es)) in
    climb_to-push d key (start_of p.leaf) p.siblings (leaves_root (d + 1) (far key d (e ∷ f ∷ es)))
    ∙ sides d key (e ∷ f ∷ es) _ (honest_top n (d + 1) key (near key d (e ∷ f ∷ es)) more ∙ ap (λ k. root_below k (d + 1) (near key d (e ∷ f ∷ es))) more)
    ∙ ap (λ k. N (root_below k (d + 1) (zeros d (e ∷ f ∷ es))) (root_below k (d + 1) (ones d (e ∷ f ∷ es)))) (sym more)

-- the honest proof results in the root
pub honest-root : (m : Map) (key : List ℕ) → proof_root key (honest m key) ≡ root m
unfolding honest honest_from root leaves_root
honest-root m key = climb-climb_to key (start_of (honest m key).leaf) (honest m key).siblings ∙ honest_top 256 0 key (leaves m) refl

-- ---- its length
honest_short : (n d : ℕ) (key : List ℕ) (es : List Leaf) → length (honest_below n d key es).siblings ≤ n
unfolding honest_below
honest_short n d key [] = omega arith
honest_short n d key (e ∷ []) = omega arith
honest_short zero d key (e ∷ f ∷ es) = omega arith
honest_short (suc n) d key (e ∷ f ∷ es) =
    let p = honest_below n (d + 1) key (near key d (e ∷ f ∷ es)) in
    omega (arith, length-append p.siblings (leaves_root (d + 1) (far key d (e ∷ f ∷ es)) ∷ []), honest_short n (d + 1) key (near key d (e ∷ f ∷ es)))

-- the honest proof has at most 256 siblings
pub honest-short : (m : Map) (key : List ℕ) → length (honest m key).siblings ≤ 256
unfolding honest honest_from
honest-short m key = honest_short 256 0 key (leaves m)
