-- The root of a part from those of its halves, and the roots of maps of no entry and of one.
use Rattle.std.specs.Prelude.{◌≡◌, ℕ, ◌-◌, [], ◌∷◌, suc, ◌+◌, ◌≤◌, List, length, ◌<◌, map, Bool, true, false, cond, filter, not, zero}
use Rattle.std.proofs.Common.{refl, arith, ap, ap₂, ◌∙◌, sym}
use Rattle.std.specs.Cmp.Lexicographic.{nat_list_cmp_total}
use Rattle.std.specs.FinMap.{entries, put}
use Rattle.std.specs.FinMap as fin
use Rattle.jf_path.specs.Keys.{bit, key_cmp, IsKey}
use Rattle.jf_hash.specs.Hashes.{E, L, N, V}
use Rattle.jf_hash.specs.Roots.{root_below, leaves_root, Leaf, zeros, ones, part_root, root, leaf_of}
use Rattle.jf_hash.specs.Maps.{Map}
use Rattle.jf_hash.proofs.MapLaws.{same_map}
use Rattle.jf_hash.proofs.HashLaws.{sha256-IsKey}

pub leaves_root-none : (d : ℕ) → leaves_root d [] ≡ E
unfolding leaves_root root_below
leaves_root-none d = refl

pub leaves_root-one : (d : ℕ) (e : Leaf) → leaves_root d (e ∷ []) ≡ L e.0 e.1
unfolding leaves_root root_below
leaves_root-one d e = refl

split_below : (n d : ℕ) (es : List Leaf) → 2 ≤ length es → root_below (suc n) d es ≡ N (root_below n (d + 1) (zeros d es)) (root_below n (d + 1) (ones d es))
unfolding root_below
split_below n d [] h = absurd (omega arith)
split_below n d (e ∷ []) h = absurd (omega arith)
split_below n d (e ∷ f ∷ es) h = refl

pub leaves_root-split : (d : ℕ) (es : List Leaf) → d < 256 → 2 ≤ length es → leaves_root d es ≡ N (leaves_root (d + 1) (zeros d es)) (leaves_root (d + 1) (ones d es))
unfolding leaves_root
leaves_root-split d es lt two =
    let n : 256 - d ≡ suc (256 - (d + 1)) = omega arith in
    rw n (split_below (256 - (d + 1)) d es two)

pub root-part_root : (m : Map) → root m ≡ part_root 0 (entries m)
unfolding root part_root
root-part_root m = refl

-- there are as many leaves as entries
pub length-leaves : (es : List (List ℕ × List ℕ)) → length (map leaf_of es) ≡ length es
length-leaves [] = refl
length-leaves (e ∷ es) = ap suc (length-leaves es)

-- a test on keys keeps the leaves of the entries that it keeps
pub filter-leaves : (p : List ℕ → Bool) (es : List (List ℕ × List ℕ)) → filter (λ e. p e.0) (map leaf_of es) ≡ map leaf_of (filter (λ e. p e.0) es)
filter-leaves p [] = refl
filter-leaves p (e ∷ es) =
    elim (p e.0) as (λ b. cond b (leaf_of e ∷ filter (λ e. p e.0) (map leaf_of es)) (filter (λ e. p e.0) (map leaf_of es)) ≡ map leaf_of (cond b (e ∷ filter (λ e. p e.0) es) (filter (λ e. p e.0) es))) [
      | true ↦ ap (λ t. leaf_of e ∷ t) (filter-leaves p es)
      | false ↦ filter-leaves p es
    ]

pub part_root-none : (d : ℕ) → part_root d [] ≡ E
unfolding part_root
part_root-none d = leaves_root-none d

pub part_root-one : (d : ℕ) (k v : List ℕ) → part_root d ((k, v) ∷ []) ≡ L k (V v)
unfolding part_root
part_root-one d k v = leaves_root-one d (k, V v)

pub part_root-split : (d : ℕ) (es : List (List ℕ × List ℕ)) → d < 256 → 2 ≤ length es → part_root d es ≡ N (part_root (d + 1) (zeros d es)) (part_root (d + 1) (ones d es))
unfolding part_root
part_root-split d es lt two =
    leaves_root-split d (map leaf_of es) lt (rw (length-leaves es) two)
    ∙ ap₂ (λ l r. N (leaves_root (d + 1) l) (leaves_root (d + 1) r)) (filter-leaves (λ k. not (bit k d)) es) (filter-leaves (λ k. bit k d) es)

-- maps with the same value at each key have the same root
pub same_root : (m n : Map) → ((q : List ℕ) → fin.get m q ≡ fin.get n q) → root m ≡ root n
same_root m n h = ap root (same_map m n h)

no_entry : (es : List (List ℕ × List ℕ)) → length es ≡ 0 → es ≡ []
no_entry [] e = refl
no_entry (x ∷ es) e = absurd (omega arith)

pub entries-empty : entries (fin.empty {X = List ℕ} {R = key_cmp}) ≡ []
entries-empty = no_entry _ (sym (fin.len-entries fin.empty) ∙ fin.len-empty key_cmp (List ℕ))

pub root-empty : root fin.empty ≡ E
root-empty = root-part_root fin.empty ∙ ap (part_root 0) entries-empty ∙ part_root-none 0

pub root-one : (k v : List ℕ) → root (fin.insert fin.empty k v) ≡ L k (V v)
root-one k v = root-part_root _ ∙ ap (part_root 0) (fin.entries-insert nat_list_cmp_total fin.empty k v ∙ ap (put key_cmp k v) entries-empty) ∙ part_root-one 0 k v

pub root_below-IsKey : (n d : ℕ) (es : List Leaf) → IsKey (root_below n d es)
unfolding root_below E L N
root_below-IsKey n d [] = sha256-IsKey _
root_below-IsKey n d (e ∷ []) = sha256-IsKey _
root_below-IsKey zero d (e ∷ f ∷ es) = sha256-IsKey _
root_below-IsKey (suc n) d (e ∷ f ∷ es) = sha256-IsKey _
