-- The root of a map: the hash of the binary tree over its keys (docs/FORMATS.md, Keys and roots).
use Rattle.std.specs.Prelude.{ℕ, zero, suc, ◌+◌, ◌-◌, not, List, [], ◌∷◌, map, filter}
use Rattle.std.specs.FinMap.{entries}
use Rattle.jf_path.specs.Keys.{bit}
use Rattle.jf_hash.specs.Hashes.{E, L, N, V}
use Rattle.jf_hash.specs.Maps.{Map}

-- a leaf: a key and the hash of its value
abbrev pub Leaf : Type 0
Leaf = List ℕ × List ℕ

-- the entries whose bit d is 0
abbrev pub zeros : {X : Type 0} → ℕ → List (List ℕ × X) → List (List ℕ × X)
zeros d es = filter (λ e. not (bit e.0 d)) es

-- the entries whose bit d is 1
abbrev pub ones : {X : Type 0} → ℕ → List (List ℕ × X) → List (List ℕ × X)
ones d es = filter (λ e. bit e.0 d) es

-- the root of leaves whose keys agree in their first d bits and have n bits more: of no leaf, of one alone, or of both parts by bit d.
-- Keys that have no bit more and agree are one key, so two leaves never reach that end
unfoldable pub root_below : ℕ → ℕ → List Leaf → List ℕ
root_below n d [] = E
root_below n d (e ∷ []) = L e.0 e.1
root_below zero d (e ∷ f ∷ es) = E
root_below (suc n) d (e ∷ f ∷ es) = N (root_below n (d + 1) (zeros d (e ∷ f ∷ es))) (root_below n (d + 1) (ones d (e ∷ f ∷ es)))

-- the root of leaves whose keys have 256 bits and agree in the first d
unfoldable pub leaves_root : ℕ → List Leaf → List ℕ
leaves_root d es = root_below (256 - d) d es

-- the leaf of a key and its value
abbrev pub leaf_of : List ℕ × List ℕ → Leaf
leaf_of e = (e.0, V e.1)

-- the root of entries of a map whose keys agree in their first d bits
unfoldable pub part_root : ℕ → List (List ℕ × List ℕ) → List ℕ
part_root d es = leaves_root d (map leaf_of es)

-- the root of a map
unfoldable pub root : Map → List ℕ
root m = leaves_root 0 (map leaf_of (entries m))
