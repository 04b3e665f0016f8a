-- The root of entries that a caller gives, and of the map that they are.
use Rattle.std.specs.Prelude.{◌≡◌, ℕ, List, map, if◌then◌else◌}
use Rattle.std.specs.List.{AllByRecursion}
use Rattle.std.specs.FinMap.{is_sorted}
use Rattle.jf_path.specs.Keys.{key_cmp, IsKey}
use Rattle.jf_hash.specs.Maps.{Map}
use Rattle.jf_hash.specs.Roots.{Leaf, leaves_root, root}
use Rattle.jf_evidence.specs.Proofs.{leaves}
use Rattle.jelly.specs.declared.root.Entry.{Entry}

-- the keys of entries, with the hashes of their values
abbrev pub leaves_in : List Entry → List Leaf
leaves_in es = map (λ e. (e.key, e.value_hash)) es

-- each entry has a key of 32 bytes
abbrev pub HaveKeys : List Entry → Type 0
HaveKeys es = AllByRecursion (λ e. IsKey e.key) es

-- 0 if the keys rise strictly, and otherwise 1
abbrev pub root_number : List Leaf → ℕ
root_number ls = if is_sorted key_cmp ls then 0 else 1

-- the root, if the keys rise strictly, and otherwise what was there
abbrev pub root_after : List ℕ → List Leaf → List ℕ
root_after before ls = if is_sorted key_cmp ls then leaves_root 0 ls else before

-- after 0 it is the root of the map that has these leaves
abbrev pub IsRootOfMap : List Leaf → ℕ → List ℕ → Type 0
IsRootOfMap ls number hash = (m : Map) → leaves m ≡ ls → number ≡ 0 → hash ≡ root m
