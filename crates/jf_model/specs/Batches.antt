-- Lists of batches.
use Rattle.std.specs.Prelude.{ℕ, ◌+◌, List, [], ◌∷◌, length}
use Rattle.jf_hash.specs.Maps.{Map, Batch, apply}

-- the map after batches that are applied one after another
abbrev pub apply_all : Map → List Batch → Map
apply_all m [] = m
apply_all m (b ∷ bs) = apply_all (apply m b) bs

-- the number of keys of all batches, each batch counted for itself
abbrev pub key_count : List Batch → ℕ
key_count [] = 0
key_count (b ∷ bs) = length b + key_count bs
