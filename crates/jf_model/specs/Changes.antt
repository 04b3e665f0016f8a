-- How a batch changes the entries of a map.
use Rattle.std.specs.Prelude.{ℕ, List, ◌∷◌, Option, Some, None, not, []}
use Rattle.std.specs.FinMap.{put}
use Rattle.std.specs.FinMap.Entries.{where_key}
use Rattle.jf_path.specs.Keys.{key_cmp}
use Rattle.jf_hash.specs.Slots.{Part}
use Rattle.jf_hash.specs.Maps.{same_key, Batch}

-- the put of a change, if it is one with a value, followed by entries
abbrev pub with_put : List ℕ → Option (List ℕ) → Part → Part
with_put key (Some value) es = (key, value) ∷ es
with_put key None es = es

-- a key and its value
abbrev pub MapEntry : Type 0
MapEntry = List ℕ × List ℕ

-- entries after one change of a batch: a key gets a value, or goes
abbrev pub entries_after_change : List ℕ → Option (List ℕ) → List MapEntry → List MapEntry
entries_after_change k (Some v) es = put key_cmp k v es
entries_after_change k None es = where_key key_cmp (λ x. not (same_key k x)) es

-- entries after all changes of a batch, in turn
unfoldable pub entries_after_batch : List MapEntry → Batch → List MapEntry
entries_after_batch es [] = es
entries_after_batch es (e ∷ b) = entries_after_batch (entries_after_change e.0 e.1 es) b
