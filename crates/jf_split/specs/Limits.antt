-- The limits of a batch (docs/FORMATS.md, Replies: `no pending`).
use Rattle.std.specs.Prelude.{ℕ, ◌≤◌, Bool, ◌&&◌, nat_le, is_none, List, length, IfSome}
use Rattle.std.specs.List.{AllByRecursion}
use Rattle.std.specs.FinMap.{find}
use Rattle.jf_path.specs.Limits.{max_value}
use Rattle.jf_path.specs.Keys.{key_cmp}
use Rattle.jf_hash.specs.Maps.{Batch}

-- the most keys of a batch, and of batches that land together
abbrev pub max_keys : ℕ
max_keys = 10000

-- a batch within its limits: at most 10,000 keys, and values of at most 4,096 bytes
pub record IsWithinLimits (b : Batch) : Type 0 where
  pub keys : length b ≤ max_keys
  pub values : AllByRecursion (λ e. IfSome e.1 (λ v. length v ≤ max_value)) b

-- whether a batch is full for a key: the key is new, and 10,000 are there
abbrev pub is_full : List ℕ → Batch → Bool
is_full key b = nat_le max_keys (length b) && is_none (find key_cmp key b)
