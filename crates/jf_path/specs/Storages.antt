-- How bytes that owners share are stored.
use Rattle.std.specs.Prelude.{ℕ, ◌≤◌, List, take}
use Rattle.jf_path.specs.declared.shared_bytes.Holding.{Holding}
use Rattle.jf_path.specs.declared.shared_bytes.Holding.TheVariants as holding
use Rattle.jf_path.specs.declared.shared_bytes.Storage.{Storage}
use Rattle.jf_path.specs.declared.shared_bytes.Storage.TheVariants as storage

-- the bytes that are stored
abbrev pub stored_bytes : Storage → List ℕ
stored_bytes (storage.Short bytes len) = take len bytes
stored_bytes (storage.Long bytes) = bytes

-- there is room for as many bytes as are said to be there
abbrev pub IsStorage : Storage → Type 0
IsStorage (storage.Short bytes len) = len ≤ 38
IsStorage (storage.Long bytes) = Unit {0}

-- the bytes that an owner has
abbrev pub held_bytes : Holding → List ℕ
held_bytes (holding.Own len bytes) = take len bytes
held_bytes (holding.Shared storage) = stored_bytes storage.value

-- there is room for as many bytes as are said to be there
abbrev pub IsHolding : Holding → Type 0
IsHolding (holding.Own len bytes) = len ≤ 14
IsHolding (holding.Shared storage) = IsStorage storage.value
