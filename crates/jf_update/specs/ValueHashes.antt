-- The hashes of the values that a batch puts.
use Rattle.std.specs.Prelude.{◌≡◌, ℕ, List, Option, IfSome}
use Rattle.std.specs.List.{AllZip}
use Rattle.jf_hash.specs.Hashes.{V}
use Rattle.jf_hash.specs.Maps.{Batch}

-- the hash is that of the value of this change; of a removal it may be any
abbrev pub IsValueHash : List ℕ × Option (List ℕ) → List ℕ → Type 0
IsValueHash entry hash = IfSome entry.1 (λ value. hash ≡ V value)

-- as many hashes as changes, each that of the value of the change at its place
pub record AreValueHashes (entries : Batch) (hashes : List (List ℕ)) : Type 0 where
  pub each : AllZip IsValueHash entries hashes
