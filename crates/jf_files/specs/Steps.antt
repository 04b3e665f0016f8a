-- The effect of a step of a store on its versions and on its files' records, and what a crash in it may leave.
use Rattle.std.specs.Prelude.{ℕ, List, ◌+◌, ◌≡◌, [], ◌∷◌, ◌++◌, ◌⊎◌}
use Rattle.jf_hash.specs.Maps.{Batch, map_of_entries}
use Rattle.jf_model.specs.Versions.{Versions, land_all, versions_from_floor, imported_versions}
use Rattle.jf_disk.specs.Disk.{History, reads, Files, IsImage}
use Rattle.jf_disk.specs.Crashes.{GoesOn, LeavesNow}
use Rattle.jf_frame.specs.Framed.{LogRecord}
use Rattle.jf_pair.specs.Files.{HoldsLive}
use Rattle.jf_codec.specs.declared.format.Format.TheVariants as format
use Rattle.jf_payload.specs.Spelling.{checkpoint_kind}
use Rattle.jf_files.specs.Files.{StandsFor, generation}

-- a step opens the store, lands batches one after another, sets a later floor, writes a new generation, or imports one
-- version with these entries
pub data StoreStep : Type 0 where
  Opens : StoreStep
  Lands : List Batch → StoreStep
  Prunes : ℕ → StoreStep
  Compacts : StoreStep
  Imports : ℕ → List (List ℕ × List ℕ) → StoreStep

-- the versions after a step that succeeds
abbrev pub versions_after_step : StoreStep → Versions → Versions
versions_after_step Opens v = v
versions_after_step (Lands bs) v = land_all bs v
versions_after_step (Prunes floor) v = versions_from_floor floor v
versions_after_step Compacts v = v
versions_after_step (Imports version es) v = imported_versions version (map_of_entries es)

-- the generation after a step that succeeds
abbrev pub generation_after_step : StoreStep → ℕ → ℕ
generation_after_step Opens g = g
generation_after_step (Lands bs) g = g
generation_after_step (Prunes floor) g = g
generation_after_step Compacts g = g + 1
generation_after_step (Imports version es) g = g + 1

-- ---- records
-- there is one more record
abbrev pub HasOneMore : List LogRecord → List LogRecord → Type 0
HasOneMore rs rs' = (y : LogRecord) × (rs' ≡ rs ++ y ∷ [])

-- there is one record, a checkpoint in format 2
abbrev pub IsOneCheckpoint : List LogRecord → Type 0
IsOneCheckpoint rs = (x : LogRecord) × (rs ≡ x ∷ []) × (x.kind ≡ checkpoint_kind format.Two)

-- the live records after a step that succeeds: an opening writes a checkpoint if there was no record; a landing of
-- batches and a floor add one record; a new generation and an import leave a checkpoint alone
abbrev pub LiveAfter : StoreStep → List LogRecord → List LogRecord → Type 0
LiveAfter Opens [] rs' = IsOneCheckpoint rs'
LiveAfter Opens (x ∷ xs) rs' = rs' ≡ x ∷ xs
LiveAfter (Lands bs) rs rs' = HasOneMore rs rs'
LiveAfter (Prunes floor) rs rs' = HasOneMore rs rs'
LiveAfter Compacts rs rs' = IsOneCheckpoint rs'
LiveAfter (Imports version es) rs rs' = IsOneCheckpoint rs'

-- ---- crashes
-- a crash in the step leaves the versions before or after it
abbrev pub StopsWell : StoreStep → History → History → Versions → Type 0
StopsWell step old new v = GoesOn old new (λ f. StandsFor f v ⊎ StandsFor f (versions_after_step step v))

-- the step succeeded: the files have the versions, generation and records after it, and a crash leaves nothing else
pub record Succeeds (step : StoreStep) (old new : History) (v : Versions) : Type 0 where
  pub stops : StopsWell step old new v
  pub stands : StandsFor (reads new) (versions_after_step step v)
  pub leaves : LeavesNow new (λ f. StandsFor f (versions_after_step step v))
  pub generation_of : generation (reads new) ≡ generation_after_step step (generation (reads old))
  pub live : (rs : List LogRecord) → HoldsLive (reads old) rs → (rs' : List LogRecord) × HoldsLive (reads new) rs' × LiveAfter step rs rs'

-- whatever a crash leaves represents what the files represent, and nothing else
pub record IsCalm (h : History) : Type 0 where
  pub leaves : (v : Versions) → StandsFor (reads h) v → LeavesNow h (λ f. StandsFor f v)
  pub only : (f : Files) → IsImage h.now f → (v : Versions) → StandsFor f v → StandsFor (reads h) v
