-- Laws of what files represent.
use Rattle.std.specs.Prelude.{◌≡◌, ◌↔◌, ℕ, true, List, [], ◌∷◌, Ok, ◌⊎◌, ◌++◌}
use Rattle.jf_model.specs.Versions.{new_store, Versions, IsVersions}
use Rattle.jf_disk.specs.Disk.{Files, History, reads}
use Rattle.jf_disk.specs.declared.side.Side.{Side}
use Rattle.jf_disk.specs.Crashes.{LeavesNow}
use Rattle.jf_frame.specs.Framed.{LogRecord}
use Rattle.jf_frame.specs.Framing.{records, frame}
use Rattle.jf_pair.specs.Files.{is_checkpoint, is_begun, HoldsLive}
use Rattle.jf_codec.specs.declared.format.Format.{Format}
use Rattle.jf_codec.specs.declared.format.Format.TheVariants as format
use Rattle.jf_payload.specs.Spelling.{checkpoint_kind, IsSpelling, record_bytes}
use Rattle.jf_payload.specs.declared.records.Record.{Record}
use Rattle.jf_payload.specs.declared.records.Record.TheVariants as «record»
use Rattle.jf_standing.specs.Named.{NamedNode}
use Rattle.jf_standing.specs.Building.{new_standing, checkpoint_of}
use Rattle.jf_standing.specs.Standing.{Standing, versions_of}
use Rattle.jf_standing.specs.Sound.{IsSound}
use Rattle.jf_standing.specs.Taking.{TakesRecord, GivesStanding}
use Rattle.jf_files.specs.Files.{generation_in, generation, StandsFor, IsDamagedAt, HoldsStanding, LeadToStanding, LeadTo}
use Rattle.jf_files.specs.NewStore.{new_store_bytes, new_store_files}
use Rattle.jf_files.specs.Steps.{IsCalm}

-- a checkpoint's kinds are those of the two formats
abbrev pub CheckpointsHaveFormats : Type 0
CheckpointsHaveFormats = (kind : ℕ) → (is_checkpoint kind ≡ true) ↔ ((fmt : Format) × (kind ≡ checkpoint_kind fmt))

-- a record that spells a checkpoint can begin a side, and the side's generation is the checkpoint's
abbrev pub CheckpointsAreNumbered : Type 0
CheckpointsAreNumbered =
    (fmt : Format) (generation base floor head : ℕ) (roots : List (List ℕ)) (nodes : List NamedNode) (x : LogRecord) → IsSpelling fmt («record».Checkpoint generation base floor head roots nodes) x.kind x.payload
    → (is_begun (x ∷ []) ≡ true) × (generation_in (x ∷ []) ≡ generation)

-- the generation of two files is that of their live records
abbrev pub GenerationIsLive : Type 0
GenerationIsLive = (files : Files) (rs : List LogRecord) → HoldsLive files rs → generation files ≡ generation_in rs

-- files without records represent a new store
abbrev pub NoRecordsAreNew : Type 0
NoRecordsAreNew = (files : Files) → records files.a ≡ Ok [] → records files.b ≡ Ok [] → StandsFor files new_store

-- the 101 bytes of side A made by the checkpoint of a new store in format 2 represent a new store of generation 1
abbrev pub NewStoreStands : Type 0
NewStoreStands = StandsFor new_store_files new_store × (generation new_store_files ≡ 1) × (1 ∷ frame 5 (record_bytes format.Two (checkpoint_of 1 (new_standing format.Two))) ≡ new_store_bytes)

-- files represent at most one list of versions
abbrev pub FilesStandForOne : Type 0
FilesStandForOne = (files : Files) (v w : Versions) → StandsFor files v → StandsFor files w → v ≡ w

-- the versions that files represent are sound
abbrev pub FilesStandForSound : Type 0
FilesStandForSound = (files : Files) (v : Versions) → StandsFor files v → IsVersions v

-- damaged files represent no versions
abbrev pub DamageIsNoVersions : Type 0
DamageIsNoVersions = (files : Files) (v : Versions) (where_ : Side) (at : ℕ) → StandsFor files v → IsDamagedAt files where_ at → ⊥

-- files have at most one first place of damage
abbrev pub DamageHasOnePlace : Type 0
DamageHasOnePlace =
    (files : Files) (where_ where_' : Side) (at at' : ℕ) → IsDamagedAt files where_ at → IsDamagedAt files where_' at' → (where_ ≡ where_') × (at ≡ at')

-- files represent versions, or are damaged
abbrev pub FilesAreJudged : Type 0
FilesAreJudged = (files : Files) → ((v : Versions) × StandsFor files v) ⊎ ((where_ : Side) × (at : ℕ) × IsDamagedAt files where_ at)

-- a disk whose files represent versions is calm if whatever a crash leaves represents the same versions
abbrev pub CalmBoth : Type 0
CalmBoth = (h : History) (v : Versions) → StandsFor (reads h) v → LeavesNow h (λ f. StandsFor f v) → IsCalm h

-- ---- files that hold a standing
-- files that hold a standing represent its versions
abbrev pub HeldIsStoodFor : Type 0
HeldIsStoodFor = (files : Files) (fmt : Format) (s : Standing) → HoldsStanding files fmt s → StandsFor files (versions_of s)

-- files that hold a record and represent versions hold a standing
abbrev pub StoodForIsHeld : Type 0
StoodForIsHeld =
    (files : Files) (v : Versions) (x : LogRecord) (xs : List LogRecord) → StandsFor files v → HoldsLive files (x ∷ xs) → (fmt : Format) × (s : Standing) × HoldsStanding files fmt s × (v ≡ versions_of s)

-- the standing that files hold is sound, and so are its versions
abbrev pub HeldIsSound : Type 0
HeldIsSound = (files : Files) (fmt : Format) (s : Standing) → HoldsStanding files fmt s → IsSound fmt s × IsVersions (versions_of s)

-- one more record leads to its result for the standing before it
abbrev pub OneMoreFollows : Type 0
OneMoreFollows = (rs : List LogRecord) (fmt : Format) (s s' : Standing) (y : LogRecord) (r : Record) → LeadToStanding rs fmt s → IsSpelling fmt r y.kind y.payload → TakesRecord fmt s r s' → LeadToStanding (rs ++ y ∷ []) fmt s'

-- a checkpoint alone leads to the standing that it gives
abbrev pub CheckpointAlone : Type 0
CheckpointAlone = (fmt : Format) (s : Standing) (x : LogRecord) (r : Record) → IsSpelling fmt r x.kind x.payload → GivesStanding fmt r s → LeadToStanding (x ∷ []) fmt s

-- records that lead to a standing lead to its versions
abbrev pub StandingsHaveVersions : Type 0
StandingsHaveVersions = (rs : List LogRecord) (fmt : Format) (s : Standing) → LeadToStanding rs fmt s → LeadTo rs (versions_of s)
