-- The versions that two files represent, or their first place of damage (docs/FORMATS.md, "Two files of records").
use Rattle.std.specs.Prelude.{◌≡◌, ◌⊎◌, ℕ, List, [], ◌∷◌, map, Some, Result, Ok, Err}
use Rattle.jf_disk.specs.Disk.{Files}
use Rattle.jf_disk.specs.declared.side.Side.{Side}
use Rattle.jf_model.specs.Versions.{Versions, new_store}
use Rattle.jf_frame.specs.Framed.{LogRecord}
use Rattle.jf_frame.specs.Framing.{records}
use Rattle.jf_pair.specs.Files.{HoldsLive, generation_of, live_side, live_records, outer_damage}
use Rattle.jf_codec.specs.declared.format.Format.{Format}
use Rattle.jf_payload.specs.Spelling.{checkpoint_kind}
use Rattle.jf_payload.specs.Reading.{spelled_record}
use Rattle.jf_standing.specs.Standing.{Standing, versions_of}
use Rattle.jf_standing.specs.Leading.{LeadingItem, AllLead, OneFailsAt}

-- a record of a log as it is read in a format: its offset, and the record that its payload spells, or None
abbrev pub item : Format → LogRecord → LeadingItem
item fmt x = (x.offset, spelled_record fmt x.kind x.payload)

-- records of a log as they are read, in order
abbrev pub items : Format → List LogRecord → List LeadingItem
items fmt xs = map (item fmt) xs

-- records lead to a standing of a format: the first is a checkpoint of the format's kind and gives a standing, and each
-- later record is taken
abbrev pub LeadToStanding : List LogRecord → Format → Standing → Type 0
LeadToStanding [] fmt s = ⊥
LeadToStanding (x ∷ xs) fmt s = (x.kind ≡ checkpoint_kind fmt) × AllLead fmt (item fmt x) (items fmt xs) s

-- records lead to versions: an empty list of records leads to a new store, any other to the versions of its standing
abbrev pub LeadTo : List LogRecord → Versions → Type 0
LeadTo [] v = v ≡ new_store
LeadTo (x ∷ xs) v = (fmt : Format) × (s : Standing) × LeadToStanding (x ∷ xs) fmt s × (v ≡ versions_of s)

-- the offset of the first record that isn't sound
abbrev pub IsUnsoundAt : List LogRecord → ℕ → Type 0
IsUnsoundAt [] at = ⊥
IsUnsoundAt (x ∷ xs) at = (fmt : Format) × (x.kind ≡ checkpoint_kind fmt) × OneFailsAt fmt (item fmt x) (items fmt xs) at

-- files represent versions: they hold live records, and these lead to the versions
pub record StandsFor (files : Files) (v : Versions) : Type 0 where
  pub live : List LogRecord
  pub held : HoldsLive files live
  pub leads : LeadTo live v

-- a live record is the first one that isn't sound
abbrev pub IsDamagedWithin : Files → Side → ℕ → Type 0
IsDamagedWithin files where_ at = (rs : List LogRecord) × (h : HoldsLive files rs) × (where_ ≡ live_side h.a_records h.b_records) × IsUnsoundAt rs at

-- the first place of damage: one in gates, lengths and first records; or if these are sound, that of a live record
abbrev pub IsDamagedAt : Files → Side → ℕ → Type 0
IsDamagedAt files where_ at = (outer_damage files ≡ Some (where_, at)) ⊎ IsDamagedWithin files where_ at

-- files hold a standing of a format: their live records lead to it
pub record HoldsStanding (files : Files) (fmt : Format) (s : Standing) : Type 0 where
  pub live : List LogRecord
  pub held : HoldsLive files live
  pub leads : LeadToStanding live fmt s

-- ---- the generation

-- the generation of live records: that of the checkpoint, 1 if there is no record
abbrev pub generation_in : List LogRecord → ℕ
generation_in [] = 1
generation_in (x ∷ xs) = generation_of (x ∷ xs)

-- the records of a side; no records if its gates and lengths aren't whole
abbrev pub records_of_side : Result (List LogRecord) ℕ → List LogRecord
records_of_side (Ok rs) = rs
records_of_side (Err at) = []

-- the generation of two files: that of their live records
unfoldable pub generation : Files → ℕ
generation files = generation_in (live_records (records_of_side (records files.a)) (records_of_side (records files.b)))
