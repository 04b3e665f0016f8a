-- Laws of the spellings of records.
use Rattle.std.specs.Prelude.{◌≡◌, ◌↔◌, ◌⊎◌, ℕ, List, Some}
use Rattle.jf_codec.specs.declared.format.Format.{Format}
use Rattle.jf_codec.specs.declared.format.Format.TheVariants as format
use Rattle.jf_payload.specs.declared.records.Record.{Record}
use Rattle.jf_payload.specs.Spelling.{kind_of, record_bytes, IsRecord, IsSpelling}
use Rattle.jf_payload.specs.Counted.{record_in}
use Rattle.jf_payload.specs.Reading.{spelled_record}

-- `spelled_record` gives just the record that a payload spells
abbrev pub SpelledIsSpelling : Type 0
SpelledIsSpelling = (fmt : Format) (kind : ℕ) (payload : List ℕ) (r : Record) → (spelled_record fmt kind payload ≡ Some r) ↔ IsSpelling fmt r kind payload

-- a payload of a kind spells at most one record
abbrev pub OneRecord : Type 0
OneRecord = (fmt : Format) (kind : ℕ) (payload : List ℕ) (r s : Record) → IsSpelling fmt r kind payload → IsSpelling fmt s kind payload → r ≡ s

-- a record has one spelling in a format
abbrev pub OneSpelling : Type 0
OneSpelling = (fmt : Format) (r : Record) (kind kind' : ℕ) (payload payload' : List ℕ) → IsSpelling fmt r kind payload → IsSpelling fmt r kind' payload' → (kind ≡ kind') × (payload ≡ payload')

-- any list of numbers spells a record or doesn't
abbrev pub SpellingIsDecided : Type 0
SpellingIsDecided = (fmt : Format) (kind : ℕ) (payload : List ℕ) → ((r : Record) × IsSpelling fmt r kind payload) ⊎ ((r : Record) → IsSpelling fmt r kind payload → ⊥)

-- what a format keeps of a record has the record's spelling; a record that can be spelled in the format is kept whole
abbrev pub KeptIsSpelled : Type 0
KeptIsSpelled = (fmt : Format) (r : Record) → (record_bytes fmt (record_in fmt r) ≡ record_bytes fmt r) × (kind_of fmt (record_in fmt r) ≡ kind_of fmt r) × (IsRecord fmt r → record_in fmt r ≡ r)

-- what can be spelled in format 2 can be written in both formats
abbrev pub WrittenInBoth : Type 0
WrittenInBoth = (fmt : Format) (r : Record) → IsRecord format.Two r → IsRecord fmt (record_in fmt r)
