-- What was written of a version, by how it ended.
use Rattle.std.specs.Prelude.{◌≡◌, ◌≤◌, ℕ, List, Option, Result, Ok, Err}
use Rattle.jf_model.specs.Versions.{Versions}
use Rattle.jf_io.specs.Sink.{IsCutShort}
use Rattle.jf_input.specs.Feeds.{Appends}
use Rattle.jf_totals.specs.Texts.{history_text}
use Rattle.jf_totals.specs.declared.fault.HistoryFault.{HistoryFault}
use Rattle.jf_totals.specs.declared.fault.HistoryFault.TheVariants as fault

-- the root of the version is recorded
abbrev pub IsRecorded : Versions → ℕ → Type 0
IsRecorded v version = (v.base ≤ version) × (version ≤ v.head)

-- the whole text, or a front of it, was appended; or the text is unchanged, because memory ran out, or exactly because the version isn't recorded
abbrev pub WritesHistory : Result (Unit {0}) HistoryFault → Versions → ℕ → Option (List ℕ) → Option (List ℕ) → Type 0
WritesHistory (Ok u) v version text text' = IsRecorded v version × Appends text text' (history_text v version)
WritesHistory (Err (fault.Outside least head)) v version text text' = (IsRecorded v version → ⊥) × (least ≡ v.base) × (head ≡ v.head) × (text' ≡ text)
WritesHistory (Err fault.WriteFault) v version text text' = IsRecorded v version × IsCutShort text text' (history_text v version)
WritesHistory (Err fault.Memory) v version text text' = IsRecorded v version × (text' ≡ text)
