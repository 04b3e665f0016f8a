-- Laws of records, one after another.
use Rattle.std.specs.Prelude.{◌≡◌, ◌↔◌, Some, ℕ, List, ◌⊎◌}
use Rattle.jf_model.specs.Versions.{IsVersions}
use Rattle.jf_codec.specs.declared.format.Format.{Format}
use Rattle.jf_payload.specs.declared.records.Record.{Record}
use Rattle.jf_payload.specs.declared.records.Commit.{Commit}
use Rattle.jf_payload.specs.Reading.{spelled_record}
use Rattle.jf_standing.specs.Named.{leaf_entries, AreEntries}
use Rattle.jf_standing.specs.Standing.{Standing, with_commit, versions_of}
use Rattle.jf_standing.specs.Sound.{IsSound}
use Rattle.jf_standing.specs.Taking.{TakesRecord, GivesStanding}
use Rattle.jf_standing.specs.Next.{next_standing, IsReadRecord}
use Rattle.jf_standing.specs.Landing.{fresh_leaves}
use Rattle.jf_standing.specs.Begin.{begin, IsReadFirst}
use Rattle.jf_standing.specs.Leading.{LeadingItem, AllLead, OneFailsAt, AreRead}

-- the result of a record for a sound standing is what the function `next_standing` says
abbrev pub NextIsTakes : Type 0
NextIsTakes = (fmt : Format) (s s' : Standing) (r : Record) → IsSound fmt s → AreEntries (leaf_entries s.nodes) → IsReadRecord r → (next_standing fmt s r ≡ Some s') ↔ TakesRecord fmt s r s'

-- after a landing keys still have 32 bytes and values still are bytes
abbrev pub KeysStay : Type 0
KeysStay = (s : Standing) (c : Commit) → AreEntries (leaf_entries s.nodes) → AreEntries (fresh_leaves c) → AreEntries (leaf_entries (with_commit c s).nodes)

-- a first record gives what the function `begin` says
abbrev pub BeginIsGives : Type 0
BeginIsGives = (fmt : Format) (r : Record) (s : Standing) → IsReadFirst r → (begin fmt r ≡ Some s) ↔ GivesStanding fmt r s

-- what a payload spells has names in order, keys of 32 bytes, values that are bytes, and numbers within their bounds
abbrev pub SpelledIsRead : Type 0
SpelledIsRead = (fmt : Format) (kind : ℕ) (payload : List ℕ) (r : Record) → spelled_record fmt kind payload ≡ Some r → IsReadFirst r × IsReadRecord r

-- ---- records one after another
-- records lead to a standing, or one of them is the first that isn't sound
abbrev pub ItemsAreJudged : Type 0
ItemsAreJudged = (fmt : Format) (x : LeadingItem) (xs : List LeadingItem) → AreRead x xs → ((s : Standing) × AllLead fmt x xs s) ⊎ ((at : ℕ) × OneFailsAt fmt x xs at)

-- records that lead to a standing don't fail
abbrev pub NeverBoth : Type 0
NeverBoth = (fmt : Format) (x : LeadingItem) (xs : List LeadingItem) (s : Standing) (at : ℕ) → AreRead x xs → AllLead fmt x xs s → OneFailsAt fmt x xs at → ⊥

-- records lead to at most one standing
abbrev pub ItemsLeadToOne : Type 0
ItemsLeadToOne = (fmt : Format) (x : LeadingItem) (xs : List LeadingItem) (s t : Standing) → AreRead x xs → AllLead fmt x xs s → AllLead fmt x xs t → s ≡ t

-- the standing that records lead to is sound, and so are its versions
abbrev pub ItemsLeadToSound : Type 0
ItemsLeadToSound = (fmt : Format) (x : LeadingItem) (xs : List LeadingItem) (s : Standing) → AreRead x xs → AllLead fmt x xs s → IsSound fmt s × IsVersions (versions_of s)

-- records fail at no more than one offset
abbrev pub ItemsFailOnce : Type 0
ItemsFailOnce = (fmt : Format) (x : LeadingItem) (xs : List LeadingItem) (at at' : ℕ) → AreRead x xs → OneFailsAt fmt x xs at → OneFailsAt fmt x xs at' → at ≡ at'
