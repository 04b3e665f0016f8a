-- Records one after another: the standing that they lead to, or the first of them that isn't sound.
use Rattle.std.specs.Prelude.{ℕ, Option, ◌≡◌, Some, List, [], ◌∷◌, ◌⊎◌, IfSome}
use Rattle.std.specs.List.{AllByRecursion}
use Rattle.jf_codec.specs.declared.format.Format.{Format}
use Rattle.jf_payload.specs.declared.records.Record.{Record}
use Rattle.jf_standing.specs.Standing.{Standing}
use Rattle.jf_standing.specs.Taking.{TakesRecord, GivesStanding}
use Rattle.jf_standing.specs.Next.{IsReadRecord}
use Rattle.jf_standing.specs.Begin.{IsReadFirst}

-- an item of a journal: an offset, and the record there, or None if its payload spells no record
abbrev pub LeadingItem : Type 0
LeadingItem = ℕ × Option Record

-- the record of an item is taken, after others
abbrev pub ItemFollows : Format → Standing → LeadingItem → Standing → Type 0
ItemFollows fmt s x s' = (r : Record) × (x.1 ≡ Some r) × TakesRecord fmt s r s'

-- the record of an item gives a standing, as the first one
abbrev pub ItemBegins : Format → LeadingItem → Standing → Type 0
ItemBegins fmt x s = (r : Record) × (x.1 ≡ Some r) × GivesStanding fmt r s

-- the records after the first lead from one standing to another
abbrev pub Leads : Format → Standing → List LeadingItem → Standing → Type 0
Leads fmt s [] s' = s' ≡ s
Leads fmt s (x ∷ xs) s' = (mid : Standing) × ItemFollows fmt s x mid × Leads fmt mid xs s'

-- the offset of the first record that isn't taken
abbrev pub FailsAt : Format → Standing → List LeadingItem → ℕ → Type 0
FailsAt fmt s [] at = ⊥
FailsAt fmt s (x ∷ xs) at = ((at ≡ x.0) × ((s' : Standing) → ItemFollows fmt s x s' → ⊥)) ⊎ ((mid : Standing) × ItemFollows fmt s x mid × FailsAt fmt mid xs at)

-- all records, with the first, lead to a standing
abbrev pub AllLead : Format → LeadingItem → List LeadingItem → Standing → Type 0
AllLead fmt x xs s' = (s : Standing) × ItemBegins fmt x s × Leads fmt s xs s'

-- the offset of the first of all records that isn't sound
abbrev pub OneFailsAt : Format → LeadingItem → List LeadingItem → ℕ → Type 0
OneFailsAt fmt x xs at = ((at ≡ x.0) × ((s : Standing) → ItemBegins fmt x s → ⊥)) ⊎ ((s : Standing) × ItemBegins fmt x s × FailsAt fmt s xs at)

-- what always holds of items that were read
abbrev pub AreRead : LeadingItem → List LeadingItem → Type 0
AreRead x xs = IfSome x.1 IsReadFirst × AllByRecursion (λ (y : LeadingItem). IfSome y.1 IsReadRecord) xs
