-- The standing that records lead to.
use Rattle.std.proofs.Common.{List, [], ◌∷◌, ◌++◌, refl, subst, sym, ◌≡◌}
use Rattle.std.proofs.lemmas.List.{map-append}
use Rattle.jf_model.specs.Versions.{Versions, IsVersions}
use Rattle.jf_disk.specs.Disk.{Files}
use Rattle.jf_frame.specs.Framed.{LogRecord}
use Rattle.jf_pair.specs.Files.{HoldsLive}
use Rattle.jf_pair.proofs.FileLaws.{holds_one}
use Rattle.jf_codec.specs.declared.format.Format.{Format}
use Rattle.jf_payload.specs.Spelling.{IsSpelling, checkpoint_kind}
use Rattle.jf_payload.specs.Laws.{SpelledIsSpelling}
use Rattle.jf_payload.specs.declared.records.Record.{Record}
use Rattle.jf_payload.specs.declared.records.Record.TheVariants as «record»
use Rattle.jf_standing.specs.Standing.{Standing, versions_of}
use Rattle.jf_standing.specs.Leading.{LeadingItem, ItemFollows, Leads}
use Rattle.jf_standing.specs.Taking.{TakesRecord, GivesStanding}
use Rattle.jf_standing.specs.Sound.{IsSound}
use Rattle.jf_standing.specs.ItemLaws.{SpelledIsRead, ItemsLeadToSound}
use Rattle.jf_files.specs.Files.{item, items, LeadToStanding, LeadTo, StandsFor, HoldsStanding}
use Rattle.jf_files.proofs.Judging.{are_read}

-- one more record leads on
pub leads_on : (fmt : Format) (xs : List LeadingItem) (s a b : Standing) (y : LeadingItem) → Leads fmt s xs a → ItemFollows fmt a y b → Leads fmt s (xs ++ y ∷ []) b
leads_on fmt [] s a b y is next = (b, subst (λ m. ItemFollows fmt m y b) is next, refl)
leads_on fmt (x ∷ xs) s a b y is next = (is.0, is.1, leads_on fmt xs is.0 a b y is.2 next)

pub one_more : SpelledIsSpelling → (rs : List LogRecord) (fmt : Format) (s s' : Standing) (y : LogRecord) (r : Record) → LeadToStanding rs fmt s → IsSpelling fmt r y.kind y.payload → TakesRecord fmt s r s' → LeadToStanding (rs ++ y ∷ []) fmt s'
one_more spelling [] fmt s s' y r leads is takes = absurd leads
one_more spelling (x ∷ xs) fmt s s' y r leads is takes = (
  leads.0,
  (
    leads.1.0,
    leads.1.1,
    subst (λ ys. Leads fmt leads.1.0 ys s') (sym (map-append (item fmt) xs (y ∷ []))) (leads_on fmt (items fmt xs) leads.1.0 s s' (item fmt y) leads.1.2 (r, (spelling fmt y.kind y.payload r).1 is, takes)),
  ),
)

-- a record that gives a standing as the first has the checkpoint kind of its format
first_kind : (fmt : Format) (r : Record) (s : Standing) (x : LogRecord) → GivesStanding fmt r s → IsSpelling fmt r x.kind x.payload → x.kind ≡ checkpoint_kind fmt
first_kind fmt («record».Floor floor) s x gives is = absurd gives
first_kind fmt («record».NodeCommit c) s x gives is = absurd gives
first_kind fmt («record».Checkpoint generation base floor head roots nodes) s x gives is = is.kind_is
first_kind fmt («record».Group cs) s x gives is = absurd gives

pub checkpoint_leads : SpelledIsSpelling → (fmt : Format) (s : Standing) (x : LogRecord) (r : Record) → IsSpelling fmt r x.kind x.payload → GivesStanding fmt r s → LeadToStanding (x ∷ []) fmt s
checkpoint_leads spelling fmt s x r is gives = (first_kind fmt r s x gives is, (s, (r, (spelling fmt x.kind x.payload r).1 is, gives), refl))

pub have_versions : (rs : List LogRecord) (fmt : Format) (s : Standing) → LeadToStanding rs fmt s → LeadTo rs (versions_of s)
have_versions [] fmt s leads = absurd leads
have_versions (x ∷ xs) fmt s leads = (fmt, s, leads, refl)

pub held_stands : (files : Files) (fmt : Format) (s : Standing) → HoldsStanding files fmt s → StandsFor files (versions_of s)
held_stands files fmt s h = record { live = h.live; held = h.held; leads = have_versions h.live fmt s h.leads }

pub stands_held : (files : Files) (v : Versions) (x : LogRecord) (xs : List LogRecord) → StandsFor files v → HoldsLive files (x ∷ xs) → (fmt : Format) × (s : Standing) × HoldsStanding files fmt s × (v ≡ versions_of s)
stands_held files v x xs stands is =
    let l = subst (λ ys. LeadTo ys v) (holds_one files stands.live (x ∷ xs) stands.held is) stands.leads in
    (l.0, l.1, record { live = x ∷ xs; held = is; leads = l.2 }, l.3)

leads_sound : ItemsLeadToSound → SpelledIsRead → (rs : List LogRecord) (fmt : Format) (s : Standing) → LeadToStanding rs fmt s → IsSound fmt s × IsVersions (versions_of s)
leads_sound law known [] fmt s leads = absurd leads
leads_sound law known (x ∷ xs) fmt s leads = law fmt (item fmt x) (items fmt xs) s (are_read known fmt x xs) leads.1

pub held_sound : ItemsLeadToSound → SpelledIsRead → (files : Files) (fmt : Format) (s : Standing) → HoldsStanding files fmt s → IsSound fmt s × IsVersions (versions_of s)
held_sound law known files fmt s h = leads_sound law known h.live fmt s h.leads
