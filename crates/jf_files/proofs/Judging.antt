-- Files represent one list of sound versions, or they are damaged at one first place.
use Rattle.std.specs.Prelude.{IfSome}
use Rattle.std.proofs.Common.{◌≡◌, ◌↔◌, ℕ, true, ◌==◌, ◌||◌, inl, inr, sym, ap, ◌∙◌, arith, refl, Option, Some, None, List, [], ◌∷◌, ◌⊎◌, subst, ap₂, Ok}
use Rattle.std.proofs.lemmas.Bool.{eqb-true}
use Rattle.std.proofs.lemmas.Bool.Decides.{eqb_tells}
use Rattle.std.proofs.lemmas.Option.{same_Some}
use Rattle.std.specs.Cmp.{first_so}
use Rattle.std.specs.List.{AllByRecursion}
use Rattle.jf_model.specs.Versions.{Versions, new_store, IsVersions}
use Rattle.jf_model.proofs.VersionLaws.{new_store-IsVersions}
use Rattle.jf_disk.specs.Disk.{Files, History, reads}
use Rattle.jf_disk.specs.declared.side.Side.{Side}
use Rattle.jf_disk.specs.Crashes.{LeavesNow}
use Rattle.jf_disk.specs.declared.side.Side.TheVariants as side
use Rattle.jf_frame.specs.Framed.{LogRecord}
use Rattle.jf_frame.specs.Framing.{records}
use Rattle.jf_pair.specs.Files.{is_checkpoint, is_begun, live_side, records_of, HoldsLive, live_records, outer_damage}
use Rattle.jf_pair.proofs.FileLaws.{same_ok, holds_one, holds_undamaged, undamaged_holds}
use Rattle.jf_codec.specs.declared.format.Format.{Format}
use Rattle.jf_codec.specs.declared.format.Format.TheVariants as format
use Rattle.jf_payload.specs.Spelling.{checkpoint_kind}
use Rattle.jf_payload.specs.declared.records.Record.{Record}
use Rattle.jf_payload.specs.Reading.{spelled_record}
use Rattle.jf_standing.specs.Next.{IsReadRecord}
use Rattle.jf_standing.specs.Leading.{LeadingItem, AreRead, AllLead, OneFailsAt}
use Rattle.jf_standing.specs.ItemLaws.{SpelledIsRead, ItemsAreJudged, ItemsLeadToOne, ItemsLeadToSound, NeverBoth, ItemsFailOnce}
use Rattle.jf_standing.specs.Begin.{IsReadFirst}
use Rattle.jf_standing.specs.Standing.{versions_of}
use Rattle.jf_files.specs.Files.{items, item, LeadTo, IsUnsoundAt, records_of_side, generation_in, generation, StandsFor, IsDamagedAt}
use Rattle.jf_files.specs.Steps.{IsCalm}

-- ---- the kinds of a checkpoint
pub has_format : (kind : ℕ) → (is_checkpoint kind ≡ true) ↔ ((fmt : Format) × (kind ≡ checkpoint_kind fmt))
has_format kind = (
  λ is. elim (eqb_tells kind 4) [
    | inl four ↦ (format.One, four.1)
    | inr other ↦ (format.Two, eqb-true kind 5 (ap (λ b. b || (kind == 5)) (sym other.0) ∙ is))
  ],
  λ p. elim p.0 as (λ fmt. kind ≡ checkpoint_kind fmt → is_checkpoint kind ≡ true) [ format.One ↦ λ is. ap is_checkpoint is | format.Two ↦ λ is. ap is_checkpoint is ] p.1,
)

-- a kind of checkpoint is that of one format
pub one_format : (a b : Format) → checkpoint_kind a ≡ checkpoint_kind b → a ≡ b
one_format format.One format.One is = refl
one_format format.One format.Two is = absurd (omega (arith, is))
one_format format.Two format.One is = absurd (omega (arith, is))
one_format format.Two format.Two is = refl

-- ---- records that were read
read_if : (P : Record → Type 0) (o : Option Record) → ((r : Record) → o ≡ Some r → P r) → IfSome o P
read_if P None h = tt
read_if P (Some r) h = h r refl

module _ (known : SpelledIsRead) (fmt : Format) where
  all_read : (xs : List LogRecord) → AllByRecursion (λ (y : LeadingItem). IfSome y.1 IsReadRecord) (items fmt xs)
  all_read [] = tt
  all_read (x ∷ xs) = (read_if IsReadRecord (spelled_record fmt x.kind x.payload) (λ r is. (known fmt x.kind x.payload r is).1), all_read xs)

  pub are_read : (x : LogRecord) (xs : List LogRecord) → AreRead (item fmt x) (items fmt xs)
  are_read x xs = (read_if IsReadFirst (spelled_record fmt x.kind x.payload) (λ r is. (known fmt x.kind x.payload r is).0), all_read xs)

-- ---- records
module _ (known : SpelledIsRead) where
  leads_or_fails : ItemsAreJudged → (xs : List LogRecord) → is_begun xs ≡ true → ((v : Versions) × LeadTo xs v) ⊎ ((at : ℕ) × IsUnsoundAt xs at)
  leads_or_fails law [] begun = inl (new_store, refl)
  leads_or_fails law (x ∷ xs) begun =
      let f = (has_format x.kind).0 (first_so _ _ begun) in
      elim (law f.0 (item f.0 x) (items f.0 xs) (are_read known f.0 x xs)) [
        | inl p ↦ inl (versions_of p.0, (f.0, p.0, (f.1, p.1), refl))
        | inr p ↦ inr (p.0, (f.0, f.1, p.1))
      ]

  leads_once : ItemsLeadToOne → (xs : List LogRecord) (v w : Versions) → LeadTo xs v → LeadTo xs w → v ≡ w
  leads_once law [] v w a b = a ∙ sym b
  leads_once law (x ∷ xs) v w a b =
      let same = one_format b.0 a.0 (sym b.2.0 ∙ a.2.0) in
      let moved = subst (λ fmt. AllLead fmt (item fmt x) (items fmt xs) b.1) same b.2.1 in
      a.3 ∙ ap versions_of (law a.0 (item a.0 x) (items a.0 xs) a.1 b.1 (are_read known a.0 x xs) a.2.1 moved) ∙ sym b.3

  leads_sound : ItemsLeadToSound → (xs : List LogRecord) (v : Versions) → LeadTo xs v → IsVersions v
  leads_sound law [] v a = subst IsVersions (sym a) new_store-IsVersions
  leads_sound law (x ∷ xs) v a = subst IsVersions (sym a.3) (law a.0 (item a.0 x) (items a.0 xs) a.1 (are_read known a.0 x xs) a.2.1).1

  not_both : NeverBoth → (xs : List LogRecord) (v : Versions) (at : ℕ) → LeadTo xs v → IsUnsoundAt xs at → ⊥
  not_both law [] v at a bad = bad
  not_both law (x ∷ xs) v at a bad =
      let same = one_format bad.0 a.0 (sym bad.1 ∙ a.2.0) in
      law a.0 (item a.0 x) (items a.0 xs) a.1 at (are_read known a.0 x xs) a.2.1 (subst (λ fmt. OneFailsAt fmt (item fmt x) (items fmt xs) at) same bad.2)

  fails_once : ItemsFailOnce → (xs : List LogRecord) (at at' : ℕ) → IsUnsoundAt xs at → IsUnsoundAt xs at' → at ≡ at'
  fails_once law [] at at' a b = absurd a
  fails_once law (x ∷ xs) at at' a b =
      let same = one_format b.0 a.0 (sym b.1 ∙ a.1) in
      law a.0 (item a.0 x) (items a.0 xs) at at' (are_read known a.0 x xs) a.2 (subst (λ fmt. OneFailsAt fmt (item fmt x) (items fmt xs) at') same b.2)

-- ---- live records
-- live records are those of an initialised side
live_begun : (files : Files) (rs : List LogRecord) → HoldsLive files rs → is_begun rs ≡ true
live_begun files rs h =
    subst (λ xs. is_begun xs ≡ true) h.live (elim (live_side h.a_records h.b_records) as (λ s. is_begun (records_of s h.a_records h.b_records) ≡ true) [ side.A ↦ h.a_begun | side.B ↦ h.b_begun ])

-- the live records of two files are on one side
one_side : (files : Files) (rs rs' : List LogRecord) (h : HoldsLive files rs) (k : HoldsLive files rs') → live_side h.a_records h.b_records ≡ live_side k.a_records k.b_records
one_side files rs rs' h k = ap₂ live_side (same_ok _ _ (records files.a) h.a_held k.a_held) (same_ok _ _ (records files.b) h.b_held k.b_held)

-- the generation of two files is that of their live records
pub generation_live : (files : Files) (rs : List LogRecord) → HoldsLive files rs → generation files ≡ generation_in rs
unfolding generation
generation_live files rs h = ap₂ (λ left right. generation_in (live_records (records_of_side left) (records_of_side right))) h.a_held h.b_held ∙ ap generation_in h.live

-- ---- files
pub no_records : (files : Files) → records files.a ≡ Ok [] → records files.b ≡ Ok [] → StandsFor files new_store
no_records files a b = record { live = []; held = record { a_records = []; b_records = []; a_held = a; b_held = b; a_begun = refl; b_begun = refl; apart = refl; live = refl }; leads = refl }

pub stand_for_one : ItemsLeadToOne → SpelledIsRead → (files : Files) (v w : Versions) → StandsFor files v → StandsFor files w → v ≡ w
stand_for_one law known files v w a b = leads_once known law b.live v w (subst (λ rs. LeadTo rs v) (holds_one files a.live b.live a.held b.held) a.leads) b.leads

pub stand_for_sound : ItemsLeadToSound → SpelledIsRead → (files : Files) (v : Versions) → StandsFor files v → IsVersions v
stand_for_sound law known files v a = leads_sound known law a.live v a.leads

-- files that hold live records show no damage from outside
undamaged : (files : Files) (rs : List LogRecord) (x : Side × ℕ) → HoldsLive files rs → outer_damage files ≡ Some x → ⊥
undamaged files rs x h some = let e = sym (holds_undamaged files rs h) ∙ some in cc

pub damage_stands_for_none : NeverBoth → SpelledIsRead → (files : Files) (v : Versions) (where_ : Side) (at : ℕ) → StandsFor files v → IsDamagedAt files where_ at → ⊥
damage_stands_for_none law known files v where_ at stands (inl outer) = undamaged files stands.live (where_, at) stands.held outer
damage_stands_for_none law known files v where_ at stands (inr inner) =
    not_both known law inner.0 v at (subst (λ rs. LeadTo rs v) (holds_one files stands.live inner.0 stands.held inner.1) stands.leads) inner.3

pub damage_once : ItemsFailOnce → SpelledIsRead → (files : Files) (where_ where_' : Side) (at at' : ℕ) → IsDamagedAt files where_ at → IsDamagedAt files where_' at' → (where_ ≡ where_') × (at ≡ at')
damage_once law known files s t m n (inl a) (inl b) = let same = same_Some (s, m) (t, n) (sym a ∙ b) in (ap (λ (z : Side × ℕ). z.0) same, ap (λ (z : Side × ℕ). z.1) same)
damage_once law known files s t m n (inl a) (inr b) = absurd (undamaged files b.0 (s, m) b.1 a)
damage_once law known files s t m n (inr a) (inl b) = absurd (undamaged files a.0 (t, n) a.1 b)
damage_once law known files s t m n (inr a) (inr b) = (
  a.2 ∙ one_side files a.0 b.0 a.1 b.1 ∙ sym b.2,
  fails_once known law b.0 m n (subst (λ rs. IsUnsoundAt rs m) (holds_one files a.0 b.0 a.1 b.1) a.3) b.3,
)

pub files_judged : ItemsAreJudged → SpelledIsRead → (files : Files) → ((v : Versions) × StandsFor files v) ⊎ ((where_ : Side) × (at : ℕ) × IsDamagedAt files where_ at)
files_judged law known files = elim (outer_damage files) as (λ o. outer_damage files ≡ o → ((v : Versions) × StandsFor files v) ⊎ ((where_ : Side) × (at : ℕ) × IsDamagedAt files where_ at)) [
  | Some x ↦ λ is. inr (x.0, x.1, inl is)
  | None ↦ λ whole.
      let h = undamaged_holds files whole in
      elim (leads_or_fails known law h.0 (live_begun files h.0 h.1)) [
        | inl p ↦ inl (p.0, record { live = h.0; held = h.1; leads = p.1 })
        | inr p ↦ inr (live_side h.1.a_records h.1.b_records, p.0, inr (h.0, h.1, refl, p.1))
      ]
] refl

pub calm_both : ItemsLeadToOne → SpelledIsRead → (h : History) (v : Versions) → StandsFor (reads h) v → LeavesNow h (λ f. StandsFor f v) → IsCalm h
calm_both law known h v stands leaves = record {
  leaves = λ w is. subst (λ u. LeavesNow h (λ f. StandsFor f u)) (stand_for_one law known (reads h) v w stands is) leaves;
  only = λ f image w is. subst (StandsFor (reads h)) (stand_for_one law known f v w (leaves f image) is) stands;
}
