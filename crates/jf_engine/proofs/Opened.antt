-- Openings: the files are read and unchanged, or files without a record are initialised.
use Rattle.std.specs.Prelude.{Result, Ok, Err, IfOk, IfErr, IsErr, OnOk}
use Rattle.std.proofs.Common.{◌≡◌, refl, sym, ◌∙◌, ap, subst, ℕ, ◌-◌, ◌≤◌, ◌^◌, List, [], ◌∷◌, ◌⊎◌, ◌↔◌, inl, inr, Option, Some, None, Bool, true, false, arith, reverse}
use Rattle.std.proofs.Math.Nat.{eq-or-lt_of_le}
use Rattle.jf_path.specs.Faults.{HasCause}
use Rattle.jf_model.specs.Versions.{Versions, new_store}
use Rattle.jf_disk.specs.Disk.{History, reads, Files, IsImage, CallsOn, content_on}
use Rattle.jf_disk.specs.Crashes.{LeavesFiles, LeavesNow, KeepsOther, opposite}
use Rattle.jf_disk.specs.declared.side.Side.{Side}
use Rattle.jf_disk.specs.declared.side.Side.TheVariants as side
use Rattle.jf_disk.proofs.CrashLaws.{told_same, told_before, goes_weaker, goes_extends, by_now}
use Rattle.jf_frame.specs.Framed.{LogRecord}
use Rattle.jf_frame.specs.Framing.{records, IsFrame}
use Rattle.jf_frame.specs.Logs.{Log}
use Rattle.jf_pair.specs.declared.fault.PairFault.{PairFault}
use Rattle.jf_pair.specs.declared.fault.PairFault.TheVariants as pair_fault
use Rattle.jf_pair.specs.Pairs.{Pair, IsInStep, StopsBetween, log_records}
use Rattle.jf_pair.specs.Files.{HoldsLive}
use Rattle.jf_pair.proofs.PairLaws.{in_step_holds, in_step_leaves, in_step_side}
use Rattle.jf_pair.proofs.FileLaws.{holds_one}
use Rattle.jf_codec.specs.declared.format.Format.{Format}
use Rattle.jf_codec.specs.declared.format.Format.TheVariants as format
use Rattle.jf_payload.specs.declared.records.Record.{Record}
use Rattle.jf_payload.specs.declared.records.Record.TheVariants as «record»
use Rattle.jf_payload.specs.Spelling.{IsSpelling, IsRecord, checkpoint_kind, record_bytes}
use Rattle.jf_payload.specs.Laws.{SpelledIsSpelling}
use Rattle.jf_standing.specs.Standing.{Standing, versions_of}
use Rattle.jf_standing.specs.Sound.{IsSound}
use Rattle.jf_standing.specs.Next.{IsReadStanding}
use Rattle.jf_standing.specs.Building.{new_standing, checkpoint_of, nodes_by_name}
use Rattle.jf_standing.specs.OrderLaws.{NewIsSound}
use Rattle.jf_standing.specs.Taking.{GivesStanding}
use Rattle.jf_standing.specs.FormatLaws.{standing_in, FormatsAreSound}
use Rattle.jf_files.specs.Files.{LeadToStanding, LeadTo, generation_in, StandsFor, IsDamagedAt, IsUnsoundAt}
use Rattle.jf_files.specs.NewStore.{new_store_bytes}
use Rattle.jf_files.specs.Laws.{NewStoreStands, StandingsHaveVersions, GenerationIsLive, FilesStandForOne, CheckpointsAreNumbered, DamageHasOnePlace, DamageIsNoVersions}
use Rattle.jf_files.specs.Steps.{Opens, LiveAfter, Succeeds}
use Rattle.jf_files.specs.StepLaws.{OpensByRecords, BeginsByRecords, SucceedsByRecords, SucceedsAfterReading, FirstFollows, CheckpointsFollow}
use Rattle.jf_files.specs.Begun.{IsBegunOver}
use Rattle.jf_engine.specs.Faults.{of_pair}
use Rattle.jf_engine.specs.Kept.{HoldsStandingOf, KeepsStandingFiles, checkpoint_at_start}
use Rattle.jf_engine.specs.Openings.{KeepsVersions, HasOpened, HasRefused, disk_view, with_new_store}
use Rattle.jf_engine.specs.declared.opening.Found.{Found}
use Rattle.jf_engine.specs.declared.fault.OpenFault.{OpenFault}
use Rattle.jf_engine.specs.declared.fault.OpenFault.TheVariants as open_fault
use Rattle.jf_engine.proofs.Keeping.{lead_versions, holds_settled, on_same, switched_keeps}
use Rattle.jf_engine.proofs.Records.{checkpoint_leads}

-- ---- the effect of an opening on the files
-- files that are read still represent the same
pub reads_keep : (h g : History) → LeavesFiles h g → KeepsVersions h g
reads_keep h g left = record {
  extends = goes_extends h g _ left.images;
  stands = λ v stands. subst (λ (f : Files). StandsFor f v) (sym left.same) stands;
  stops = λ v calm stands. goes_weaker h g (λ f. IsImage h.now f) (λ f. StandsFor f v ⊎ StandsFor f v) (λ f image. inl (calm.leaves v stands f image)) left.images;
  recorded = λ x xs held. left;
}

-- files that were initialised represent a new store, as before
pub begins_keep : FilesStandForOne → (h g : History) → IsBegunOver h g → KeepsVersions h g
begins_keep one h g b =
    let new : (v : Versions) → StandsFor (reads h) v → v ≡ new_store = λ v stands. one (reads h) v new_store stands (record { live = []; held = b.none; leads = refl }) in
    record {
      extends = goes_extends h g _ b.images;
      stands = λ v stands. subst (StandsFor (reads g)) (sym (new v stands)) b.stands;
      stops = λ v calm stands. goes_weaker h g (λ f. IsImage h.now f ⊎ StandsFor f new_store) (λ f. StandsFor f v ⊎ StandsFor f v) (λ f left. elim left [
        | inl image ↦ inl (calm.leaves v stands f image)
        | inr begun ↦ inl (subst (StandsFor f) (sym (new v stands)) begun)
      ]) b.images;
      recorded = λ x xs held. absurd (let e = holds_one (reads h) [] (x ∷ xs) b.none held in cc);
    }

-- a first checkpoint makes the bytes of a new store of side A, and leaves side B as it was
pub first_bytes : NewStoreStands → (m g : History) (was is : Side) (slice : List ℕ) → was ≡ side.B → is ≡ opposite was → IsFrame slice 5 (record_bytes format.Two (checkpoint_of 1 (new_standing format.Two)))
    → (content_on is g.now).bytes ≡ 1 ∷ slice → KeepsOther (opposite was) m g → reads g ≡ with_new_store (reads m)
first_bytes stands m g was is slice b across frame written other =
    let own : g.now.a.bytes ≡ new_store_bytes = ap (λ (s : Side). (content_on s g.now).bytes) (sym (across ∙ ap opposite b)) ∙ written ∙ ap (λ (xs : List ℕ). 1 ∷ xs) frame.is ∙ stands.2 in
    let kept : g.now.b ≡ m.now.b = by_now (λ s. content_on side.B s ≡ content_on side.B m.now) m g (subst (λ (w : Side). KeepsOther (opposite w) m g) b other) refl in
    λ i. record { a = own i; b = (kept i).bytes }

-- ---- the generation that is read
first_bounds : CheckpointsAreNumbered → (fmt : Format) (x : LogRecord) (xs : List LogRecord) (r : Record) (s : Standing) → GivesStanding fmt r s → IsSpelling fmt r x.kind x.payload → (1 ≤ generation_in (x ∷ xs)) × (generation_in (x ∷ xs) ≤ 2 ^ 64 - 2)
first_bounds numbered fmt x xs («record».Floor floor) s gives is = absurd gives
first_bounds numbered fmt x xs («record».NodeCommit c) s gives is = absurd gives
first_bounds numbered fmt x xs («record».Checkpoint generation base floor head roots nodes) s gives is =
    let e = (numbered fmt generation base floor head roots nodes x is).1 in
    (subst (λ n. 1 ≤ n) (sym e) is.sound.generation_first, subst (λ n. n ≤ 2 ^ 64 - 2) (sym e) is.sound.generation_last)
first_bounds numbered fmt x xs («record».Group cs) s gives is = absurd gives

-- the generation of records that lead to a standing is from 1 to 2^64 - 2
pub generation-bounds : SpelledIsSpelling → CheckpointsAreNumbered → (rs : List LogRecord) (fmt : Format) (s : Standing) → LeadToStanding rs fmt s → (1 ≤ generation_in rs) × (generation_in rs ≤ 2 ^ 64 - 2)
generation-bounds spelling numbered [] fmt s leads = absurd leads
generation-bounds spelling numbered (x ∷ xs) fmt s leads =
    let begins = leads.1.1 in
    first_bounds numbered fmt x xs begins.0 leads.1.0 begins.2 ((spelling fmt x.kind x.payload begins.0).0 begins.1)

-- ---- files with records
module _ (formats : FormatsAreSound) (have : StandingsHaveVersions) (number : GenerationIsLive) (opens : OpensByRecords)
    (o n : Option History) (m f m' f' : ℕ) (p : Pair) (fmt : Format) (s : Standing) (sound : IsSound format.Two s) (unknown : o ≡ None → n ≡ None) where
  pub read_kept : (rs : List LogRecord) → LeadToStanding rs fmt (standing_in fmt s) → p.is_live ≡ true → p.failed ≡ false → ((h : History) → o ≡ Some h → (g : History) × (n ≡ Some g) × (LeavesFiles h g × IsInStep p rs g.now)) → KeepsStandingFiles n p fmt s (generation_in rs)
  read_kept rs leads live whole at = record {
    live = live;
    sound = whole;
    holds = λ g told'.
        let b = told_before o n g unknown told' in
        let a = at b.0 b.1 in
        let now : HoldsStandingOf p fmt s (generation_in rs) a.0.now = record { held = rs; in_step = a.2.1; leads = leads; numbered = refl } in
        subst (λ (h : History). HoldsStandingOf p fmt s (generation_in rs) h.now) (told_same a.0 g n a.1 told') now;
  }

  pub read_opened : (rs : List LogRecord) → LeadToStanding rs fmt (standing_in fmt s) → ((h : History) → o ≡ Some h → (g : History) × (n ≡ Some g) × (LeavesFiles h g × IsInStep p rs g.now)) → ((h : History) → o ≡ Some h → HoldsLive (reads h) rs)
      → m ≤ m' → f' ≡ f → HasOpened (disk_view o m f) (disk_view n m' f') (versions_of s) (generation_in rs)
  read_opened [] leads at held moment calm = absurd leads
  read_opened (x ∷ xs) leads at held moment calm =
      let to = lead_versions formats have (x ∷ xs) fmt s sound leads in
      record {
        found = λ h told. (record { live = x ∷ xs; held = held h told; leads = to }, number (reads h) (x ∷ xs) (held h told));
        disk = λ h told. let a = at h told in (a.0, a.1, reads_keep h a.0 a.2.0);
        settled = λ h told. let a = at h told in (a.0, a.1, holds_settled formats have number a.0 p fmt s (generation_in (x ∷ xs)) sound (record { held = x ∷ xs; in_step = a.2.1; leads = leads; numbered = refl }));
        begun = λ h told. let a = at h told in (a.0, a.1, λ none. absurd (let e = holds_one (reads h) [] (x ∷ xs) none (held h told) in cc));
        live = λ h told. let a = at h told in (a.0, a.1, λ rs was. (x ∷ xs, in_step_holds p (x ∷ xs) a.0 a.2.1, subst (λ ys. LiveAfter Opens ys (x ∷ xs)) (holds_one (reads h) (x ∷ xs) rs (held h told) was) refl));
        succeeds = λ h told. let a = at h told in (a.0, a.1, λ leaves. opens h a.0 (versions_of s) p x xs to leaves a.2.0 a.2.1);
        unknown = unknown;
        moment = moment;
        faults = calm;
      }

-- ---- files without a record
module _ (one : FilesStandForOne) (number : GenerationIsLive) (begins : BeginsByRecords) (o t n : Option History) (m f m' f' : ℕ) (p : Pair) (x : LogRecord) (to : LeadTo (x ∷ []) new_store)
    (unknown : o ≡ None → n ≡ None) (moment : m ≤ m') (faults : f ≤ f')
    (left : (h : History) → o ≡ Some h → (k : History) × (t ≡ Some k) × (LeavesFiles h k × IsInStep p [] k.now))
    (stop : (k : History) → t ≡ Some k → (g : History) × (n ≡ Some g) × StopsBetween k g [] (x ∷ []))
    (readable : (g : History) → n ≡ Some g → IsImage g.now (reads g)) where
  begun : (h : History) → o ≡ Some h → (g : History) × (n ≡ Some g) × IsBegunOver h g
  begun h told =
      let l = left h told in
      let s = stop l.0 l.1 in
      (s.0, s.1, begins h l.0 s.0 p x to l.2.0 l.2.1 s.2 (readable s.0 s.1))

  begun_disk : (h : History) → o ≡ Some h → (g : History) × (n ≡ Some g) × KeepsVersions h g
  begun_disk h told = let b = begun h told in (b.0, b.1, begins_keep one h b.0 b.2)

  pub begun_refused : HasCause f f' → HasRefused (disk_view o m f) (disk_view n m' f') open_fault.DiskFault
  begun_refused cause = record {
    disk = begun_disk;
    left = λ h told. let b = begun h told in (b.0, b.1, inr (refl, b.2));
    damaged = λ h told where_ at e. absurd (cc);
    damaged_told = λ h told where_ at here. inr (inl refl);
    cause = λ e. cause;
    unknown = unknown;
    moment = moment;
    faults = faults;
  }

  pub begun_opened : f' ≡ f → SucceedsByRecords → SucceedsAfterReading → (p' : Pair) → x.kind ≡ checkpoint_kind format.Two → generation_in (x ∷ []) ≡ 1
      → ((k : History) → t ≡ Some k → (g : History) × (n ≡ Some g) × IsInStep p' (x ∷ []) g.now) → ((k : History) → t ≡ Some k → (g : History) × (n ≡ Some g) × (reads g ≡ with_new_store (reads k)))
      → HasOpened (disk_view o m f) (disk_view n m' f') new_store 1
  begun_opened calm succeeds reading p' kind numbered in_step bytes =
      let at : (h : History) → o ≡ Some h → (g : History) × (n ≡ Some g) × (IsInStep p' (x ∷ []) g.now × (HoldsLive (reads h) [] × (LeavesNow h (λ f. StandsFor f new_store) → Succeeds Opens h g new_store))) = λ h told.
      let l = left h told in
      let both = on_same n _ _ (stop l.0 l.1) (in_step l.0 l.1) in
      let held = in_step_holds p [] l.0 l.2.1 in (
        both.0,
        both.1,
        (
          both.2.1,
          (
            subst (λ (f : Files). HoldsLive f []) l.2.0.same held,
            λ leaves. reading Opens h l.0 both.0 new_store leaves l.2.0 (succeeds Opens l.0 both.0 new_store p' [] (x ∷ []) refl to held both.2.0 both.2.1 numbered (x, refl, kind)),
          ),
        ),
      ) in
      record {
        found = λ h told. let a = at h told in (record { live = []; held = a.2.1.0; leads = refl }, number (reads h) [] a.2.1.0);
        disk = begun_disk;
        settled = λ h told. let a = at h told in (
          a.0,
          a.1,
          record {
            stands = record { live = x ∷ []; held = in_step_holds p' (x ∷ []) a.0 a.2.0; leads = to };
            leaves = λ f image. record { live = x ∷ []; held = in_step_leaves p' (x ∷ []) a.0 a.2.0 f image; leads = to };
            generation_is = number (reads a.0) (x ∷ []) (in_step_holds p' (x ∷ []) a.0 a.2.0) ∙ numbered;
          },
        );
        begun = λ h told. let l = left h told in let b = bytes l.0 l.1 in (b.0, b.1, λ none. b.2 ∙ ap with_new_store l.2.0.same);
        live = λ h told. let a = at h told in (a.0, a.1, λ rs was. (x ∷ [], in_step_holds p' (x ∷ []) a.0 a.2.0, subst (λ ys. LiveAfter Opens ys (x ∷ [])) (holds_one (reads h) [] rs a.2.1.0 was) (x, refl, kind)));
        succeeds = λ h told. let a = at h told in (a.0, a.1, a.2.1.1);
        unknown = unknown;
        moment = moment;
        faults = calm;
      }

-- ---- refusals
-- damaged files are refused with `Damaged` at their place, with `DiskFault` or with `Memory`
told_of_damage : (h : History) (why : OpenFault) (where_ : Side) (at : ℕ) → DamageHasOnePlace → ((w : Side) (n : ℕ) → why ≡ open_fault.Damaged w n → IsDamagedAt (reads h) w n) → IsDamagedAt (reads h) where_ at
    → (why ≡ open_fault.Damaged where_ at) ⊎ ((why ≡ open_fault.DiskFault) ⊎ (why ≡ open_fault.Memory))
told_of_damage h open_fault.DiskFault where_ at one tells here = inr (inl refl)
told_of_damage h (open_fault.Damaged w n) where_ at one tells here = let place = one (reads h) w where_ n at (tells w n refl) here in inl (cc)
told_of_damage h open_fault.Memory where_ at one tells here = inr (inr refl)

-- a refusal that leaves the files unchanged
pub read_refused : DamageHasOnePlace → (o n : Option History) (m f m' f' : ℕ) (why : OpenFault) → (o ≡ None → n ≡ None) → m ≤ m' → f ≤ f' → (why ≡ open_fault.DiskFault → HasCause f f')
    → ((h : History) → o ≡ Some h → (g : History) × (n ≡ Some g) × LeavesFiles h g) → ((h : History) → o ≡ Some h → (w : Side) (at : ℕ) → why ≡ open_fault.Damaged w at → IsDamagedAt (reads h) w at)
    → HasRefused (disk_view o m f) (disk_view n m' f') why
read_refused one o n m f m' f' why unknown moment faults cause left damaged = record {
  disk = λ h told. let a = left h told in (a.0, a.1, reads_keep h a.0 a.2);
  left = λ h told. let a = left h told in (a.0, a.1, inl a.2);
  damaged = damaged;
  damaged_told = λ h told where_ at here. told_of_damage h why where_ at one (damaged h told) here;
  cause = cause;
  unknown = unknown;
  moment = moment;
  faults = faults;
}

-- ---- the results of an opening
-- what is found if the records of a log are replayed
module _ (formats : FormatsAreSound) (have : StandingsHaveVersions) (number : GenerationIsLive) (opens : OpensByRecords)
    (o n : Option History) (m f m' f' : ℕ) (p : Pair) (rs : List LogRecord) (unknown : o ≡ None → n ≡ None) (moment : m ≤ m') (faults : f ≤ f')
    (at : (h : History) → o ≡ Some h → (g : History) × (n ≡ Some g) × (LeavesFiles h g × IsInStep p rs g.now)) (held : (h : History) → o ≡ Some h → HoldsLive (reads h) rs) where
  pub replayed_opened : f' ≡ f → (r : Result Found OpenFault) → IfOk r (λ x. LeadToStanding rs x.format (standing_in x.format x.directory)) → IfOk r (λ x. IsSound format.Two x.directory) → IfOk r (λ x. x.generation ≡ generation_in rs)
      → IfOk r (λ x. HasOpened (disk_view o m f) (disk_view n m' f') (versions_of x.directory) x.generation)
  replayed_opened calm (Ok x) led sound is =
      subst (λ k. HasOpened (disk_view o m f) (disk_view n m' f') (versions_of x.directory) k) (sym is) (read_opened formats have number opens o n m f m' f' p x.format x.directory sound unknown rs led at held moment calm)
  replayed_opened calm (Err e) led sound is = tt

  pub replayed_kept : p.is_live ≡ true → p.failed ≡ false → (r : Result Found OpenFault) → IfOk r (λ x. x.pair ≡ p) → IfOk r (λ x. LeadToStanding rs x.format (standing_in x.format x.directory)) → IfOk r (λ x. IsSound format.Two x.directory) → IfOk r (λ x. x.generation ≡ generation_in rs)
      → IfOk r (λ x. KeepsStandingFiles n x.pair x.format x.directory x.generation)
  replayed_kept live whole (Ok x) same led sound is =
      subst (λ k. KeepsStandingFiles n x.pair x.format x.directory k) (sym is) (subst (λ (q : Pair). KeepsStandingFiles n q x.format x.directory (generation_in rs)) (sym same) (read_kept formats have number opens o n m f m' f' p x.format x.directory sound unknown rs led live whole at))
  replayed_kept live whole (Err e) same led sound is = tt

  pub replayed_damage : DamageIsNoVersions → (r : Result Found OpenFault) → IfOk r (λ x. LeadToStanding rs x.format (standing_in x.format x.directory)) → IfOk r (λ x. IsSound format.Two x.directory)
      → (h : History) (where_ : Side) (place : ℕ) → o ≡ Some h → IsDamagedAt (reads h) where_ place → IsErr r
  replayed_damage law (Ok x) led sound h where_ place told here =
      absurd (law (reads h) (versions_of x.directory) where_ place (record { live = rs; held = held h told; leads = lead_versions formats have rs x.format x.directory sound led }) here)
  replayed_damage law (Err e) led sound h where_ place told here = refl

  pub replayed_refused : DamageHasOnePlace → p.is_live ≡ true → (r : Result Found OpenFault) → ((where_ : Side) (place : ℕ) → r ≡ Err (open_fault.Damaged where_ place) → (where_ ≡ p.side) × IsUnsoundAt rs place)
      → (r ≡ Err open_fault.DiskFault → ⊥) → IfErr r (HasRefused (disk_view o m f) (disk_view n m' f'))
  replayed_refused one live (Ok x) damaged never = tt
  replayed_refused one live (Err e) damaged never =
      read_refused one o n m f m' f' e unknown moment faults (λ is. absurd (never (ap (λ w. Err w) is))) (λ h told. let a = at h told in (a.0, a.1, a.2.0)) (λ h told where_ place is.
      let a = at h told in
      let found = damaged where_ place (ap (λ w. Err w) is) in
      let k = held h told in
      inr (rs, k, found.0 ∙ sym (in_step_side p rs a.0 k.a_records k.b_records a.2.1 live (subst (λ (f : Files). records f.a ≡ Ok k.a_records) (sym a.2.0.same) k.a_held) (subst (λ (f : Files). records f.b ≡ Ok k.b_records) (sym a.2.0.same) k.b_held)), found.1))

-- the bounds of a generation that is found
pub replayed_numbered : SpelledIsSpelling → CheckpointsAreNumbered → (rs : List LogRecord) (r : Result Found OpenFault) → IfOk r (λ x. LeadToStanding rs x.format (standing_in x.format x.directory)) → IfOk r (λ x. x.generation ≡ generation_in rs)
    → IfOk r (λ x. (1 ≤ x.generation) × (x.generation ≤ 2 ^ 64 - 2))
replayed_numbered spelling numbered rs (Ok x) led is = subst (λ n. (1 ≤ n) × (n ≤ 2 ^ 64 - 2)) (sym is) (generation-bounds spelling numbered rs x.format (standing_in x.format x.directory) led)
replayed_numbered spelling numbered rs (Err e) led is = tt

-- a fault that was counted in a later call was counted since an earlier moment
pub cause_before : (f f1 f' : ℕ) → f ≤ f1 → f1 ≤ f' → HasCause f1 f' → HasCause f f'
cause_before f f1 f' first then_ (inl rose) = inl (omega (arith, first, rose))
cause_before f f1 f' first then_ (inr stood) = elim (eq-or-lt_of_le first) [ inl same ↦ inr (same ∙ stood) | inr less ↦ inl (omega (arith, less, then_)) ]

-- the record of a first checkpoint was written unless memory ran out
pub first_written : {P : Type 0} (r : Result Found OpenFault) → (r ≡ Err open_fault.Memory) ⊎ P → (r ≡ Err open_fault.Memory → ⊥) → P
first_written r (inl e) never = absurd (never e)
first_written r (inr p) never = p

module _ (one : FilesStandForOne) (place : DamageHasOnePlace) (number : GenerationIsLive) (begins : BeginsByRecords) (succeeds : SucceedsByRecords) (reading : SucceedsAfterReading) (first : FirstFollows) (follow : CheckpointsFollow) (numbered : CheckpointsAreNumbered) (new : NewIsSound)
    (o t n : Option History) (m m1 m' f f1 f' : ℕ) (p : Pair) (unknown : o ≡ None → t ≡ None) (later : m ≤ m1) (counted : f ≤ f1)
    (left : (h : History) → o ≡ Some h → (k : History) × (t ≡ Some k) × (LeavesFiles h k × IsInStep p [] k.now))
    (stop : (k : History) → t ≡ Some k → (g : History) × (n ≡ Some g) × StopsBetween k g [] (checkpoint_at_start 1 (new_standing format.Two) ∷ []))
    (readable : (g : History) → n ≡ Some g → IsImage g.now (reads g)) where
  abbrev y : LogRecord
  y = checkpoint_at_start 1 (new_standing format.Two)

  one_generation : IsRecord format.Two (checkpoint_of 1 (new_standing format.Two)) → generation_in (y ∷ []) ≡ 1
  one_generation written =
      let s = new_standing format.Two in
      (numbered format.Two 1 s.base s.floor s.head (reverse s.roots) (nodes_by_name s.nodes) y (record { sound = written; kind_is = refl; payload_is = refl })).1

  leads_to_new : IsRecord format.Two (checkpoint_of 1 (new_standing format.Two)) → LeadTo (y ∷ []) new_store
  leads_to_new written = first format.Two 1 y (record { sound = written; kind_is = refl; payload_is = refl })

  module _ (r : Result Found OpenFault) (calls : CallsOn t m1 f1 n m' f' (r ≡ Err open_fault.DiskFault)) where
    all_untold : o ≡ None → n ≡ None
    all_untold none = calls.unknown (unknown none)

    all_later : m ≤ m'
    all_later = let b = calls.later in omega (arith, later, b)

    all_counted : f ≤ f'
    all_counted = let b = calls.counted in omega (arith, counted, b)

  pub first_opened : f1 ≡ f → (r : Result Found OpenFault) → OnOk r (f' ≡ f1) → CallsOn t m1 f1 n m' f' (r ≡ Err open_fault.DiskFault) → (r ≡ Err open_fault.Memory) ⊎ IsRecord format.Two (checkpoint_of 1 (new_standing format.Two))
      → IfOk r (λ x. (x.directory ≡ new_standing format.Two) × (x.format ≡ format.Two) × (x.generation ≡ 1) × (x.pair.is_live ≡ true) × (x.pair.failed ≡ false))
      → ((k : History) → t ≡ Some k → IfOk r (λ x. (g : History) × (n ≡ Some g) × IsInStep x.pair (y ∷ []) g.now))
      → ((k : History) → t ≡ Some k → IfOk r (λ x. (g : History) × (n ≡ Some g) × (reads g ≡ with_new_store (reads k))))
      → IfOk r (λ x. HasOpened (disk_view o m f) (disk_view n m' f') (versions_of x.directory) x.generation)
  first_opened opening (Ok x) calm calls spelled found in_step bytes =
      let written = first_written {P = IsRecord format.Two (checkpoint_of 1 (new_standing format.Two))} (Ok x) spelled (λ e. absurd (cc)) in
      let opened = begun_opened one number begins o t n m f m' f' p y (leads_to_new written) (all_untold (Ok x) calls) (all_later (Ok x) calls) (all_counted (Ok x) calls) left stop readable (calm ∙ opening) succeeds reading x.pair refl (one_generation written) in_step bytes in
      subst (λ k. HasOpened (disk_view o m f) (disk_view n m' f') (versions_of x.directory) k) (sym found.2)
      (subst (λ v. HasOpened (disk_view o m f) (disk_view n m' f') v 1) (sym (ap versions_of found.0 ∙ (new format.Two).1)) opened)
  first_opened opening (Err e) calm calls spelled found in_step bytes = tt

  pub first_refused : (r : Result Found OpenFault) → CallsOn t m1 f1 n m' f' (r ≡ Err open_fault.DiskFault) → (r ≡ Err open_fault.Memory) ⊎ IsRecord format.Two (checkpoint_of 1 (new_standing format.Two))
      → (r ≡ Err open_fault.Memory → n ≡ t) → ((where_ : Side) (at : ℕ) → r ≡ Err (open_fault.Damaged where_ at) → ⊥) → IfErr r (HasRefused (disk_view o m f) (disk_view n m' f'))
  first_refused (Ok x) calls spelled memory never = tt
  first_refused (Err open_fault.DiskFault) calls spelled memory never =
      let r : Result Found OpenFault = Err open_fault.DiskFault in
      let written = first_written {P = IsRecord format.Two (checkpoint_of 1 (new_standing format.Two))} r spelled (λ e. absurd (cc)) in
      begun_refused one number begins o t n m f m' f' p y (leads_to_new written) (all_untold r calls) (all_later r calls) (all_counted r calls) left stop readable (cause_before f f1 f' counted calls.counted (calls.cause refl))
  first_refused (Err (open_fault.Damaged where_ at)) calls spelled memory never = absurd (never where_ at refl)
  first_refused (Err open_fault.Memory) calls spelled memory never =
      let r : Result Found OpenFault = Err open_fault.Memory in
      read_refused place o n m f m' f' open_fault.Memory (all_untold r calls) (all_later r calls) (all_counted r calls) (λ e. absurd (cc)) (λ h told. let l = left h told in (l.0, memory refl ∙ l.1, l.2.0)) (λ h told w at e. absurd (cc))

  pub first_kept : (r : Result Found OpenFault) → CallsOn t m1 f1 n m' f' (r ≡ Err open_fault.DiskFault) → (r ≡ Err open_fault.Memory) ⊎ IsRecord format.Two (checkpoint_of 1 (new_standing format.Two))
      → IfOk r (λ x. (x.directory ≡ new_standing format.Two) × (x.format ≡ format.Two) × (x.generation ≡ 1) × (x.pair.is_live ≡ true) × (x.pair.failed ≡ false))
      → IfOk r (λ x. IsReadStanding x.directory × IsSound format.Two x.directory)
      → ((k : History) → t ≡ Some k → IfOk r (λ x. (g : History) × (n ≡ Some g) × IsInStep x.pair (y ∷ []) g.now))
      → IfOk r (λ x. KeepsStandingFiles n x.pair x.format x.directory x.generation)
  first_kept (Ok x) calls spelled found known in_step =
      let written = first_written {P = IsRecord format.Two (checkpoint_of 1 (new_standing format.Two))} (Ok x) spelled (λ e. absurd (cc)) in
      let leads = checkpoint_leads follow numbered (new_standing format.Two) 1 (subst IsReadStanding found.0 known.0) (subst (IsSound format.Two) found.0 known.1) written in
      let kept = switched_keeps t n x.pair format.Two (new_standing format.Two) 1 y calls.unknown found.3 found.4 leads.0 leads.1 in_step in
      subst (λ (q : Format). KeepsStandingFiles n x.pair q x.directory x.generation) (sym found.1) (subst (λ (s : Standing). KeepsStandingFiles n x.pair format.Two s x.generation) (sym found.0) (subst (λ k. KeepsStandingFiles n x.pair format.Two (new_standing format.Two) k) (sym found.2) kept))
  first_kept (Err e) calls spelled found known in_step = tt

-- files without a record aren't damaged
pub first_damage : DamageIsNoVersions → (o t : Option History) (p : Pair) → ((h : History) → o ≡ Some h → (k : History) × (t ≡ Some k) × (LeavesFiles h k × IsInStep p [] k.now)) → (r : Result Found OpenFault)
    → (h : History) (where_ : Side) (at : ℕ) → o ≡ Some h → IsDamagedAt (reads h) where_ at → IsErr r
first_damage law o t p left (Ok x) h where_ at told here =
    let l = left h told in
    absurd (law (reads h) new_store where_ at (record { live = []; held = subst (λ (f : Files). HoldsLive f []) l.2.0.same (in_step_holds p [] l.0 l.2.1); leads = refl }) here)
first_damage law o t p left (Err e) h where_ at told here = refl

-- a log was returned only if a side is live
pub found_live : (b : Bool) (log : Log) → ((Some log ≡ None) ↔ (b ≡ false)) → b ≡ true
found_live true log none = refl
found_live false log none = absurd (let e = none.1 refl in cc)

-- the fault of a pair that means a fault of the disk, or damage
pub of_pair_fault : (x : PairFault) → of_pair x ≡ open_fault.DiskFault → x ≡ pair_fault.DiskFault
of_pair_fault pair_fault.DiskFault e = refl
of_pair_fault (pair_fault.Damaged w n) e = absurd (cc)
of_pair_fault pair_fault.Memory e = absurd (cc)

pub of_pair_damage : (x : PairFault) (where_ : Side) (at : ℕ) → of_pair x ≡ open_fault.Damaged where_ at → x ≡ pair_fault.Damaged where_ at
of_pair_damage pair_fault.DiskFault where_ at e = absurd (cc)
of_pair_damage (pair_fault.Damaged w n) where_ at e = cc
of_pair_damage pair_fault.Memory where_ at e = absurd (cc)

-- the records of the live log are those that a disk is in step with
pub live_in_step : (n : Option History) (p : Pair) (l : Option Log) (rs : List LogRecord) → log_records l ≡ rs → ((g : History) × (n ≡ Some g) × IsInStep p (log_records l) g.now) → (g : History) × (n ≡ Some g) × IsInStep p rs g.now
live_in_step n p l rs is a = (a.0, a.1, subst (λ (xs : List LogRecord). IsInStep p xs a.0.now) is a.2)
