-- What a call promises that opened the store and followed the landing blocks of its input.
use Rattle.std.specs.Prelude.{◌≢◌, IfSome, IsFalse, IsTrue}
use Rattle.std.proofs.Common.{◌≡◌, ◌⊎◌, ◌≤◌, ◌∙◌, inl, inr, ℕ, List, Option, None, Some, refl, sym, subst, true≢false}
use Rattle.jf_path.specs.Faults.{HasCause}
use Rattle.jf_model.specs.States.{State, state_when_opened}
use Rattle.jf_model.specs.declared.entries.Entry.{Entry}
use Rattle.jf_disk.specs.declared.side.Side.{Side}
use Rattle.jf_files.specs.Laws.{FilesStandForOne, DamageIsNoVersions}
use Rattle.jf_engine.specs.Engines.{Engine}
use Rattle.jf_engine.specs.Openings.{DiskView}
use Rattle.jf_follow.specs.Laws.{InputsDecide}
use Rattle.jf_follow.specs.Streams.{HasFollowed}
use Rattle.jf_follow.specs.declared.followed.FollowRefused.{FollowRefused}
use Rattle.jf_follow.specs.declared.followed.Followed.{Followed}
use Rattle.jf_follow.specs.declared.followed.Followed.TheVariants as followed
use Rattle.jf_words.specs.declared.modes.Mode.TheVariants as mode
use Rattle.jf_run.specs.Calls.{ProgramCall, engine_disk}
use Rattle.jf_run.specs.Following.{IsFollowedCall, TriesFollowing}
use Rattle.jf_run.specs.Outcomes.{IsDoneOrMemory}
use Rattle.jf_run.specs.Promises.{HasCauses, KeepsPromises}
use Rattle.jf_run.specs.Runs.{IsBegun, IsDatedDisk, KeepsEntries}
use Rattle.jf_run.specs.Statuses.{is_disk_fault, is_input_fault, status_of_followed}
use Rattle.jf_run.specs.declared.status.Status.{Status}
use Rattle.jf_run.specs.declared.status.Status.TheVariants as status
use Rattle.jf_run.proofs.Complete.{steady_ends}
use Rattle.jf_run.proofs.KeptInTurn.{KeepsLandings}
use Rattle.jf_run.proofs.Opened.{TellsEnd, calm_since, kept_goes, opened_called, opened_keeps, opened_stands, rose}
use Rattle.jf_run.proofs.RunsLaws.{beginning, kept-KeepsEntries}

-- ---- the status
no_usage : (how : Followed) → status_of_followed how ≡ status.Usage → ⊥
no_usage followed.Done e = absurd (cc)
no_usage followed.ReadFault e = absurd (cc)
no_usage followed.WriteFault e = absurd (cc)
no_usage followed.DiskFault e = absurd (cc)
no_usage followed.Memory e = absurd (cc)
no_usage (followed.Refused why) e = absurd (cc)

no_damage : (how : Followed) (side : Side) (at : ℕ) → status_of_followed how ≡ status.Damaged side at → ⊥
no_damage followed.Done side at e = absurd (cc)
no_damage followed.ReadFault side at e = absurd (cc)
no_damage followed.WriteFault side at e = absurd (cc)
no_damage followed.DiskFault side at e = absurd (cc)
no_damage followed.Memory side at e = absurd (cc)
no_damage (followed.Refused why) side at e = absurd (cc)

pub followed_here : (how : Followed) (head : ℕ) (root : List ℕ) → status_of_followed how ≡ status.Elsewhere head root → ⊥
followed_here followed.Done head root e = absurd (cc)
followed_here followed.ReadFault head root e = absurd (cc)
followed_here followed.WriteFault head root e = absurd (cc)
followed_here followed.DiskFault head root e = absurd (cc)
followed_here followed.Memory head root e = absurd (cc)
followed_here (followed.Refused why) head root e = absurd (cc)

-- nor outside
pub followed_inside : (how : Followed) (least head : ℕ) → status_of_followed how ≡ status.Outside least head → ⊥
followed_inside followed.Done least head e = absurd (cc)
followed_inside followed.ReadFault least head e = absurd (cc)
followed_inside followed.WriteFault least head e = absurd (cc)
followed_inside followed.DiskFault least head e = absurd (cc)
followed_inside followed.Memory least head e = absurd (cc)
followed_inside (followed.Refused why) least head e = absurd (cc)

-- an input that failed or was refused wasn't followed to its end
pub followed_silently : (how : Followed) → IsTrue (is_input_fault (status_of_followed how)) → (how ≢ followed.Done) × (how ≢ followed.WriteFault)
followed_silently followed.Done refused = absurd (cc)
followed_silently followed.ReadFault refused = (λ e. absurd (cc), λ e. absurd (cc))
followed_silently followed.WriteFault refused = absurd (cc)
followed_silently followed.DiskFault refused = absurd (cc)
followed_silently followed.Memory refused = absurd (cc)
followed_silently (followed.Refused why) refused = (λ e. absurd (cc), λ e. absurd (cc))

read_told : (how : Followed) → status_of_followed how ≡ status.ReadFault → how ≡ followed.ReadFault
read_told followed.Done e = absurd (cc)
read_told followed.ReadFault e = refl
read_told followed.WriteFault e = absurd (cc)
read_told followed.DiskFault e = absurd (cc)
read_told followed.Memory e = absurd (cc)
read_told (followed.Refused why) e = absurd (cc)

write_told : (how : Followed) → status_of_followed how ≡ status.WriteFault → how ≡ followed.WriteFault
write_told followed.Done e = absurd (cc)
write_told followed.ReadFault e = absurd (cc)
write_told followed.WriteFault e = refl
write_told followed.DiskFault e = absurd (cc)
write_told followed.Memory e = absurd (cc)
write_told (followed.Refused why) e = absurd (cc)

-- without a fault of a device all was done, memory ran out or a line or a block was refused
ended_well : (s : Status) (how : Followed) → s ≡ status_of_followed how → (s ≡ status.ReadFault → ⊥) → (s ≡ status.WriteFault → ⊥) → (s ≡ status.DiskFault → ⊥) → IsDoneOrMemory s ⊎ ((why : FollowRefused) × (s ≡ status.Unfollowed why))
ended_well s followed.Done is r w d = inl (inl is)
ended_well s followed.ReadFault is r w d = absurd (r is)
ended_well s followed.WriteFault is r w d = absurd (w is)
ended_well s followed.DiskFault is r w d = absurd (d is)
ended_well s followed.Memory is r w d = inl (inr is)
ended_well s (followed.Refused why) is r w d = inr (why, is)

module _ (old new : Engine) (es : List Entry) (rest rest' text text' : Option (List ℕ)) (attempt : Option Entry) where
  -- the disk failed in what was tried
  disk_caused : (how : Followed) (came : HasFollowed how old new es rest rest' text text') → TriesFollowing how old new es rest rest' text text' came attempt → (faults faults' : ℕ) → IfSome attempt (λ _. HasCause faults faults') → status_of_followed how ≡ status.DiskFault → HasCause faults faults'
  disk_caused followed.Done came tried faults faults' cause e = absurd (cc)
  disk_caused followed.ReadFault came tried faults faults' cause e = absurd (cc)
  disk_caused followed.WriteFault came tried faults faults' cause e = absurd (cc)
  disk_caused followed.DiskFault came tried faults faults' cause e = subst (λ (o : Option Entry). IfSome o (λ _. HasCause faults faults')) tried cause
  disk_caused followed.Memory came tried faults faults' cause e = absurd (cc)
  disk_caused (followed.Refused why) came tried faults faults' cause e = absurd (cc)

  -- and after other ends nothing was tried
  none_tried : (how : Followed) (came : HasFollowed how old new es rest rest' text text') → TriesFollowing how old new es rest rest' text text' came attempt → IsFalse (is_disk_fault (status_of_followed how)) → attempt ≡ None
  none_tried followed.Done came tried sound = tried
  none_tried followed.ReadFault came tried sound = tried
  none_tried followed.WriteFault came tried sound = tried
  none_tried followed.DiskFault came tried sound = absurd (true≢false sound)
  none_tried followed.Memory came tried sound = tried
  none_tried (followed.Refused why) came tried sound = tried

-- ---- the call
module _ (c : ProgramCall) (head n : ℕ) (old new : Engine) (how : Followed) (begun : IsBegun (state_when_opened old.versions old.generation) c.before.disk (engine_disk old) head) (is : c.status ≡ status_of_followed how) (after : c.after.disk ≡ engine_disk new)
    (came : HasFollowed how old new c.entries c.before.rest c.after.rest c.before.text c.after.text) (attempt : Option Entry) (tried : TriesFollowing how old new c.entries c.before.rest c.after.rest c.before.text c.after.text came attempt)
    (keeps : KeepsLandings old new c.entries attempt) where
  abbrev s : State
  s = state_when_opened old.versions old.generation

  followed_entries : KeepsEntries s (engine_disk old) c.after.disk c.entries attempt
  followed_entries = subst (λ (d : DiskView). KeepsEntries s (engine_disk old) d c.entries attempt) (sym after) (kept-KeepsEntries (beginning old) c.entries attempt new keeps.kept keeps.grows keeps.legal keeps.tried)

  pub followed_keeps : FilesStandForOne → DamageIsNoVersions → InputsDecide → IsDatedDisk c.before.disk → c.asks ≡ Some (mode.Follow n) → c.start ≡ Some head
      → ((how ≡ followed.Done → ⊥) → (how ≡ followed.WriteFault → ⊥) → c.after.sink_faults ≡ c.before.sink_faults)
      → (how ≡ followed.ReadFault → HasCause c.before.source_faults c.after.source_faults) → (how ≡ followed.WriteFault → HasCause c.before.sink_faults c.after.sink_faults)
      → c.before.source_faults ≤ c.after.source_faults → c.before.sink_faults ≤ c.after.sink_faults → KeepsPromises c
  followed_keeps one none_stand decide dated asks start silent read write source sink =
      let kept = followed_entries in
      let goes = kept_goes s (engine_disk old) c.after.disk c.entries attempt kept in
      let causes : HasCauses c = record {
        read = λ e. read (read_told how (sym is ∙ e));
        write = λ e. write (write_told how (sym is ∙ e));
        disk = λ e. rose c head s (engine_disk old) begun goes (disk_caused old new c.entries c.before.rest c.after.rest c.before.text c.after.text attempt how came tried old.faults c.after.disk.faults kept.cause (sym is ∙ e));
        calm = λ e. calm_since c head s (engine_disk old) begun goes
            (kept.calm (none_tried old new c.entries c.before.rest c.after.rest c.before.text c.after.text attempt how came tried (subst (λ (st : Status). IsFalse (is_disk_fault st)) (sym e ∙ is) refl)));
      } in
      let tells : TellsEnd c = record { usage = λ e. no_usage how (sym is ∙ e); damage = λ side at e. no_damage how side at (sym is ∙ e); causes = causes } in
      opened_keeps c head s (engine_disk old) begun goes none_stand (mode.Follow n) asks refl (λ other. absurd (other refl)) start tells
      (subst (λ (o : Option ℕ). IfSome o (IsFollowedCall c)) (sym start) (record {
        old = old;
        new = new;
        begun = begun;
        after = after;
        how = how;
        status_is = is;
        came = came;
        leads = keeps.leads;
        attempt = attempt;
        tried = tried;
        kept = kept;
        called = opened_called c head s (engine_disk old) attempt begun kept dated;
        stands = λ sound. opened_stands c head s (engine_disk old) attempt begun kept one (none_tried old new c.entries c.before.rest c.after.rest c.before.text c.after.text attempt how came tried (subst (λ st. IsFalse (is_disk_fault st)) is sound));
        decided = λ input told. decide how old new c.entries input c.after.rest c.before.text c.after.text (subst (λ (r : Option (List ℕ)). HasFollowed how old new c.entries r c.after.rest c.before.text c.after.text) told came);
        silent = silent;
        complete = steady_ends c _ causes (λ r w d. ended_well c.status how is r w d);
      })) source sink
