-- What a call promises that opened the store and changed nothing.
use Rattle.std.proofs.Common.{◌≡◌, refl, sym, subst, ℕ, ◌≤◌, [], List, Some, None, IsTrue, le_refl}
use Rattle.jf_model.specs.Versions.{IsVersions}
use Rattle.jf_model.specs.States.{State, state_when_opened}
use Rattle.jf_model.specs.declared.entries.Entry.{Entry}
use Rattle.jf_disk.specs.Disk.{History}
use Rattle.jf_disk.proofs.MomentLaws.{same_extends}
use Rattle.jf_files.specs.Laws.{FilesStandForOne, DamageIsNoVersions}
use Rattle.jf_engine.specs.Engines.{Engine, IsSettledOn}
use Rattle.jf_engine.specs.Openings.{DiskView}
use Rattle.jf_words.specs.Shapes.{shape_of}
use Rattle.jf_words.specs.declared.modes.Mode.{Mode}
use Rattle.jf_run.specs.Calls.{ProgramCall, engine_disk}
use Rattle.jf_run.specs.Runs.{IsBegun, IsDatedDisk, KeepsEntries}
use Rattle.jf_run.specs.Restoring.{StaysHeld}
use Rattle.jf_run.specs.ReadOnly.{IsReadOnlyCall}
use Rattle.jf_run.specs.Promises.{KeepsPromises, Owes}
use Rattle.jf_run.proofs.Opened.{GoesOnDisk, TellsEnd, opened_keeps, opened_stands}
use Rattle.jf_run.proofs.RunsLaws.{nothing_kept}

-- ---- the files
-- after an opening that no call on the disk follows they represent the versions from before it
held : (c : ProgramCall) (head : ℕ) (s : State) → IsBegun s c.before.disk c.after.disk head → StaysHeld c.before.disk.history c.after.disk.history s.all s.generation
held c head s begun = record {
  settled = begun.opening.settled;
  stops = λ h told. let opening = begun.opening.disk h told in (opening.0, opening.1, λ calm. opening.2.stops s.all calm (begun.opening.found h told).0);
}

-- a call without entries that hands back the disk of the store that it opened
pub read_only : (c : ProgramCall) (head : ℕ) (e : Engine) → IsVersions e.versions → IsDatedDisk (engine_disk e) → ((h : History) → e.history ≡ Some h → IsSettledOn h e.versions e.generation)
    → IsBegun (state_when_opened e.versions e.generation) c.before.disk (engine_disk e) head → FilesStandForOne → c.after.disk ≡ engine_disk e → c.entries ≡ [] → IsReadOnlyCall c (state_when_opened e.versions e.generation) head
read_only c head e sound dated settled begun one same none =
    let s = state_when_opened e.versions e.generation in
    let old = engine_disk e in
    let over : IsBegun s c.before.disk c.after.disk head = subst (λ (d : DiskView). IsBegun s c.before.disk d head) (sym same) begun in
    let kept : KeepsEntries s old old c.entries None = subst (λ (es : List Entry). KeepsEntries s old old es None) (sym none) (nothing_kept e sound dated settled) in
    record {
      begun = over;
      files = held c head s over;
      entries = none;
      stands = opened_stands c head s c.after.disk None over (subst (λ (d : DiskView). KeepsEntries s d d c.entries None) (sym same) kept) one refl;
    }

-- ---- the call
-- what is promised, if the call owes nothing more in its mode
pub read_only_keeps : (c : ProgramCall) (head : ℕ) (s : State) → IsReadOnlyCall c s head → DamageIsNoVersions → (m : Mode) → c.asks ≡ Some m → IsTrue (shape_of m).opens → c.start ≡ Some head → TellsEnd c → Owes m c
    → c.before.source_faults ≤ c.after.source_faults → c.before.sink_faults ≤ c.after.sink_faults → KeepsPromises c
read_only_keeps c head s only none_stand m asks opens start tells owed source sink =
    let disk = c.after.disk in
    let goes : GoesOnDisk disk disk c.entries =
    subst (λ (es : List Entry). GoesOnDisk disk disk es) (sym only.entries) (record { extends = λ h told. (h, told, same_extends h); landings = le_refl disk.moment; faults = le_refl disk.faults }) in
    opened_keeps c head s disk only.begun goes none_stand m asks opens (λ other. only.entries) start tells owed source sink
