use Rattle.std.proofs.Common.{◌≡◌, false, ap, refl, sym, ◌∙◌, le_refl, subst}
use Rattle.std.specs.Prelude.{IfSome}
use Rattle.jf_disk.specs.Crashes.{LeavesFiles}
use Rattle.jf_engine.specs.Engines.{Engine}
use Rattle.jf_engine.specs.Openings.{DiskView, HasFoundExisting, HasFoundNoStore, HasRefused, HasReopened, OnHistories, store_in}
use Rattle.jf_engine.specs.declared.existing.Existing.{Existing}
use Rattle.jf_engine.specs.declared.existing.Existing.TheVariants as existing
use Rattle.jf_run.specs.Calls.{disk_of, engine_disk}
use Rattle.jf_run.proofs.Absent.{absent_keeps}
use Rattle.jf_run.proofs.Closed.{refused_keeps}
use Rattle.jf_run.proofs.existing.find_store.Goals as goal

-- the store that was found is whole
store_whole : {D : Type 0} (x : Existing D) (e : Engine) → x ≡ existing.Store e → IfSome (store_in x) (λ s. s.broken ≡ false) → e.broken ≡ false
store_whole {D} x e is whole = subst (λ (y : Existing D). IfSome (store_in y) (λ s. s.broken ≡ false)) is whole

pub returns-in-Ok-Store-clause-opened : goal.returns-in-Ok-Store-clause-opened
returns-in-Ok-Store-clause-opened g c =
    let found : HasReopened (disk_of g.D.Disk c.args.disk) (engine_disk c.in-Ok-Store.engine) c.in-Ok-Store.engine.versions c.in-Ok-Store.engine.generation =
    subst (HasFoundExisting g.D.Disk (disk_of g.D.Disk c.args.disk)) c.in-Ok-Store.field-0-is c.in-Ok-Store.ensures.found in
    record {
      begun = record {
        sound = c.know.ensures.sound;
        state = refl;
        head_is = refl;
        dated = c.know.ensures.dated;
        opening = found.opened;
      };
      held = λ unlike. found.recorded;
      whole = store_whole c.in-Ok-Store.field-0 c.in-Ok-Store.engine c.in-Ok-Store.field-0-is c.in-Ok-Store.ensures.whole;
    }

pub returns-in-Ok-Absent-clause-refused : goal.returns-in-Ok-Absent-clause-refused
returns-in-Ok-Absent-clause-refused g c =
    let r = c.without_store.ensures in
    let before = disk_of g.D.Disk c.args.disk in
    let found : HasFoundNoStore before (disk_of g.D.Disk c.in-Ok-Absent.disk) = subst (HasFoundExisting g.D.Disk before) c.in-Ok-Absent.field-0-is c.in-Ok-Absent.ensures.found in
    record {
      start_is = r.start;
      kept = λ devices. absent_keeps _ c.args.mode.now c.files_stand_for_sound.ensures c.damage_is_no_versions.ensures r.start r.entries refl c.requires.existing (r.status ∙ c.no_store.ensures)
          (subst (λ (d : DiskView). HasFoundNoStore before d) (sym (ap (disk_of g.D.Disk) r.disk)) found) refl;
    }

pub returns-in-Err-clause-refused : goal.returns-in-Err-clause-refused
returns-in-Err-clause-refused g c =
    let r = c.without_store-in-Err.ensures in
    let before = disk_of g.D.Disk c.args.disk in
    let same = sym (ap (disk_of g.D.Disk) r.disk) in
    record {
      start_is = r.start;
      kept = λ devices. refused_keeps _ c.args.mode.now c.in-Err.field-0.why c.files_stand_for_sound.ensures c.damage_is_no_versions.ensures r.start r.entries refl c.requires.opens (r.status ∙ c.of_refusal.ensures)
          (subst (λ (d : DiskView). HasRefused before d c.in-Err.field-0.why) same c.in-Err.ensures.refused)
          (λ unlike. subst (λ (d : DiskView). OnHistories before.history d.history LeavesFiles) same c.in-Err.ensures.left) (le_refl _) (le_refl _);
    }
