use Rattle.std.proofs.Common.{ap, refl, sym, ◌∙◌, le_refl, subst}
use Rattle.jf_engine.specs.Openings.{HasRefused, DiskView}
use Rattle.jf_run.specs.Calls.{disk_of}
use Rattle.jf_run.proofs.Closed.{refused_keeps}
use Rattle.jf_run.proofs.over_store.open_store.Goals as goal

pub returns-in-Ok-clause-opened : goal.returns-in-Ok-clause-opened
returns-in-Ok-clause-opened g c = record {
  begun = record {
    sound = c.know.ensures.sound;
    state = refl;
    head_is = refl;
    dated = c.know.ensures.dated;
    opening = c.in-Ok.ensures.opened;
  };
  held = λ unlike. absurd (unlike c.requires.may);
  whole = c.in-Ok.ensures.whole;
}

pub returns-in-Err-clause-refused : goal.returns-in-Err-clause-refused
returns-in-Err-clause-refused g c =
    let r = c.without_store.ensures in
    record {
      start_is = r.start;
      kept = λ devices. refused_keeps _ c.args.mode.now c.in-Err.field-0.why c.files_stand_for_sound.ensures c.damage_is_no_versions.ensures r.start r.entries refl c.requires.opens (r.status ∙ c.of_refusal.ensures)
          (subst (λ (d : DiskView). HasRefused (disk_of g.D.Disk c.args.disk) d c.in-Err.field-0.why) (sym (ap (disk_of g.D.Disk) r.disk)) c.in-Err.ensures.refused) (λ unlike. absurd (unlike c.requires.may)) (le_refl _) (le_refl _);
    }
