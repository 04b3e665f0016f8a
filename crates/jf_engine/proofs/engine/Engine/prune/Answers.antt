-- A floor is one more record, whose standing has the later floor.
use Rattle.std.proofs.Common.{◌≡◌, ◌≤◌, [], ◌∷◌, ◌++◌, Some, subst, sym, ◌∙◌, ap, refl, rules}
use Rattle.jf_model.specs.Versions.{versions_from_floor}
use Rattle.jf_disk.specs.Disk.{History}
use Rattle.jf_codec.specs.declared.format.Format.TheVariants as format
use Rattle.jf_payload.specs.declared.records.Record.TheVariants as «record»
use Rattle.jf_payload.specs.Spelling.{record_bytes}
use Rattle.jf_standing.specs.Standing.{Standing, versions_of, with_floor}
use Rattle.jf_standing.specs.FormatLaws.{standing_in}
use Rattle.jf_files.specs.Steps.{Prunes, Succeeds, StopsWell}
use Rattle.jf_engine.specs.Engines.{Engine}
use Rattle.jf_engine.specs.Kept.{KeepsStandingFiles}
use Rattle.jf_engine.proofs.Records.{appended, floors_lead}
use Rattle.jf_engine.proofs.Keeping.{lead_after, step_stops, step_succeeds, appended_keeps, generation-push, on_same, unfailed}
use Rattle.jf_engine.proofs.engine.Engine.prune.Goals as goal

pub append-requires-clause-framed : goal.append-requires-clause-framed
append-requires-clause-framed g c = λ κs within. (2, record_bytes format.Two («record».Floor c.args.floor), c.encode_floor.ensures format.Two)

pub append-requires-clause-in_step : goal.append-requires-clause-in_step
append-requires-clause-in_step g c = λ κs within h told. let k = (c.self.invariant.2 c.if-self.false).holds h told in (k.held, k.in_step)

pub invariant_of-self : goal.invariant_of-self
invariant_of-self g c = (
  c.self.invariant.0,
  c.self.invariant.1,
  λ whole.
      let s = c.self.inside.directory in
      let fmt = c.self.inside.format in
      let p = c.self.inside.pair in
      let k = c.self.invariant.2 c.if-self.false in
      let low = subst (λ (e : Engine). e.versions.floor ≤ c.args.floor) (sym c.self.view_is) c.requires.low in
      let high = subst (λ (e : Engine). c.args.floor ≤ e.versions.head) (sym c.self.view_is) c.requires.high in
      let kept = appended_keeps _ _ p c.append.new.self fmt s (with_floor c.args.floor s) c.self.inside.generation (appended fmt p.offset («record».Floor c.args.floor)) k c.in-Ok.ensures.calls.unknown (c.in-Ok.ensures.rest.1 ∙ k.live) (unfailed _ c.in-Ok.ensures.failed.0)
      (λ rs leads. (floors_lead c.floors_follow.ensures c.formats_are_sound.ensures c.formats_follow.ensures rs fmt p.offset s c.args.floor leads c.know.ensures.sound low high).0)
      (λ h told. c.in-Ok.ensures.ok h (k.holds h told).held 2 (record_bytes fmt («record».Floor c.args.floor)) told (k.holds h told).in_step (c.encode_floor.ensures fmt)) in
      subst (λ (t : Standing). KeepsStandingFiles (g.D.Disk.history c.append.new.disk) c.append.new.self fmt t c.self.inside.generation) (sym c.prune.ensures) kept,
)

pub returns-in-Ok : goal.returns-in-Ok
returns-in-Ok g c =
    let versions_are : versions_of c.prune.new.self ≡ versions_from_floor c.args.floor c.args.self.now.versions =
    let s = c.self.inside.directory in
    let low = subst (λ (e : Engine). e.versions.floor ≤ c.args.floor) (sym c.self.view_is) c.requires.low in
    let high = subst (λ (e : Engine). c.args.floor ≤ e.versions.head) (sym c.self.view_is) c.requires.high in
    subst (λ (e : Engine). versions_of c.prune.new.self ≡ versions_from_floor c.args.floor e.versions) c.self.view_is (ap versions_of c.prune.ensures ∙ (c.floors_prune.ensures format.Two s c.args.floor c.know.ensures.sound low high).1) in
    let disk : (h : History) → c.args.self.now.history ≡ Some h → (x : History) × (g.D.Disk.history c.append.new.disk ≡ Some x) × Succeeds (Prunes c.args.floor) h x c.args.self.now.versions = λ h told.
    let s = c.self.inside.directory in
    let fmt = c.self.inside.format in
    let p = c.self.inside.pair in
    let f = c.args.floor in
    let y = appended fmt p.offset («record».Floor f) in
    let low = subst (λ (e : Engine). e.versions.floor ≤ f) (sym c.self.view_is) c.requires.low in
    let high = subst (λ (e : Engine). f ≤ e.versions.head) (sym c.self.view_is) c.requires.high in
    subst (λ (e : Engine). e.history ≡ Some h → (x : History) × (g.D.Disk.history c.append.new.disk ≡ Some x) × Succeeds (Prunes f) h x e.versions) c.self.view_is
    (λ told.
    let k = (c.self.invariant.2 c.if-self.false).holds h told in
    let payload = record_bytes fmt («record».Floor f) in
    let stop = c.in-Ok.ensures.stop h k.held 2 payload told k.in_step (c.encode_floor.ensures fmt) in
    let ok = c.in-Ok.ensures.ok h k.held 2 payload told k.in_step (c.encode_floor.ensures fmt) in
    let both = on_same _ _ _ stop ok in
    let leads = floors_lead c.floors_follow.ensures c.formats_are_sound.ensures c.formats_follow.ensures k.held fmt p.offset s f k.leads c.know.ensures.sound low high in
    let after = lead_after c.formats_are_sound.ensures c.standings_have_versions.ensures (versions_from_floor f) (k.held ++ y ∷ []) fmt fmt s (with_floor f s) c.know.ensures.sound leads in (
      both.0,
      both.1,
      step_succeeds c.formats_are_sound.ensures c.standings_have_versions.ensures c.succeeds_by_records.ensures (Prunes f) h both.0 p c.append.new.self fmt s c.self.inside.generation k (k.held ++ y ∷ []) c.know.ensures.sound after both.2.0 both.2.1
          (generation-push k.held y fmt (standing_in fmt s) k.leads ∙ k.numbered) (y, refl),
    )) told in
    record {
      step = record {
        could = search rules;
        versions_are = versions_are;
        generation_is = search rules;
        whole = search rules;
        least = search rules;
        most = search rules;
        faults = search rules;
        unknown = search rules;
        began = search rules;
        dated = search rules;
        disk = disk;
      };
    }

pub returns-in-Err : goal.returns-in-Err
returns-in-Err g c =
    let disk : (h : History) → c.args.self.now.history ≡ Some h → (x : History) × (g.D.Disk.history c.append.new.disk ≡ Some x) × StopsWell (Prunes c.args.floor) h x c.args.self.now.versions = λ h told.
    let s = c.self.inside.directory in
    let fmt = c.self.inside.format in
    let p = c.self.inside.pair in
    let f = c.args.floor in
    let y = appended fmt p.offset («record».Floor f) in
    let low = subst (λ (e : Engine). e.versions.floor ≤ f) (sym c.self.view_is) c.requires.low in
    let high = subst (λ (e : Engine). f ≤ e.versions.head) (sym c.self.view_is) c.requires.high in
    subst (λ (e : Engine). e.history ≡ Some h → (x : History) × (g.D.Disk.history c.append.new.disk ≡ Some x) × StopsWell (Prunes f) h x e.versions) c.self.view_is
    (λ told.
    let k = (c.self.invariant.2 c.if-self.false).holds h told in
    let stop = c.in-Err.ensures.stop h k.held 2 (record_bytes fmt («record».Floor f)) told k.in_step (c.encode_floor.ensures fmt) in
    let leads = floors_lead c.floors_follow.ensures c.formats_are_sound.ensures c.formats_follow.ensures k.held fmt p.offset s f k.leads c.know.ensures.sound low high in
    let after = lead_after c.formats_are_sound.ensures c.standings_have_versions.ensures (versions_from_floor f) (k.held ++ y ∷ []) fmt fmt s (with_floor f s) c.know.ensures.sound leads in
    (stop.0, stop.1, step_stops c.formats_are_sound.ensures c.standings_have_versions.ensures c.stops_by_records.ensures (Prunes f) h stop.0 p fmt s c.self.inside.generation k (k.held ++ y ∷ []) c.know.ensures.sound after stop.2)) told in
    record {
      step = record {
        could = search rules;
        versions_are = search rules;
        generation_is = search rules;
        broken = search rules;
        later = search rules;
        most = search rules;
        faults = search rules;
        cause = search rules;
        unknown = search rules;
        began = search rules;
        disk = disk;
      };
    }
