-- An import is a checkpoint alone, of the standing of one version.
use Rattle.std.proofs.Common.{◌≡◌, ◌≤◌, ◌<◌, ◌+◌, ◌-◌, ◌^◌, [], ◌∷◌, length, Some, subst, sym, ◌∙◌, refl, rules, arith}
use Rattle.std.specs.FinMap as fin
use Rattle.jf_hash.specs.Maps.{map_of_entries}
use Rattle.jf_model.specs.Versions.{imported_versions, newest}
use Rattle.jf_disk.specs.Disk.{History, reads}
use Rattle.jf_frame.specs.Framed.{LogRecord}
use Rattle.jf_frame.specs.Framing.{IsFrame, number_of}
use Rattle.jf_pair.specs.Files.{HoldsLive, generation_of}
use Rattle.jf_pair.proofs.PairLaws.{in_step_holds, in_step_one}
use Rattle.jf_codec.specs.declared.format.Format.TheVariants as format
use Rattle.jf_payload.specs.Spelling.{record_bytes}
use Rattle.jf_standing.specs.Standing.{versions_of}
use Rattle.jf_standing.specs.Building.{checkpoint_of, imported_standing}
use Rattle.jf_standing.proofs.VersionsOf.{newest-head}
use Rattle.jf_files.specs.Steps.{Imports, Succeeds, StopsWell}
use Rattle.jf_engine.specs.EngineSteps.{CanStep}
use Rattle.jf_engine.specs.Engines.{Engine}
use Rattle.jf_engine.specs.Kept.{HoldImported, checkpoint_at_start}
use Rattle.jf_engine.proofs.Imports.{ordered-checkpoint}
use Rattle.jf_engine.proofs.Records.{checkpoint_leads, checkpoint_frame-is, older-generation}
use Rattle.jf_engine.proofs.Keeping.{lead_after, step_stops, step_succeeds, switched_keeps, on_same, unfailed}
use Rattle.jf_engine.proofs.engine.Engine.import.Goals as goal

pub switch-requires-clause-checkpoint : goal.switch-requires-clause-checkpoint
switch-requires-clause-checkpoint g c = λ κs within kind payload is.
    let s = c.in_ok-directory.directory in
    let n = c.self.inside.generation + 1 in
    let frame = subst (λ bytes. IsFrame bytes 5 (record_bytes format.Two (checkpoint_of n s))) (sym c.as_slice.ensures) c.in_ok-frame.ensures.frame in
    let known = checkpoint_frame-is c.checkpoints_are_numbered.ensures s n c.as_slice.result.now c.in_ok-frame.ensures.spelled frame kind payload is in
    (known.0, known.1)

pub switch-requires-clause-in_step : goal.switch-requires-clause-in_step
switch-requires-clause-in_step g c = λ κs within h told. let k = (c.self.invariant.2 c.if-self.false).holds h told in (k.held, k.in_step)

pub switch-requires-clause-newer : goal.switch-requires-clause-newer
switch-requires-clause-newer g c = λ κs within h rs kind payload told in_step is live.
    let s = c.in_ok-directory.directory in
    let n = c.self.inside.generation in
    let k = (c.self.invariant.2 c.if-self.false).holds h told in
    let frame = subst (λ bytes. IsFrame bytes 5 (record_bytes format.Two (checkpoint_of (n + 1) s))) (sym c.as_slice.ensures) c.in_ok-frame.ensures.frame in
    let known = checkpoint_frame-is c.checkpoints_are_numbered.ensures s (n + 1) c.as_slice.result.now c.in_ok-frame.ensures.spelled frame kind payload is in
    let same = in_step_one c.self.inside.pair k.held rs h.now k.in_step in_step in
    subst (λ xs. generation_of xs < number_of payload) same (older-generation k.held c.self.inside.format _ n (number_of payload) k.leads k.numbered known.2)

pub invariant_of-self : goal.invariant_of-self
invariant_of-self g c =
    let s = c.in_ok-directory.directory in
    let n = c.self.inside.generation + 1 in
    let first : 1 ≤ n = omega arith in
    let last : n ≤ 2 ^ 64 - 2 = search rules in (
      first,
      last,
      λ whole.
          let frame = subst (λ bytes. IsFrame bytes 5 (record_bytes format.Two (checkpoint_of n s))) (sym c.as_slice.ensures) c.in_ok-frame.ensures.frame in
          let leads = checkpoint_leads c.checkpoints_follow.ensures c.checkpoints_are_numbered.ensures s n c.know-2.ensures.read c.know-2.ensures.sound c.in_ok-frame.ensures.spelled in
          switched_keeps (g.D.Disk.history c.self.inside.disk) (g.D.Disk.history c.switch.new.disk) c.switch.new.self format.Two s n (checkpoint_at_start n s) c.in-Ok.ensures.calls.unknown c.in-Ok.ensures.side.1 (unfailed _ c.in-Ok.ensures.failed.0) leads.0 leads.1
          (λ h told. c.in-Ok.ensures.ok h 5 (record_bytes format.Two (checkpoint_of n s)) told frame),
    )

pub returns-in-Ok-clause-step : goal.returns-in-Ok-clause-step
returns-in-Ok-clause-step g c =
    let disk : (h : History) → c.args.self.now.history ≡ Some h → (x : History) × (g.D.Disk.history c.switch.new.disk ≡ Some x) × Succeeds (Imports c.args.version c.args.entries.now) h x c.args.self.now.versions = λ h told.
    let s = c.self.inside.directory in
    let s' = c.in_ok-directory.directory in
    let fmt = c.self.inside.format in
    let p = c.self.inside.pair in
    let n = c.self.inside.generation in
    let step = Imports c.args.version c.args.entries.now in
    let x = checkpoint_at_start (n + 1) s' in
    let formats = c.formats_are_sound.ensures in
    subst (λ (e : Engine). e.history ≡ Some h → (t : History) × (g.D.Disk.history c.switch.new.disk ≡ Some t) × Succeeds step h t e.versions) c.self.view_is
    (λ told.
    let k = (c.self.invariant.2 c.if-self.false).holds h told in
    let payload = record_bytes format.Two (checkpoint_of (n + 1) s') in
    let frame = subst (λ bytes. IsFrame bytes 5 payload) (sym c.as_slice.ensures) c.in_ok-frame.ensures.frame in
    let stop = c.in-Ok.ensures.stop h k.held 5 payload told k.in_step frame in
    let ok = c.in-Ok.ensures.ok h 5 payload told frame in
    let both = on_same _ _ _ stop ok in
    let leads = checkpoint_leads c.checkpoints_follow.ensures c.checkpoints_are_numbered.ensures s' (n + 1) c.know-2.ensures.read c.know-2.ensures.sound c.in_ok-frame.ensures.spelled in
    let after = lead_after formats c.standings_have_versions.ensures (λ v. imported_versions c.args.version (map_of_entries c.args.entries.now)) (x ∷ []) fmt format.Two s s' c.know.ensures.sound (leads.0, (formats format.Two s' c.know-2.ensures.sound).1 ∙ c.in_ok-directory.ensures.versions) in
    (both.0, both.1, step_succeeds formats c.standings_have_versions.ensures c.succeeds_by_records.ensures step h both.0 p c.switch.new.self fmt s n k (x ∷ []) c.know.ensures.sound after both.2.0 both.2.1 leads.1 (x, refl, refl))) told in
    let first : c.self.inside.directory.head ≡ 0 = search rules in
    let none : fin.len c.newest.result.now.map ≡ 0 = search rules in
    let empty : fin.len (newest (versions_of c.self.inside.directory)) ≡ 0 = subst (λ m. fin.len m ≡ 0) (c.newest.ensures.map ∙ sym (newest-head c.self.inside.directory)) none in
    let room : c.self.inside.generation < 2 ^ 64 - 2 = search rules in
    let few : length c.args.entries.now ≤ 2 ^ 62 = search rules in
    record {
      could = subst (CanStep (Imports c.args.version c.args.entries.now)) c.self.view_is (c.if-self.false, ((first, empty), room, few));
      versions_are = search rules;
      generation_is = search rules;
      whole = search rules;
      least = search rules;
      most = search rules;
      faults = search rules;
      unknown = search rules;
      began = search rules;
      dated = search rules;
      disk = disk;
    }

pub returns-in-Ok-clause-checkpoint : goal.returns-in-Ok-clause-checkpoint
returns-in-Ok-clause-checkpoint g c = λ h told.
    let s' = c.in_ok-directory.directory in
    let version = c.args.version in
    let es = c.args.entries.now in
    subst (λ (e : Engine). e.history ≡ Some h → (t : History) × (g.D.Disk.history c.switch.new.disk ≡ Some t) × HoldImported (reads t) (e.generation + 1) version es) c.self.view_is
    (λ told.
    let n = c.self.inside.generation + 1 in
    let payload = record_bytes format.Two (checkpoint_of n s') in
    let frame = subst (λ bytes. IsFrame bytes 5 payload) (sym c.as_slice.ensures) c.in_ok-frame.ensures.frame in
    let ok = c.in-Ok.ensures.ok h 5 payload told frame in
    let same = ordered-checkpoint n s' (imported_standing format.Two version (map_of_entries es)) c.in_ok-directory.ensures.standing c.know-2.ensures.read c.know-2.ensures.sound in
    (ok.0, ok.1, subst (λ (x : LogRecord). HoldsLive (reads ok.0) (x ∷ [])) same (in_step_holds c.switch.new.self (checkpoint_at_start n s' ∷ []) ok.0 ok.2))) told

pub returns-in-Err-clause-step : goal.returns-in-Err-clause-step
returns-in-Err-clause-step g c =
    let disk : (h : History) → c.args.self.now.history ≡ Some h → (x : History) × (g.D.Disk.history c.switch.new.disk ≡ Some x) × StopsWell (Imports c.args.version c.args.entries.now) h x c.args.self.now.versions = λ h told.
    let s = c.self.inside.directory in
    let s' = c.in_ok-directory.directory in
    let fmt = c.self.inside.format in
    let p = c.self.inside.pair in
    let n = c.self.inside.generation in
    let step = Imports c.args.version c.args.entries.now in
    let x = checkpoint_at_start (n + 1) s' in
    let formats = c.formats_are_sound.ensures in
    subst (λ (e : Engine). e.history ≡ Some h → (t : History) × (g.D.Disk.history c.switch.new.disk ≡ Some t) × StopsWell step h t e.versions) c.self.view_is
    (λ told.
    let k = (c.self.invariant.2 c.if-self.false).holds h told in
    let payload = record_bytes format.Two (checkpoint_of (n + 1) s') in
    let frame = subst (λ bytes. IsFrame bytes 5 payload) (sym c.as_slice.ensures) c.in_ok-frame.ensures.frame in
    let stop = c.in-Err.ensures.stop h k.held 5 payload told k.in_step frame in
    let leads = checkpoint_leads c.checkpoints_follow.ensures c.checkpoints_are_numbered.ensures s' (n + 1) c.know-2.ensures.read c.know-2.ensures.sound c.in_ok-frame.ensures.spelled in
    let after = lead_after formats c.standings_have_versions.ensures (λ v. imported_versions c.args.version (map_of_entries c.args.entries.now)) (x ∷ []) fmt format.Two s s' c.know.ensures.sound (leads.0, (formats format.Two s' c.know-2.ensures.sound).1 ∙ c.in_ok-directory.ensures.versions) in
    (stop.0, stop.1, step_stops formats c.standings_have_versions.ensures c.stops_by_records.ensures step h stop.0 p fmt s n k (x ∷ []) c.know.ensures.sound after stop.2)) told in
    let first : c.self.inside.directory.head ≡ 0 = search rules in
    let none : fin.len c.newest.result.now.map ≡ 0 = search rules in
    let empty : fin.len (newest (versions_of c.self.inside.directory)) ≡ 0 = subst (λ m. fin.len m ≡ 0) (c.newest.ensures.map ∙ sym (newest-head c.self.inside.directory)) none in
    let room : c.self.inside.generation < 2 ^ 64 - 2 = search rules in
    let few : length c.args.entries.now ≤ 2 ^ 62 = search rules in
    record {
      could = subst (CanStep (Imports c.args.version c.args.entries.now)) c.self.view_is (c.if-self.false, ((first, empty), room, few));
      versions_are = search rules;
      generation_is = search rules;
      broken = search rules;
      later = search rules;
      most = search rules;
      faults = search rules;
      cause = search rules;
      unknown = search rules;
      began = search rules;
      disk = disk;
    }
