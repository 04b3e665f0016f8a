-- Landings are one more record, whose standing has all new versions.
use Rattle.std.proofs.Common.{◌≡◌, ◌+◌, ◌-◌, ◌^◌, ◌≤◌, length, arith, List, [], ◌∷◌, ◌++◌, None, Some, subst, sym, ◌∙◌, ap, refl, rules}
use Rattle.std.specs.FinMap as fin
use Rattle.jf_hash.specs.Roots.{root}
use Rattle.jf_model.specs.Versions.{newest, land_all}
use Rattle.jf_disk.specs.Disk.{History}
use Rattle.jf_frame.specs.Framing.{IsFrame}
use Rattle.jf_codec.specs.declared.format.Format.TheVariants as format
use Rattle.jf_payload.specs.declared.records.Commit.{Commit}
use Rattle.jf_payload.specs.Spelling.{kind_of, record_bytes}
use Rattle.jf_standing.specs.Standing.{Standing, versions_of}
use Rattle.jf_standing.specs.Building.{landings_of, all_landed}
use Rattle.jf_standing.specs.FormatLaws.{standing_in}
use Rattle.jf_standing.proofs.VersionsOf.{newest-head}
use Rattle.jf_files.specs.Steps.{Lands, Succeeds, StopsWell}
use Rattle.jf_files.specs.StepLaws.{landed_record}
use Rattle.jf_engine.specs.Engines.{Engine}
use Rattle.jf_engine.specs.Announced.{landed_root, IsAnnounced}
use Rattle.jf_engine.specs.EngineSteps.{CanStep}
use Rattle.jf_engine.specs.Kept.{KeepsStandingFiles}
use Rattle.jf_engine.proofs.Records.{appended, landings_lead}
use Rattle.jf_engine.proofs.Rooted.{landed-root, root_announced}
use Rattle.jf_engine.proofs.Keeping.{lead_after, step_stops, step_succeeds, appended_keeps, generation-push, on_same, unfailed}
use Rattle.jf_engine.proofs.engine.Engine.land_each.Goals as goal

pub append-requires-clause-in_step : goal.append-requires-clause-in_step
append-requires-clause-in_step g c = λ κs within h told. let k = (c.self.invariant.2 c.if-self.false).holds h told in (k.held, k.in_step)

pub invariant_of-self-in-Ok-append : goal.invariant_of-self-in-Ok-append
invariant_of-self-in-Ok-append g c = (
  c.self.invariant.0,
  c.self.invariant.1,
  λ whole.
      let s = c.self.inside.directory in
      let fmt = c.self.inside.format in
      let p = c.self.inside.pair in
      let bs = c.args.batches.now in
      let r = landed_record (landings_of format.Two s bs) in
      let w = c.in_ok-landings.ensures in
      let frame = subst (λ bytes. IsFrame bytes (kind_of fmt r) (record_bytes fmt r)) (sym c.as_slice.ensures) (subst (λ (cs : List Commit). IsFrame c.encode_landings.new.out (kind_of fmt (landed_record cs)) (record_bytes fmt (landed_record cs))) (c.deref-2.ensures.value ∙ w.written) c.in-Ok.ensures) in
      let k = c.self.invariant.2 c.if-self.false in
      let kept = appended_keeps _ _ p c.append.new.self fmt s (all_landed format.Two s bs) c.self.inside.generation (appended fmt p.offset r) k c.in-Ok-append.ensures.calls.unknown (c.in-Ok-append.ensures.rest.1 ∙ k.live) (unfailed _ c.in-Ok-append.ensures.failed.0)
      (λ rs leads. (landings_lead c.landings_follow.ensures c.formats_are_sound.ensures c.formats_group.ensures c.kept_is_spelled.ensures c.written_in_both.ensures rs fmt p.offset s bs leads c.know.ensures.read c.know.ensures.sound w.sound w.bounded.1 w.bounded.0 w.spelled).0)
      (λ h told. c.in-Ok-append.ensures.ok h (k.holds h told).held (kind_of fmt r) (record_bytes fmt r) told (k.holds h told).in_step frame) in
      subst (λ (t : Standing). KeepsStandingFiles (g.D.Disk.history c.append.new.disk) c.append.new.self fmt t c.self.inside.generation) (sym w.landed) kept,
)

pub returns-in-Ok-append-clause-answer : goal.returns-in-Ok-append-clause-answer
returns-in-Ok-append-clause-answer g c = (c.head-in-Ok-append.ensures, c.root.ensures ∙ ap root (c.newest-in-Ok-append.ensures.map ∙ sym (newest-head c.land_batches.new.directory)), c.moment.ensures)

pub returns-in-Ok-append-clause-step : goal.returns-in-Ok-append-clause-step
returns-in-Ok-append-clause-step g c =
    let w = c.in_ok-landings.ensures in
    let none : c.other_root.result ≡ None = search rules in
    let announced : IsAnnounced c.args.announced c.args.self.now.versions c.args.batches.now =
    subst (λ (e : Engine). IsAnnounced c.args.announced e.versions c.args.batches.now) c.self.view_is
    (root_announced c.groups_land.ensures c.self.inside.directory c.land_batches.new.directory c.args.batches.now c.know.ensures.read c.know.ensures.sound w.sound w.bounded.1 w.bounded.0 w.landed c.args.announced (c.other_root.ensures.none none)) in
    let disk : (h : History) → c.args.self.now.history ≡ Some h → (x : History) × (g.D.Disk.history c.append.new.disk ≡ Some x) × Succeeds (Lands c.args.batches.now) h x c.args.self.now.versions = λ h told.
    let s = c.self.inside.directory in
    let fmt = c.self.inside.format in
    let p = c.self.inside.pair in
    let bs = c.args.batches.now in
    let r = landed_record (landings_of format.Two s bs) in
    let w = c.in_ok-landings.ensures in
    let frame = subst (λ bytes. IsFrame bytes (kind_of fmt r) (record_bytes fmt r)) (sym c.as_slice.ensures) (subst (λ (cs : List Commit). IsFrame c.encode_landings.new.out (kind_of fmt (landed_record cs)) (record_bytes fmt (landed_record cs))) (c.deref-2.ensures.value ∙ w.written) c.in-Ok.ensures) in
    let y = appended fmt p.offset r in
    subst (λ (e : Engine). e.history ≡ Some h → (x : History) × (g.D.Disk.history c.append.new.disk ≡ Some x) × Succeeds (Lands bs) h x e.versions) c.self.view_is
    (λ told.
    let k = (c.self.invariant.2 c.if-self.false).holds h told in
    let stop = c.in-Ok-append.ensures.stop h k.held (kind_of fmt r) (record_bytes fmt r) told k.in_step frame in
    let ok = c.in-Ok-append.ensures.ok h k.held (kind_of fmt r) (record_bytes fmt r) told k.in_step frame in
    let both = on_same _ _ _ stop ok in
    let leads = landings_lead c.landings_follow.ensures c.formats_are_sound.ensures c.formats_group.ensures c.kept_is_spelled.ensures c.written_in_both.ensures k.held fmt p.offset s bs k.leads c.know.ensures.read c.know.ensures.sound w.sound w.bounded.1 w.bounded.0 w.spelled in
    let after = lead_after c.formats_are_sound.ensures c.standings_have_versions.ensures (land_all bs) (k.held ++ y ∷ []) fmt fmt s (all_landed format.Two s bs) c.know.ensures.sound leads in (
      both.0,
      both.1,
      step_succeeds c.formats_are_sound.ensures c.standings_have_versions.ensures c.succeeds_by_records.ensures (Lands bs) h both.0 p c.append.new.self fmt s c.self.inside.generation k (k.held ++ y ∷ []) c.know.ensures.sound after both.2.0 both.2.1
          (generation-push k.held y fmt (standing_in fmt s) k.leads ∙ k.numbered) (y, refl),
    )) told in
    let count : fin.len c.newest.result.now.map ≤ 2 ^ 62 = search rules in
    let small : fin.len (newest (versions_of c.self.inside.directory)) ≤ 2 ^ 62 = subst (λ m. fin.len m ≤ 2 ^ 62) (c.newest.ensures.map ∙ sym (newest-head c.self.inside.directory)) count in
    let below : c.self.inside.directory.head + length c.args.batches.now ≤ 2 ^ 64 - 2 = omega (arith, c.in_ok-landings.ensures.bounded.0) in (
      record {
        could = subst (CanStep (Lands c.args.batches.now)) c.self.view_is (c.if-self.false, (below, small));
        versions_are = search rules;
        generation_is = search rules;
        whole = search rules;
        least = search rules;
        most = search rules;
        faults = search rules;
        unknown = search rules;
        began = search rules;
        dated = search rules;
        disk = disk;
      },
      announced,
    )

pub returns-clause-step : goal.returns-clause-step
returns-clause-step g c =
    let w = c.in_ok-landings.ensures in
    let none : c.other_root.result ≡ None = search rules in
    let announced : IsAnnounced c.args.announced c.args.self.now.versions c.args.batches.now =
    subst (λ (e : Engine). IsAnnounced c.args.announced e.versions c.args.batches.now) c.self.view_is
    (root_announced c.groups_land.ensures c.self.inside.directory c.land_batches.new.directory c.args.batches.now c.know.ensures.read c.know.ensures.sound w.sound w.bounded.1 w.bounded.0 w.landed c.args.announced (c.other_root.ensures.none none)) in
    let disk : (h : History) → c.args.self.now.history ≡ Some h → (x : History) × (g.D.Disk.history c.append.new.disk ≡ Some x) × StopsWell (Lands c.args.batches.now) h x c.args.self.now.versions = λ h told.
    let s = c.self.inside.directory in
    let fmt = c.self.inside.format in
    let p = c.self.inside.pair in
    let bs = c.args.batches.now in
    let r = landed_record (landings_of format.Two s bs) in
    let w = c.in_ok-landings.ensures in
    let frame = subst (λ bytes. IsFrame bytes (kind_of fmt r) (record_bytes fmt r)) (sym c.as_slice.ensures) (subst (λ (cs : List Commit). IsFrame c.encode_landings.new.out (kind_of fmt (landed_record cs)) (record_bytes fmt (landed_record cs))) (c.deref-2.ensures.value ∙ w.written) c.in-Ok.ensures) in
    let y = appended fmt p.offset r in
    subst (λ (e : Engine). e.history ≡ Some h → (x : History) × (g.D.Disk.history c.append.new.disk ≡ Some x) × StopsWell (Lands bs) h x e.versions) c.self.view_is
    (λ told.
    let k = (c.self.invariant.2 c.if-self.false).holds h told in
    let stop = c.in-Err.ensures.stop h k.held (kind_of fmt r) (record_bytes fmt r) told k.in_step frame in
    let leads = landings_lead c.landings_follow.ensures c.formats_are_sound.ensures c.formats_group.ensures c.kept_is_spelled.ensures c.written_in_both.ensures k.held fmt p.offset s bs k.leads c.know.ensures.read c.know.ensures.sound w.sound w.bounded.1 w.bounded.0 w.spelled in
    let after = lead_after c.formats_are_sound.ensures c.standings_have_versions.ensures (land_all bs) (k.held ++ y ∷ []) fmt fmt s (all_landed format.Two s bs) c.know.ensures.sound leads in
    (stop.0, stop.1, step_stops c.formats_are_sound.ensures c.standings_have_versions.ensures c.stops_by_records.ensures (Lands bs) h stop.0 p fmt s c.self.inside.generation k (k.held ++ y ∷ []) c.know.ensures.sound after stop.2)) told in
    let count : fin.len c.newest.result.now.map ≤ 2 ^ 62 = search rules in
    let small : fin.len (newest (versions_of c.self.inside.directory)) ≤ 2 ^ 62 = subst (λ m. fin.len m ≤ 2 ^ 62) (c.newest.ensures.map ∙ sym (newest-head c.self.inside.directory)) count in
    let below : c.self.inside.directory.head + length c.args.batches.now ≤ 2 ^ 64 - 2 = omega (arith, c.in_ok-landings.ensures.bounded.0) in (
      record {
        could = subst (CanStep (Lands c.args.batches.now)) c.self.view_is (c.if-self.false, (below, small));
        versions_are = search rules;
        generation_is = search rules;
        broken = search rules;
        later = search rules;
        most = search rules;
        faults = search rules;
        cause = search rules;
        unknown = search rules;
        began = search rules;
        disk = disk;
      },
      announced,
    )

pub returns-in_default-encode_landings-clause-step : goal.returns-in_default-encode_landings-clause-step
returns-in_default-encode_landings-clause-step g c =
    let count : fin.len c.newest.result.now.map ≤ 2 ^ 62 = search rules in
    let small : fin.len (newest (versions_of c.self.inside.directory)) ≤ 2 ^ 62 = subst (λ m. fin.len m ≤ 2 ^ 62) (c.newest.ensures.map ∙ sym (newest-head c.self.inside.directory)) count in
    let below : c.self.inside.directory.head + length c.args.batches.now ≤ 2 ^ 64 - 2 = omega (arith, c.in_ok-landings.ensures.bounded.0) in
    (subst (CanStep (Lands c.args.batches.now)) c.self.view_is (c.if-self.false, (below, small)), search rules)

pub returns-in-Some-clause-step : goal.returns-in-Some-clause-step
returns-in-Some-clause-step g c =
    let w = c.in_ok-landings.ensures in
    let count : fin.len c.newest.result.now.map ≤ 2 ^ 62 = search rules in
    let small : fin.len (newest (versions_of c.self.inside.directory)) ≤ 2 ^ 62 = subst (λ m. fin.len m ≤ 2 ^ 62) (c.newest.ensures.map ∙ sym (newest-head c.self.inside.directory)) count in
    let below : c.self.inside.directory.head + length c.args.batches.now ≤ 2 ^ 64 - 2 = omega (arith, w.bounded.0) in
    let is = landed-root c.groups_land.ensures c.self.inside.directory c.land_batches.new.directory c.args.batches.now c.know.ensures.read c.know.ensures.sound w.sound w.bounded.1 w.bounded.0 w.landed in
    let other = c.in-Some.ensures.other in
    let found : c.in-Some.found ≡ landed_root c.args.self.now.versions c.args.batches.now =
    other.0 ∙ subst (λ (e : Engine). root (newest (versions_of c.land_batches.new.directory)) ≡ landed_root e.versions c.args.batches.now) c.self.view_is is in (
      subst (CanStep (Lands c.args.batches.now)) c.self.view_is (c.if-self.false, (below, small)),
      found,
      other.1,
      other.2,
      search rules,
    )
