-- What is read of the files: a store, or a pair without a record.
use Rattle.std.specs.Prelude.{Ok, Err, None, Option, IfSome, ◌↔◌}
use Rattle.std.proofs.Common.{◌≡◌, ◌<◌, length, ap, sym, ◌∙◌, subst, inl, true, false}
use Rattle.std.proofs.lemmas.Result.{err_from_is_err_and}
use Rattle.jf_disk.specs.Disk.{reads}
use Rattle.jf_frame.specs.Logs.{Log}
use Rattle.jf_pair.specs.Files.{HoldsLive, is_begun}
use Rattle.jf_pair.specs.Pairs.{log_records}
use Rattle.jf_engine.specs.Openings.{HasRefused}
use Rattle.jf_engine.proofs.Keeping.{on_same}
use Rattle.jf_engine.proofs.Opened.{replayed_damage, replayed_refused, read_refused, found_live, live_in_step, of_pair_fault, of_pair_damage}
use Rattle.jf_engine.proofs.Seeking.{sought_store}
use Rattle.jf_engine.proofs.opening.seek.Goals as goal

pub read_store-requires-clause-begun : goal.read_store-requires-clause-begun
read_store-requires-clause-begun g c κs within = (subst (λ (l : Option Log). IfSome l (λ log. (is_begun log.records ≡ true) × (0 < length log.records))) c.in-Some.is c.in-Ok.ensures.begun).0

pub read_store-requires-clause-positive : goal.read_store-requires-clause-positive
read_store-requires-clause-positive g c κs within = (subst (λ (l : Option Log). IfSome l (λ log. (is_begun log.records ≡ true) × (0 < length log.records))) c.in-Some.is c.in-Ok.ensures.begun).1

pub returns-in_ok-found-in-Some-clause-sought : goal.returns-in_ok-found-in-Some-clause-sought
returns-in_ok-found-in-Some-clause-sought g c =
    let e = c.in-Ok.ensures in
    let r = c.in_ok-found-in-Some.ensures in
    sought_store c.formats_are_sound.ensures c.standings_have_versions.ensures c.generation_is_live.ensures c.opens_by_records.ensures c.spelled_is_spelling.ensures c.checkpoints_are_numbered.ensures (g.D.Disk.history c.args.disk.now) (g.D.Disk.history c.open.new.disk) (g.D.Disk.moment c.args.disk.now) (g.D.Disk.faults c.args.disk.now) (g.D.Disk.moment c.open.new.disk) (g.D.Disk.faults c.open.new.disk) c.in-Ok.pair c.in-Some.log.records e.calls.unknown e.calls.later e.calls.counted
    (λ h told. on_same _ _ _ (e.left h told) (live_in_step _ _ c.in-Ok.live _ (ap log_records c.in-Some.is) (e.in_step h told))) (λ h told. subst (HoldsLive (reads h)) (ap log_records c.in-Some.is) (e.found h told))
    e.calm (found_live c.in-Ok.pair.is_live c.in-Some.log (subst (λ (l : Option Log). (l ≡ None) ↔ (c.in-Ok.pair.is_live ≡ false)) c.in-Some.is e.given)) e.sound c.in_ok-found-in-Some.found r.pair r.led r.sound r.generation

pub returns-in_ok-found-in-Some-clause-damage : goal.returns-in_ok-found-in-Some-clause-damage
returns-in_ok-found-in-Some-clause-damage g c =
    let e = c.in-Ok.ensures in
    let r = c.in_ok-found-in-Some.ensures in
    λ h where_ at told here. replayed_damage c.formats_are_sound.ensures c.standings_have_versions.ensures c.generation_is_live.ensures c.opens_by_records.ensures (g.D.Disk.history c.args.disk.now) (g.D.Disk.history c.open.new.disk) (g.D.Disk.moment c.args.disk.now) (g.D.Disk.faults c.args.disk.now) (g.D.Disk.moment c.open.new.disk) (g.D.Disk.faults c.open.new.disk) c.in-Ok.pair c.in-Some.log.records e.calls.unknown e.calls.later e.calls.counted
    (λ h told. on_same _ _ _ (e.left h told) (live_in_step _ _ c.in-Ok.live _ (ap log_records c.in-Some.is) (e.in_step h told))) (λ h told. subst (HoldsLive (reads h)) (ap log_records c.in-Some.is) (e.found h told))
    c.damage_is_no_versions.ensures (Ok c.in_ok-found-in-Some.found) r.led r.sound h where_ at told here

pub returns-in_err-found-in-Some-clause-refused : goal.returns-in_err-found-in-Some-clause-refused
returns-in_err-found-in-Some-clause-refused g c =
    let e = c.in-Ok.ensures in
    let p = err_from_is_err_and c.from_residual.result c.from_residual.ensures.1 in
    rw p.1 (subst (HasRefused _ _) (sym p.2) (replayed_refused c.formats_are_sound.ensures c.standings_have_versions.ensures c.generation_is_live.ensures c.opens_by_records.ensures (g.D.Disk.history c.args.disk.now) (g.D.Disk.history c.open.new.disk) (g.D.Disk.moment c.args.disk.now) (g.D.Disk.faults c.args.disk.now) (g.D.Disk.moment c.open.new.disk) (g.D.Disk.faults c.open.new.disk) c.in-Ok.pair c.in-Some.log.records e.calls.unknown e.calls.later e.calls.counted
    (λ h told. on_same _ _ _ (e.left h told) (live_in_step _ _ c.in-Ok.live _ (ap log_records c.in-Some.is) (e.in_step h told))) (λ h told. subst (HoldsLive (reads h)) (ap log_records c.in-Some.is) (e.found h told))
    c.damage_has_one_place.ensures (found_live c.in-Ok.pair.is_live c.in-Some.log (subst (λ (l : Option Log). (l ≡ None) ↔ (c.in-Ok.pair.is_live ≡ false)) c.in-Some.is e.given)) (Err c.in_err-found-in-Some.field-0.0)
    (λ where_ at is. let d = c.in_err-found-in-Some.ensures.damaged where_ at is in (d.0 ∙ (subst (λ (l : Option Log). IfSome l (λ log. (log.side ≡ c.in-Ok.pair.side) × (log.offset ≡ c.in-Ok.pair.offset) × (log.failed ≡ false))) c.in-Some.is e.log).0, d.1)) c.in_err-found-in-Some.ensures.unstopped))

pub returns-in-Err-clause-refused : goal.returns-in-Err-clause-refused
returns-in-Err-clause-refused g c =
    let e = c.in-Err.ensures in
    read_refused c.damage_has_one_place.ensures _ _ _ _ _ _ c.from.result e.calls.unknown e.calls.later e.calls.counted (λ is. e.calls.cause (ap (λ x. Err x) (of_pair_fault c.in-Err.fault (sym c.from.ensures ∙ is)))) e.left
    (λ h told where_ at is. inl (e.damaged h where_ at told (ap (λ x. Err x) (of_pair_damage c.in-Err.fault where_ at (sym c.from.ensures ∙ is)))))
