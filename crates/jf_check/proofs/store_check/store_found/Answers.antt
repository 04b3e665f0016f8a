-- What was found of the live records, or of none, is said of both files; what shows before is their damage.
use Rattle.std.specs.Prelude.{Option, None, Err, IfSome, ◌↔◌}
use Rattle.std.proofs.Common.{◌≡◌, ◌<◌, length, ap, refl, subst, sym, inl, true, false}
use Rattle.std.proofs.lemmas.Result.{IfOk-weaker}
use Rattle.jf_disk.specs.Disk.{reads}
use Rattle.jf_disk.specs.Memory.{history_of}
use Rattle.jf_frame.specs.Logs.{Log}
use Rattle.jf_pair.specs.Files.{HoldsLive, is_begun}
use Rattle.jf_pair.specs.Pairs.{log_records}
use Rattle.jf_engine.proofs.Keeping.{on_same}
use Rattle.jf_engine.proofs.Opened.{found_live, live_in_step}
use Rattle.jf_check.specs.Stores.{IsStoreCheck}
use Rattle.jf_check.proofs.Judged.{judged_live, judged_new}
use Rattle.jf_check.proofs.store_check.store_found.Goals as goal

pub returns-in-Some : goal.returns-in-Some
returns-in-Some g c =
    let e = c.in-Ok.ensures in
    let h = history_of c.args.disk.now in
    let p = c.in-Ok.field-0-0 in
    let log = c.in-Some.log in
    let both = on_same _ _ _ (e.left h refl) (live_in_step _ _ c.in-Ok.live _ (ap log_records c.in-Some.is) (e.in_step h refl)) in
    let held = subst (HoldsLive (reads h)) (ap log_records c.in-Some.is) (e.found h refl) in
    let live = found_live p.is_live log (subst (λ (l : Option Log). (l ≡ None) ↔ (p.is_live ≡ false)) c.in-Some.is e.given) in
    let side = (subst (λ (l : Option Log). IfSome l (λ log. (log.side ≡ p.side) × (log.offset ≡ p.offset) × (log.failed ≡ false))) c.in-Some.is e.log).0 in
    let some = (subst (λ (l : Option Log). IfSome l (λ log. (is_begun log.records ≡ true) × (0 < length log.records))) c.in-Some.is e.begun).1 in
    IfOk-weaker c.live_store.result _ _
    (λ x found. judged_live c.formats_are_sound.ensures c.standings_have_versions.ensures c.live_side_is_the_pairs.ensures h both.0 both.2.0.same p live log.side side log.records x held both.2.1 some found) c.live_store.ensures

pub returns-in-Ok : goal.returns-in-Ok
returns-in-Ok g c =
    let e = c.in-Ok.ensures in
    let h = history_of c.args.disk.now in
    let held = subst (HoldsLive (reads h)) (ap log_records c.in-None.is) (e.found h refl) in
    IfOk-weaker c.new_store.result _ _ (λ x found. judged_new c.new_is_sound.ensures (reads h) x held found) c.new_store.ensures

pub returns : goal.returns
returns g c =
    let h = history_of c.args.disk.now in
    IfOk-weaker c.outer_damage.result _ _ (λ x found. subst (IsStoreCheck (reads h)) (sym found.3) (inl (c.in-Err.ensures.damaged h found.0 found.1 refl (ap (λ f. Err f) found.2)))) c.outer_damage.ensures
