-- No image of a store that was closed has a floor above a version that one of its sessions has pinned.
use Rattle.std.proofs.Common.{◌≡◌, inl, inr, ℕ, zero, suc, ◌<◌, ◌≤◌, Option, Some, None, List, [], ◌∷◌, take, length, refl, sym, ap, ◌∙◌, subst, arith, IfSome}
use Rattle.std.specs.Prelude.{slice_index_or}
use Rattle.std.specs.List.{AllByRecursion}
use Rattle.jf_path.specs.Limits.{max_pins}
use Rattle.jf_model.specs.Versions.{Versions}
use Rattle.jf_model.specs.States.{State, versions}
use Rattle.jf_model.specs.Entries.{AreLegal, after, replay}
use Rattle.jf_model.specs.declared.entries.Entry.{Entry}
use Rattle.jf_node.specs.SnapshotValue.{SnapshotValue}
use Rattle.jf_disk.specs.Disk.{History}
use Rattle.jf_files.specs.Files.{StandsFor}
use Rattle.jf_board.specs.Rule.{hold_at}
use Rattle.jf_store.specs.Events.{attempt_of}
use Rattle.jf_store.specs.Starts.{Start}
use Rattle.jf_store.specs.Images.{Outlasts}
use Rattle.jf_store.specs.Passes.{Pass, IsPinned}
use Rattle.jf_store.specs.Prunings.{HasConfirmed}
use Rattle.jf_answers.specs.Own.{Own, begun_session}
use Rattle.jf_answers.specs.Explains.{own_after_replies}
use Rattle.jf_answers.specs.Laws.{SparesPins}
use Rattle.jf_answers.proofs.SparedPins.{front-floor, lower}
use Rattle.jf_history.specs.Sessions.{Session, HoldsPins, IsTry, pinned_versions}
use Rattle.jf_history.specs.Runs.{EndsBy, IsAtRest}
use Rattle.jf_history.specs.Sparing.{SparesPinsSince}
use Rattle.jf_history.specs.Laws.{ClosedSparesPins}
use Rattle.jf_history.specs.declared.end.End.{End}
use Rattle.jf_history.specs.declared.end.End.TheVariants as end
use Rattle.jf_history.proofs.Closed.{pass_there}

-- ---- what is pinned
-- if each snapshot of a list has the property, so has each version
pub each_version : (Q : ℕ → Type 0) (ss : List (Option SnapshotValue)) → ((i : ℕ) (s : SnapshotValue) → slice_index_or ss i None ≡ Some s → Q s.version) → AllByRecursion (λ pin. IfSome pin Q) (pinned_versions ss)
each_version Q [] h = tt
each_version Q (None ∷ ss) h = (tt, each_version Q ss (λ i s e. h (suc i) s e))
each_version Q (Some s ∷ ss) h = (h zero s refl, each_version Q ss (λ i t e. h (suc i) t e))

-- an element of a list stands below its length
pub below_length : (ss : List (Option SnapshotValue)) (i : ℕ) (s : SnapshotValue) → slice_index_or ss i None ≡ Some s → i < length ss
below_length [] i s e = absurd (cc)
below_length (o ∷ ss) zero s e = omega arith
below_length (o ∷ ss) (suc i) s e = let rest = below_length ss i s e in omega arith

-- a floor that is above no version that the pass has confirmed spares the session's pins
confirmed_spared : (s : Session) (floor : ℕ) → HoldsPins s → ((version : ℕ) → HasConfirmed s.pass.place version → floor ≤ version) → SparesPins s.own floor
confirmed_spared s floor h low = subst (AllByRecursion (λ pin. IfSome pin (λ p. floor ≤ p))) (sym h.versions) (each_version (λ v. floor ≤ v) s.pass.pinned (λ i t there.
    let small : i < max_pins = (let below = below_length s.pass.pinned i t there in omega (arith, below, h.eight)) in
    low t.version (i, small, subst (λ (o : Option SnapshotValue). IsPinned o (hold_at s.pass.place i)) there (h.board i small))))

-- ---- the pins in the end
-- a fault of the disk leaves pins and own part
try_holds : (start : Start) (mid last : Session) (line : List ℕ) → IsTry start mid last line → HoldsPins mid → HoldsPins last
try_holds start mid last line t h =
    let pinned : mid.pass.pinned ≡ last.pass.pinned = sym (ap (λ (p : Pass). p.pinned) t.sees.last) in
    let place : mid.pass.place ≡ last.pass.place = sym (ap (λ (p : Pass). p.place) t.sees.last) in
    record {
      versions = ap (λ (o : Own). o.pins) t.own ∙ h.versions ∙ ap pinned_versions pinned;
      eight = subst (λ (ss : List (Option SnapshotValue)). length ss ≡ max_pins) pinned h.eight;
      board = λ i small. subst (λ (v : _). IsPinned (slice_index_or last.pass.pinned i None) (hold_at v i)) place (subst (λ (ss : List (Option SnapshotValue)). IsPinned (slice_index_or ss i None) (hold_at mid.pass.place i)) pinned (h.board i small));
    }

abbrev Holds : Session → Session → Type 0
Holds mid last = HoldsPins last × (last.own ≡ mid.own)

same_holds : (mid last : Session) → last ≡ mid → HoldsPins mid → Holds mid last
same_holds mid last same h = (subst HoldsPins (sym same) h, ap (λ (s : Session). s.own) same)

rest_holds : (mid last : Session) (next : Option (List ℕ)) → IsAtRest mid last next → HoldsPins mid → Holds mid last
rest_holds mid last None same h = same_holds mid last same h
rest_holds mid last (Some line) idle h = (idle.holds, idle.own)

last_holds : (e : End) (start : Start) (mid last : Session) (next : Option (List ℕ)) → EndsBy e start mid last next → HoldsPins mid → Holds mid last
last_holds end.Done start mid last next x h = same_holds mid last x.0 h
last_holds end.ReadFault start mid last next x h = same_holds mid last x.0 h
last_holds end.WriteFault start mid last next x h = rest_holds mid last next x h
last_holds end.DiskFault start mid last next x h = (try_holds start mid last x.0 x.2 h, x.2.own)
last_holds end.Broken start mid last next x h = (x.2.idle.holds, x.2.idle.own)
last_holds end.Memory start mid last next x h = rest_holds mid last next x h

-- ---- images
-- if the floor after all entries spares pins, and that after the attempt, so does what is left
pub SparesPinsSince-outlasts : (start : Start) (es : List Entry) (attempt : Option Entry) (h : History) (own : Own) → AreLegal start.state es → Outlasts start es attempt h
    → SparesPins own (replay start.state es).floor → IfSome attempt (λ e. SparesPins own (after e (replay start.state es)).floor) → SparesPinsSince start.moment h own
SparesPinsSince-outlasts start es attempt h own legal o all tried = λ t f since left.
    elim (o.images t f since left) as (λ x. (v : Versions) × StandsFor f v × SparesPins own v.floor) [
      | inl front ↦ (
        versions (replay start.state (take front.count es)),
        front.stands,
        lower (replay start.state (take front.count es)).floor (replay start.state es).floor own.pins (front-floor start.state es front.count legal) all,
      )
      | inr last ↦ (versions (after last.tried (replay start.state es)), last.stands, subst (λ (x : Option Entry). IfSome x (λ e. SparesPins own (after e (replay start.state es)).floor)) last.is_attempt tried)
    ]

spared_attempt : (s : State) (session : Session) (attempt : Option Entry) → HoldsPins session → ((version : ℕ) → HasConfirmed session.pass.place version → IfSome attempt (λ e. (after e s).floor ≤ version))
    → IfSome attempt (λ e. SparesPins session.own (after e s).floor)
spared_attempt s session None holds low = tt
spared_attempt s session (Some e) holds low = confirmed_spared session (after e s).floor holds low

pub closed_spares_pins : ClosedSparesPins
closed_spares_pins store before later s out_of_memory entries engine closed served h told =
    let start = store.start in
    let x = last_holds s.how start served.mid served.last served.next served.ends served.answered.pins in
    let own : served.last.own ≡ own_after_replies (begun_session (length before)) served.had = x.1 ∙ served.answered.own in
    let spares = closed.spares s.pass (pass_there before s later) in
    let place : s.pass ≡ served.last.pass = served.pass_is in
    let all = confirmed_spared served.last (replay start.state entries).floor x.0 (λ version has. (spares version (subst (λ (p : Pass). HasConfirmed p.place version) (sym place) has)).0) in
    let tried = spared_attempt (replay start.state entries) served.last (attempt_of closed.events) x.0 (λ version has. (spares version (subst (λ (p : Pass). HasConfirmed p.place version) (sym place) has)).1) in
    let legal = subst (AreLegal start.state) (sym closed.entries_are) closed.history.history.each in
    subst (SparesPinsSince start.moment h) own (SparesPinsSince-outlasts start entries (attempt_of closed.events) h served.last.own legal (closed.kept.outlasts h told) all tried)
