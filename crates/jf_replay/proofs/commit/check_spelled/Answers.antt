use Rattle.std.proofs.Common.{◌≡◌, ◌<◌, ◌^◌, ◌++◌, ℕ, List, Option, Bor, length, sym, ap, ◌∙◌, subst, Ok, Err, rules}
use Rattle.std.specs.Prelude.{IfSome}
use Rattle.std.specs.List.{AllByRecursion}
use Rattle.jf_codec.specs.Counted.{in_format}
use Rattle.jf_codec.specs.Spelling.{IsNode}
use Rattle.jf_codec.specs.declared.format.Format.TheVariants as format
use Rattle.jf_payload.specs.Spelling.{commit_bytes}
use Rattle.jf_payload.specs.declared.records.Commit.{Commit}
use Rattle.jf_node.specs.SnapshotValue.{SnapshotValue}
use Rattle.jf_node.specs.Snapshots.{IsSnapshot}
use Rattle.jf_dir.specs.Directories.{landing_written}
use Rattle.jf_standing.specs.Building.{landed_on}
use Rattle.jf_standing.specs.FormatLaws.{standing_in}
use Rattle.jf_standing.specs.Standing.{Standing}
use Rattle.jf_replay.proofs.Spelled.{spelled-entries, spelled-IsInOrder}
use Rattle.jf_replay.proofs.Verdicts.{sound-MayBeNext}
use Rattle.jf_replay.proofs.Written.{IsTakenAs, written-spelled, written-nodes, written-taken, sound-bytes}
use Rattle.jf_replay.proofs.commit.check_spelled.Goals as goal

pub returns-in_err-next-clause-unsound : goal.returns-in_err-next-clause-unsound
returns-in_err-next-clause-unsound g c = λ is d tail spelled e goes after.
    c.in_err-next.ensures.unsound (ap (λ f. Err f) (sym (rw is at c.from_residual.ensures.1))) d tail spelled e
    (sound-MayBeNext c.args.format c.args.directory.now c.know.ensures.sound c.know.ensures.read.keys d (spelled-entries c.args.format d spelled) (spelled-IsInOrder c.args.format d spelled) goes after)

pub strip_from-requires : goal.strip_from-requires
strip_from-requires g c =
    let dir = c.args.directory.now in
    let next = c.in_ok-next.next in
    let known = subst IsSnapshot c.snapshot.ensures c.know-2.ensures in
    let keys = c.know.ensures.read.keys in
    let fresh : length c.in_ok-next.next.fresh < 2 ^ 64 = search rules in
    let stale : length c.in_ok-next.next.stale < 2 ^ 64 = search rules in
    let spelled = written-spelled c.args.format dir next keys c.in_ok-next.ensures.own known.map c.in_ok-next.ensures.room c.landings_are_spelled.ensures c.written_in_both.ensures known.short fresh stale in
    subst (λ (l : Commit). AllByRecursion (λ x. IsNode c.args.format (in_format c.args.format x.1)) l.fresh) (sym c.landing-3.ensures)
    (written-nodes c.args.format dir next keys c.in_ok-next.ensures.own known.map c.in_ok-next.ensures.room spelled)

pub returns-in_default-clause-unsound : goal.returns-in_default-clause-unsound
returns-in_default-clause-unsound g c = λ is d tail spelled e goes after.
    let dir = c.args.directory.now in
    let same = sound-bytes c.kept_is_spelled.ensures c.args.format dir c.in_ok-next.next c.know.ensures.sound c.know.ensures.read.keys d spelled goes after (c.in_ok-next.ensures.landing d tail spelled e) in
    c.in_ok-rest.ensures.none (ap (λ o. Ok o) c.in_default.is) tail (e ∙ ap (λ (b : List ℕ). b ++ tail) (same ∙ ap (commit_bytes c.args.format) (sym c.landing-3.ensures)))

pub returns-clause-taken : goal.returns-clause-taken
returns-clause-taken g c =
    let fmt = c.args.format in
    let dir = c.args.directory.now in
    let next = c.in_ok-next.next in
    let known = subst IsSnapshot c.snapshot.ensures c.know-2.ensures in
    let keys = c.know.ensures.read.keys in
    let fresh : length c.in_ok-next.next.fresh < 2 ^ 64 = search rules in
    let stale : length c.in_ok-next.next.stale < 2 ^ 64 = search rules in
    let spelled = written-spelled fmt dir next keys c.in_ok-next.ensures.own known.map c.in_ok-next.ensures.room c.landings_are_spelled.ensures c.written_in_both.ensures known.short fresh stale in
    let rest = c.in-Some.rest.now in
    let there = subst (λ (o : Option (Bor (List ℕ))). IfSome o (λ r. c.args.bytes.now ≡ commit_bytes fmt c.landing-3.result.now ++ r.now)) c.in-Some.is c.in_ok-rest.ensures.found in
    let same : c.args.bytes.now ≡ commit_bytes fmt (landing_written next) ++ rest = there ∙ ap (λ (l : Commit). commit_bytes fmt l ++ rest) c.landing-3.ensures in
    let landed = c.in_ok-apply_landing.ensures.ok ∙ ap (λ (x : SnapshotValue). landed_on format.Two x.map dir) c.into_parts-landing.ensures.snapshot in
    subst (λ (t : Standing). IsTakenAs fmt (standing_in fmt dir) c.args.bytes.now rest (standing_in fmt t)) (sym landed)
    (written-taken fmt dir next keys c.in_ok-next.ensures.own known.map c.in_ok-next.ensures.room c.kept_is_spelled.ensures c.know.ensures.sound spelled c.args.bytes.now rest same)
