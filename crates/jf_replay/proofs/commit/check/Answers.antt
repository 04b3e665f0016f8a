use Rattle.std.proofs.Common.{List, map, length, ◌≤◌, sym, ap, ap₂, ◌∙◌, subst, true≢false, Err}
use Rattle.std.specs.List.{AllByRecursion}
use Rattle.jf_path.specs.declared.name.NodeName.{NodeName}
use Rattle.jf_path.specs.declared.node.PlainNode.{PlainNode}
use Rattle.jf_path.specs.Limits.{max_value}
use Rattle.jf_hash.specs.Maps.{IsMap}
use Rattle.jf_hash.specs.Slots.{Part}
use Rattle.jf_codec.specs.declared.format.Format.TheVariants as format
use Rattle.jf_node.specs.SnapshotValue.{SnapshotValue}
use Rattle.jf_standing.specs.Building.{landed_on}
use Rattle.jf_standing.specs.FormatLaws.{standing_in}
use Rattle.jf_standing.specs.Named.{AreEntries, leaf_entries}
use Rattle.jf_standing.specs.Standing.{unmarked_node}
use Rattle.jf_dir.specs.Directories.{IsLandingUpdate}
use Rattle.jf_replay.specs.Next.{MayBeNext, map_by}
use Rattle.jf_replay.proofs.Spelled.{spelled-entries, spelled-short, spelled-IsInOrder}
use Rattle.jf_replay.proofs.Verdicts.{same-taken, sound-MayBeNext, sound-same}
use Rattle.jf_replay.proofs.commit.check.Goals as goal

pub next_of-requires-clause-entries : goal.next_of-requires-clause-entries
next_of-requires-clause-entries g c κs within =
    let leaves = c.deref.ensures.value ∙ c.in_ok-leaves.ensures ∙ ap (λ (xs : List (NodeName × PlainNode)). leaf_entries (map unmarked_node xs)) c.as_slice.ensures.value in
    subst AreEntries (sym leaves) (spelled-entries c.args.format c.args.commit.now c.requires.spelled)

pub next_of-requires-clause-short : goal.next_of-requires-clause-short
next_of-requires-clause-short g c κs within =
    let leaves = c.deref.ensures.value ∙ c.in_ok-leaves.ensures ∙ ap (λ (xs : List (NodeName × PlainNode)). leaf_entries (map unmarked_node xs)) c.as_slice.ensures.value in
    subst (AllByRecursion (λ e. length e.1 ≤ max_value)) (sym leaves) (spelled-short c.args.format c.args.commit.now c.requires.spelled)

pub returns-in_err-next-clause-unsound : goal.returns-in_err-next-clause-unsound
returns-in_err-next-clause-unsound g c = λ is goes after.
    let spelled = c.requires.spelled in
    let leaves = c.deref.ensures.value ∙ c.in_ok-leaves.ensures ∙ ap (λ (xs : List (NodeName × PlainNode)). leaf_entries (map unmarked_node xs)) c.as_slice.ensures.value in
    let parts = ap₂ (λ (ls : Part) (ns : List NodeName). (ls, ns)) leaves c.as_slice-2.ensures.value in
    c.in_err-next.ensures.unsound (ap (λ f. Err f) (sym (rw is at c.from_residual-in_err-next.ensures.1)))
    (subst (λ (p : Part × List NodeName). MayBeNext c.args.directory.now p.0 p.1) (sym parts)
    (sound-MayBeNext c.args.format c.args.directory.now c.know.ensures.sound c.know.ensures.read.keys c.args.commit.now (spelled-entries c.args.format c.args.commit.now spelled) (spelled-IsInOrder c.args.format c.args.commit.now spelled) goes after))

pub returns-then-not-same-clause-unsound : goal.returns-then-not-same-clause-unsound
returns-then-not-same-clause-unsound g c = λ is goes after.
    let spelled = c.requires.spelled in
    let leaves = c.deref.ensures.value ∙ c.in_ok-leaves.ensures ∙ ap (λ (xs : List (NodeName × PlainNode)). leaf_entries (map unmarked_node xs)) c.as_slice.ensures.value in
    let parts = ap₂ (λ (ls : Part) (ns : List NodeName). (ls, ns)) leaves c.as_slice-2.ensures.value in
    let landing = subst (λ (p : Part × List NodeName). IsLandingUpdate c.args.directory.now (map_by c.args.directory.now p.0 p.1) c.in_ok-next.next) parts c.in_ok-next.ensures.landing in
    let same = sound-same c.args.format c.args.directory.now c.know.ensures.sound c.know.ensures.read.keys c.args.commit.now (spelled-entries c.args.format c.args.commit.now spelled) (spelled-IsInOrder c.args.format c.args.commit.now spelled) goes after c.in_ok-next.next landing in
    true≢false (sym same ∙ sym c.in_ok-same.ensures ∙ c.if-not-same.true)

pub returns-clause-taken : goal.returns-clause-taken
returns-clause-taken g c =
    let next = c.in_ok-next.next in
    let own = subst (λ (x : SnapshotValue). IsMap x.map) c.snapshot.ensures c.know-2.ensures.map in
    let is = same-taken c.args.format c.args.directory.now c.know.ensures.sound c.know.ensures.read.keys next c.args.commit.now c.in_ok-next.ensures.own own c.in_ok-next.ensures.room (sym c.in_ok-same.ensures ∙ c.if-not-same.false) in
    let landed = c.in_ok-apply_landing.ensures.ok ∙ ap (λ (x : SnapshotValue). landed_on format.Two x.map c.args.directory.now) c.into_parts-landing.ensures.snapshot in
    (is.0, is.1, ap (standing_in c.args.format) landed ∙ is.2)
