use Rattle.std.proofs.Common.{◌+◌, ap, sym, subst, ◌∙◌}
use Rattle.std.specs.Option.{option_copied}
use Rattle.jf_node.specs.Snapshots.{snapshot_of, IsTopIf}
use Rattle.jf_update.specs.TopUpdates.{IsNextTop}
use Rattle.jf_update.proofs.SnapshotUpdateLaws.{change_parts, next_if, advanced}
use Rattle.jf_update.proofs.snapshot.advance.Goals as goal

pub next_top-requires-clause-parts : goal.next_top-requires-clause-parts
next_top-requires-clause-parts g c κs within = change_parts c.args.head.now (option_copied c.top.result) c.args.entries.now c.know.ensures c.top.ensures c.requires.batch c.requires.short

pub of-snapshot-requires : goal.of-snapshot-requires
of-snapshot-requires g c =
    subst (λ v. IsTopIf (v + 1) c.in_ok-top.top) (c.version.ensures ∙ sym c.version-2.ensures) (next_if c.version.result (option_copied c.top.result) c.args.entries.now c.in_ok-top.top c.in_ok-top.ensures)

pub returns : goal.returns
returns g c =
    let old = option_copied c.top.result in
    let top = c.in_ok-top.top in
    advanced c.args.head.now old c.args.entries.now top c.of-snapshot.result c.know.ensures c.top.ensures (subst (λ v. IsNextTop v old c.args.entries.now top) c.version.ensures c.in_ok-top.ensures)
    (c.of-snapshot.ensures ∙ ap (λ v. snapshot_of (v + 1) top) c.version-2.ensures) c.know-2.ensures
