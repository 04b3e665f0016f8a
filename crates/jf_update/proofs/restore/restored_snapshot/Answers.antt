use Rattle.std.proofs.Common.{Err, arith, ◌<◌, ◌+◌, length, subst, sym, ap, refl}
use Rattle.jf_update.specs.Restored.{IsRestored, part_nodes}
use Rattle.jf_update.proofs.RestoreLaws.{top_restored, snapshot_restored, count_refused, whole_part, some_entries}
use Rattle.jf_update.proofs.restore.restored_snapshot.Goals as goal

pub restored_part-requires-clause-part : goal.restored_part-requires-clause-part
restored_part-requires-clause-part c = (_, whole_part c.args.entries.now c.requires.sorted c.know_entries.ensures)

pub returns-in_err-top-clause-refused : goal.returns-in_err-top-clause-refused
returns-in_err-top-clause-refused c is =
    let few : length c.args.versions.now < 0 + length (part_nodes 0 c.args.entries.now) = c.in_err-top.ensures.refused (ap (λ f. Err f) (sym (rw is at c.from_residual.ensures.1))) in
    count_refused c.args.version c.args.entries.now c.args.versions.now (some_entries c.args.entries.now c.if-is_empty.ensures) c.requires.sorted (λ all. omega (arith, few, all))

pub returns-then-taken-versions-clause-refused : goal.returns-then-taken-versions-clause-refused
returns-then-taken-versions-clause-refused c is =
    count_refused c.args.version c.args.entries.now c.args.versions.now (some_entries c.args.entries.now c.if-is_empty.ensures) c.requires.sorted (λ all. c.if-taken-versions.true (omega (arith, all, c.in_ok-top.ensures.restored.taken)))

pub of-requires : goal.of-requires
of-requires c = top_restored c.args.version _ c.args.entries.now c.args.versions.now c.in_ok-top.top (some_entries c.args.entries.now c.if-is_empty.ensures) (c.if-not-is_newest_first.ensures.yes refl) c.in_ok-top.ensures.restored c.know_if.ensures

pub returns-clause-restored : goal.returns-clause-restored
returns-clause-restored c =
    subst (IsRestored c.args.version c.args.entries.now c.args.versions.now) (sym c.of.ensures)
    (snapshot_restored c.args.version _ c.args.entries.now c.args.versions.now c.in_ok-top.top (some_entries c.args.entries.now c.if-is_empty.ensures) c.requires.sorted (c.if-not-is_newest_first.ensures.yes refl) c.if-taken-versions.false c.in_ok-top.ensures.restored c.know_if.ensures)
