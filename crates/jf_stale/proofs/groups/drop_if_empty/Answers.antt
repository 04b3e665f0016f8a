-- A group without names has no marks.
use borrow.Author.Tests.{eqb-true}
use Rattle.std.specs.Prelude.{OnSome}
use Rattle.std.proofs.Common.{◌≡◌, sym, subst, ap, ◌∙◌, arith}
use Rattle.std.specs.List.{remove}
use Rattle.jf_stale.specs.Groups.{AreRisingGroups, marks_in}
use Rattle.jf_stale.proofs.GroupLaws.{rising-removed, marks-removed}
use Rattle.jf_stale.proofs.groups.drop_if_empty.Goals as goal

pub returns-then-is_empty-clause-sorted : goal.returns-then-is_empty-clause-sorted
returns-then-is_empty-clause-sorted c =
    let gs = c.args.groups.now.items in
    let made = subst (λ r. OnSome r (c.remove.new.self.items ≡ remove gs c.args.at)) (c.remove.ensures.succeeds c.index.result.now (omega arith)) c.remove.ensures.items in
    subst AreRisingGroups (sym made) (rising-removed gs c.args.at c.requires.sorted)

pub returns-then-is_empty-clause-marks : goal.returns-then-is_empty-clause-marks
returns-then-is_empty-clause-marks c =
    let gs = c.args.groups.now.items in
    let made = subst (λ r. OnSome r (c.remove.new.self.items ≡ remove gs c.args.at)) (c.remove.ensures.succeeds c.index.result.now (omega arith)) c.remove.ensures.items in
    ap marks_in made ∙ marks-removed gs c.args.at c.index.result.now c.requires.within c.index.ensures (eqb-true _ _ (sym c.is_empty.ensures ∙ c.if-is_empty.true))
