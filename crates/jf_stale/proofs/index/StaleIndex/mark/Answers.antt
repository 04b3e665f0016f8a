-- The name is put into the group of its version.
use Rattle.std.specs.Prelude.{◌+◌, length, if◌then◌else◌}
use Rattle.std.proofs.Common.{◌≡◌, subst, ap, ◌∙◌, arith}
use Rattle.jf_stale.specs.Groups.{HoldMarks}
use Rattle.jf_stale.specs.Marks.{with_mark}
use Rattle.jf_stale.proofs.GroupMarks.{hold-same, hold-more, marked}
use Rattle.jf_stale.proofs.index.StaleIndex.mark.Goals as goal

pub invariant_of-self-then-branch : goal.invariant_of-self-then-branch
invariant_of-self-then-branch c =
    let gs = c.group_of.new.groups.items in
    let g = c.index_mut.result.now in
    let h = c.add.new.self in
    let held : HoldMarks gs c.self.inside.count = hold-same c.self.inside.groups.items gs c.self.inside.count c.self.invariant c.group_of.ensures.sorted c.group_of.ensures.marks in
    let more : length h.1 ≡ length g.1 + 1 = subst (λ b. length h.1 ≡ (if b then length g.1 + 1 else length g.1)) c.if-branch.true c.in_ok-add.ensures.count in
    let one : c.in_ok-count.count ≡ c.self.inside.count + 1 = c.in_ok-count.ensures in
    hold-more gs c.in_ok-at.at c.self.inside.count c.in_ok-count.count g h c.args.name held c.in_ok-at.ensures.within c.index_mut.ensures.value c.in_ok-add.ensures.ok (omega arith)

pub invariant_of-self-else-branch : goal.invariant_of-self-else-branch
invariant_of-self-else-branch c =
    let gs = c.group_of.new.groups.items in
    let g = c.index_mut.result.now in
    let h = c.add.new.self in
    let held : HoldMarks gs c.self.inside.count = hold-same c.self.inside.groups.items gs c.self.inside.count c.self.invariant c.group_of.ensures.sorted c.group_of.ensures.marks in
    let same : length h.1 ≡ length g.1 = subst (λ b. length h.1 ≡ (if b then length g.1 + 1 else length g.1)) c.if-branch.false c.in_ok-add.ensures.count in
    hold-more gs c.in_ok-at.at c.self.inside.count c.self.inside.count g h c.args.name held c.in_ok-at.ensures.within c.index_mut.ensures.value c.in_ok-add.ensures.ok (omega arith)

pub returns-then-branch-clause-ok : goal.returns-then-branch-clause-ok
returns-then-branch-clause-ok c =
    marked c.args.since c.args.name c.group_of.new.groups.items c.in_ok-at.at c.index_mut.result.now c.add.new.self c.group_of.ensures.sorted c.in_ok-at.ensures.within c.index_mut.ensures.value c.in_ok-at.ensures.there c.in_ok-add.ensures.ok
    ∙ ap (with_mark (c.args.since, c.args.name)) (c.group_of.ensures.marks ∙ c.self.view_is)

pub returns-else-branch-clause-ok : goal.returns-else-branch-clause-ok
returns-else-branch-clause-ok c =
    marked c.args.since c.args.name c.group_of.new.groups.items c.in_ok-at.at c.index_mut.result.now c.add.new.self c.group_of.ensures.sorted c.in_ok-at.ensures.within c.index_mut.ensures.value c.in_ok-at.ensures.there c.in_ok-add.ensures.ok
    ∙ ap (with_mark (c.args.since, c.args.name)) (c.group_of.ensures.marks ∙ c.self.view_is)
