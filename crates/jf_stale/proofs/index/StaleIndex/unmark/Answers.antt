-- The mark is there if its name is in the group of its version, and removing the name removes the mark.
use Rattle.std.specs.Prelude.{slice_set}
use Rattle.std.proofs.Common.{◌≡◌, ◌+◌, ◌-◌, length, false, true, sym, ap, ◌∙◌, arith}
use Rattle.std.proofs.lemmas.List.Folds.{list_any_none}
use Rattle.std.specs.List.{list_any}
use Rattle.std.specs.Ordering.{eq_by_cmp}
use Rattle.jf_stale.specs.Groups.{NameGroup, marks_in}
use Rattle.jf_stale.specs.Marks.{mark_cmp, without_mark}
use Rattle.jf_stale.proofs.GroupLaws.{rising-changed}
use Rattle.jf_stale.proofs.GroupMarks.{any-tells, apart-gap, hold-same, hold-fewer, set-counted, tested, unmarked}
use Rattle.jf_stale.proofs.MarkLaws.{mark_cmp_total}
use Rattle.jf_stale.proofs.Places.{without-apart}
use Rattle.jf_stale.proofs.index.StaleIndex.unmark.Goals as goal

-- ---- without a group of the version
pub returns-in-Err-clause-found : goal.returns-in-Err-clause-found
returns-in-Err-clause-found c =
    let test : list_any (eq_by_cmp mark_cmp (c.args.since, c.args.name.now)) (marks_in c.self.inside.groups.items) ≡ false = list_any_none (eq_by_cmp mark_cmp (c.args.since, c.args.name.now)) (marks_in c.self.inside.groups.items) (apart-gap (c.args.since, c.args.name.now) c.self.inside.groups.items c.in-Err.field-0 c.in-Err.ensures.gap) in
    any-tells false (c.args.since, c.args.name.now) c.args.self.now (sym test ∙ ap (list_any (eq_by_cmp mark_cmp (c.args.since, c.args.name.now))) c.self.view_is)

pub returns-in-Err-clause-others : goal.returns-in-Err-clause-others
returns-in-Err-clause-others c =
    sym c.self.view_is
    ∙ sym (without-apart mark_cmp_total (c.args.since, c.args.name.now) (marks_in c.self.inside.groups.items) (apart-gap (c.args.since, c.args.name.now) c.self.inside.groups.items c.in-Err.field-0 c.in-Err.ensures.gap))
    ∙ ap (without_mark (c.args.since, c.args.name.now)) c.self.view_is

-- ---- the name is not in the group
pub invariant_of-self : goal.invariant_of-self
invariant_of-self c =
    let same : length c.index_mut.result.now.1 ≡ length c.remove.new.self.1 = c.if-not-remove.ensures.count in
    hold-fewer c.self.inside.groups.items c.in-Ok.at c.self.inside.count c.self.inside.count c.index_mut.result.now c.remove.new.self c.args.name.now c.self.invariant c.in-Ok.ensures.within c.index_mut.ensures.value c.remove.ensures.others (omega arith)

pub returns-then-not-remove-clause-found : goal.returns-then-not-remove-clause-found
returns-then-not-remove-clause-found c =
    any-tells false (c.args.since, c.args.name.now) c.args.self.now
    (tested c.args.since c.args.name.now c.self.inside.groups.items c.in-Ok.at c.index_mut.result.now false c.self.invariant.rising c.in-Ok.ensures.within c.index_mut.ensures.value c.in-Ok.ensures.there c.if-not-remove.ensures.found
    ∙ ap (list_any (eq_by_cmp mark_cmp (c.args.since, c.args.name.now))) c.self.view_is)

pub returns-then-not-remove-clause-others : goal.returns-then-not-remove-clause-others
returns-then-not-remove-clause-others c =
    unmarked c.args.since c.args.name.now c.self.inside.groups.items c.in-Ok.at c.index_mut.result.now c.remove.new.self c.self.invariant.rising c.in-Ok.ensures.within c.index_mut.ensures.value c.in-Ok.ensures.there c.remove.ensures.others
    ∙ ap (without_mark (c.args.since, c.args.name.now)) c.self.view_is

-- ---- the name was in the group
pub overflow_sub-self : goal.overflow_sub-self
overflow_sub-self c =
    let one : length c.index_mut.result.now.1 ≡ length c.remove.new.self.1 + 1 = c.if-not-remove.ensures.count in
    let all = set-counted c.self.inside.groups.items c.in-Ok.at c.index_mut.result.now c.remove.new.self c.in-Ok.ensures.within c.index_mut.ensures.value in
    let counted : c.self.inside.count ≡ length (marks_in c.self.inside.groups.items) = c.self.invariant.counted in
    omega arith

pub drop_if_empty-requires-clause-sorted : goal.drop_if_empty-requires-clause-sorted
drop_if_empty-requires-clause-sorted c =
    rising-changed c.self.inside.groups.items c.in-Ok.at c.index_mut.result.now c.remove.new.self c.self.invariant.rising c.in-Ok.ensures.within c.index_mut.ensures.value (ap (λ (g : NameGroup). g.0) c.remove.ensures.others)

pub invariant_of-self-2 : goal.invariant_of-self-2
invariant_of-self-2 c =
    let one : length c.index_mut.result.now.1 ≡ length c.remove.new.self.1 + 1 = c.if-not-remove.ensures.count in
    let all = set-counted c.self.inside.groups.items c.in-Ok.at c.index_mut.result.now c.remove.new.self c.in-Ok.ensures.within c.index_mut.ensures.value in
    let counted : c.self.inside.count ≡ length (marks_in c.self.inside.groups.items) = c.self.invariant.counted in
    hold-same (slice_set c.self.inside.groups.items c.in-Ok.at c.remove.new.self) c.drop_if_empty.new.groups.items (c.self.inside.count - 1)
    (hold-fewer c.self.inside.groups.items c.in-Ok.at c.self.inside.count (c.self.inside.count - 1) c.index_mut.result.now c.remove.new.self c.args.name.now c.self.invariant c.in-Ok.ensures.within c.index_mut.ensures.value c.remove.ensures.others (omega arith))
    c.drop_if_empty.ensures.sorted c.drop_if_empty.ensures.marks

pub returns-clause-found : goal.returns-clause-found
returns-clause-found c =
    any-tells true (c.args.since, c.args.name.now) c.args.self.now
    (tested c.args.since c.args.name.now c.self.inside.groups.items c.in-Ok.at c.index_mut.result.now true c.self.invariant.rising c.in-Ok.ensures.within c.index_mut.ensures.value c.in-Ok.ensures.there c.if-not-remove.ensures.found
    ∙ ap (list_any (eq_by_cmp mark_cmp (c.args.since, c.args.name.now))) c.self.view_is)

pub returns-clause-others : goal.returns-clause-others
returns-clause-others c =
    c.drop_if_empty.ensures.marks
    ∙ unmarked c.args.since c.args.name.now c.self.inside.groups.items c.in-Ok.at c.index_mut.result.now c.remove.new.self c.self.invariant.rising c.in-Ok.ensures.within c.index_mut.ensures.value c.in-Ok.ensures.there c.remove.ensures.others
    ∙ ap (without_mark (c.args.since, c.args.name.now)) c.self.view_is
