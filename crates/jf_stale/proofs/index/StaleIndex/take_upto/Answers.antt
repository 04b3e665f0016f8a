-- The first name of the first group makes the least mark.
use Rattle.std.proofs.Common.{◌≡◌, ◌<◌, List, ◌∷◌, All, length, refl, sym, subst, ap, ap₂, ◌∙◌, arith, is_some, true≢false}
use Rattle.std.proofs.lemmas.List.{get_or_default}
use Rattle.std.proofs.lemmas.List.Elements.{All-head}
use Rattle.jf_stale.specs.Groups.{NameGroup, marks_in}
use Rattle.jf_stale.specs.Marks.{Mark, AreAscendingMarks}
use Rattle.jf_stale.proofs.GroupLaws.{rising-changed}
use Rattle.jf_stale.proofs.GroupMarks.{all-later, hold-rest, least-first, taken-first}
use Rattle.jf_stale.proofs.index.StaleIndex.take_upto.Goals as goal

pub returns-then-since-floor-clause-given : goal.returns-then-since-floor-clause-given
returns-then-since-floor-clause-given c =
    let late : c.args.floor < c.in_ok-front.field-0.now.0 = subst (λ n. c.args.floor < n) c.since-since.ensures c.if-since-floor.true in (
      λ no. subst (All (λ (m : Mark). c.args.floor < m.0)) (c.drop_empty.ensures.marks ∙ c.self.view_is) (all-later c.args.floor c.drop_empty.new.groups.items c.in_ok-front.field-0.now c.drop_empty.ensures.sorted c.in_ok-front.ensures.lookup late),
      λ all. refl,
    )

pub drop_empty-requires-2 : goal.drop_empty-requires-2
drop_empty-requires-2 c =
    rising-changed c.drop_empty.new.groups.items 0 c.index_mut.result.now c.take_first-name.new.self c.drop_empty.ensures.sorted (subst (λ n. 0 < n) c.drop_empty.new.groups.ok.0 (c.front.ensures.variant.0 (ap is_some c.in_ok-front.was))) c.index_mut.ensures.value c.take_first-name.ensures.since

-- the marks were the one that is taken and those that are left
parted : (c : goal.After-drop_empty-2) → c.args.self.now ≡ (c.since-since.result, c.take_first-name.result) ∷ marks_in c.drop_empty-2.new.groups.items
parted c =
    let gs = c.drop_empty.new.groups.items in
    let first = c.in_ok-front.field-0.now in
    let g = c.index_mut.result.now in
    let some : 0 < length gs = subst (λ n. 0 < n) c.drop_empty.new.groups.ok.0 (c.front.ensures.variant.0 (ap is_some c.in_ok-front.was)) in
    let same : g.0 ≡ c.since-since.result = ap (λ (k : NameGroup). k.0) (c.index_mut.ensures.value ∙ get_or_default gs 0 g first some ∙ sym c.in_ok-front.ensures.lookup) ∙ sym c.since-since.ensures in
    sym (c.drop_empty.ensures.marks ∙ c.self.view_is)
    ∙ taken-first gs g c.take_first-name.new.self c.take_first-name.result some c.index_mut.ensures.value c.take_first-name.ensures.since c.take_first-name.ensures.names
    ∙ ap₂ (λ v ms. (v, c.take_first-name.result) ∷ ms) same (sym c.drop_empty-2.ensures.marks)

pub invariant_of-self-2 : goal.invariant_of-self-2
invariant_of-self-2 c =
    let held = subst (λ (ms : List Mark). (c.self.inside.count ≡ length ms) × AreAscendingMarks ms) (c.self.view_is ∙ parted c) (c.self.invariant.counted, c.self.invariant.ascending) in
    hold-rest c.self.inside.count (c.since-since.result, c.take_first-name.result) c.drop_empty-2.new.groups.items c.drop_empty-2.ensures.sorted held.0 held.1

pub returns-clause-least : goal.returns-clause-least
returns-clause-least c =
    least-first (c.since-since.result, c.take_first-name.result) (marks_in c.drop_empty-2.new.groups.items) (subst AreAscendingMarks (c.self.view_is ∙ parted c) c.self.invariant.ascending)

pub returns-clause-given : goal.returns-clause-given
returns-clause-given c = (
  λ no. absurd (true≢false no),
  λ all.
      let late : c.args.floor < c.since-since.result = All-head (λ (m : Mark). c.args.floor < m.0) (c.since-since.result, c.take_first-name.result) (marks_in c.drop_empty-2.new.groups.items) (subst (All (λ (m : Mark). c.args.floor < m.0)) (parted c) all) in
      let due = c.if-since-floor.false in
      absurd (omega arith),
)
