use Rattle.std.proofs.Common.{◌≡◌, ◌++◌, ◌∷◌, [], Some, arith, sym, ap, ap₂, ◌∙◌, append-nil, refl}
use Rattle.std.specs.Option.{option_copied}
use Rattle.jf_path.specs.declared.name.NodeName.{NodeName}
use Rattle.jf_node.specs.Children.{content}
use Rattle.jf_walk.proofs.WalkLaws.{listed_to, listed_to-none}
use Rattle.jf_diff.specs.Landings.{version_or}
use Rattle.jf_diff.specs.Below.{IsBelow, listed_below, name_below}
use Rattle.jf_diff.proofs.Walks.{counted-own, stale_listed, from_node-listed_to, from_node-few, tells_kept, tells_new, stale_child, stale-child, child_in_sound, child_entries_none, child_entries_some, listed_to-below, listed_below-none}
use Rattle.jf_diff.proofs.list.+stale.Goals as goal

pub list_stale-loop-n-init : goal.list_stale-loop-n-init
list_stale-loop-n-init g t c = record {
  lists = λ over.
      let x = c.args.old.now in
      c.in_ok-push.ensures.items
      ∙ ap (λ e. c.args.out.now.items ++ e ∷ []) (ap₂ (λ v q. let name : NodeName = record { version = v; path = q } in name) (c.version.ensures ∙ ap version_or (sym c.know.ensures.own)) (sym (append-nil c.args.path.now)))
      ∙ ap (λ l. c.args.out.now.items ++ l) (sym (listed_to-none x.depth (content (option_copied c.args.new)) x.entries (name_below c.args.path.now x)));
  cost = counted-own _ _ _ _ _ c.in_ok-push.ensures.items c.tick.ensures;
}

pub list_stale-loop-n-preserved : goal.list_stale-loop-n-preserved
list_stale-loop-n-preserved g t c = record {
  lists = λ over.
      let x = c.args.old.now in
      let f = name_below c.args.path.now x in
      let ys = content (option_copied c.args.new) in
      listed_to-below x.depth c.loop-n.n ys x.entries f c.args.out.now.items c.loop-n.out.items _ (c.loop-n.invariant.lists over)
      (c.in_ok-list_stale_at.ensures.lists over ∙ ap (λ n. c.loop-n.out.items ++ listed_below x.depth n ys x.entries f) c.of.ensures);
  cost = omega (arith, c.in_ok-list_stale_at.ensures.cost, c.loop-n.invariant.cost);
}

pub list_stale-returns-clause-lists : goal.list_stale-returns-clause-lists
list_stale-returns-clause-lists g t c below =
    let x = c.args.old.now in
    let ys = content (option_copied c.args.new) in
    let f = name_below c.args.path.now x in
    let e : c.loop-n.n ≡ 16 = omega arith in
    c.loop-n.invariant.lists below ∙ ap (λ k. c.args.out.now.items ++ listed_to x.depth k ys x.entries f) e ∙ ap (λ l. c.args.out.now.items ++ l) (sym (from_node-listed_to x.depth ys x.entries f))

pub list_stale_at-returns-in-None-clause-lists : goal.list_stale_at-returns-in-None-clause-lists
list_stale_at-returns-in-None-clause-lists g t c over =
    let x = c.args.old.now in
    sym (append-nil c.args.out.now.items)
    ∙ ap (λ l. c.args.out.now.items ++ l) (sym (listed_below-none x.depth c.args.n (content (option_copied c.args.new)) x.entries (name_below c.args.path.now x) (child_entries_none x c.args.n c.args.n c.child_of.result c.child_of.ensures c.in-None.is refl)))

pub list_stale_at-returns-then-is_kept-clause-lists : goal.list_stale_at-returns-then-is_kept-clause-lists
list_stale_at-returns-then-is_kept-clause-lists g t c over =
    let x = c.args.old.now in
    let y = option_copied c.args.new in
    let n = c.args.n in
    let old = c.in-Some.child.now in
    let there = option_copied c.child_in-there.result in
    let path = c.args.path.now ++ n ∷ [] in
    let below : IsBelow x n (Some old) = child_entries_some x n n c.child_of.result c.in-Some.child c.child_of.ensures c.in-Some.is refl in
    stale_listed c.args.version old there (name_below path old) c.args.out.now.items c.args.out.now.items below.sound (child_in_sound y n there c.child_in-there.ensures) (stale_child c.args.version x y n n old there c.requires.new over below c.child_in-there.ensures refl)
    (λ other. refl) (λ own under. absurd (tells_kept c.args.version there c.is_kept.result c.is_kept.ensures c.if-is_kept.true own))
    ∙ ap (λ l. c.args.out.now.items ++ l) (stale-child c.args.path.now path x y n old there c.requires.new below c.child_in-there.ensures refl)

pub list_stale_at-returns-in_ok-list_stale-in-Some-clause-lists : goal.list_stale_at-returns-in_ok-list_stale-in-Some-clause-lists
list_stale_at-returns-in_ok-list_stale-in-Some-clause-lists g t c over =
    let x = c.args.old.now in
    let y = option_copied c.args.new in
    let n = c.args.n in
    let old = c.in-Some.child.now in
    let there = option_copied c.child_in-there.result in
    let below : IsBelow x n (Some old) = child_entries_some x n n c.child_of.result c.in-Some.child c.child_of.ensures c.in-Some.is refl in
    stale_listed c.args.version old there (name_below c.child.result old) c.args.out.now.items _ below.sound (child_in_sound y n there c.child_in-there.ensures) (stale_child c.args.version x y n n old there c.requires.new over below c.child_in-there.ensures refl)
    (λ other. absurd (other (tells_new c.args.version there c.is_kept.result c.is_kept.ensures c.if-is_kept.false))) (λ own. c.in_ok-list_stale-in-Some.ensures.lists)
    ∙ ap (λ l. c.args.out.now.items ++ l) (stale-child c.args.path.now c.child.result x y n old there c.requires.new below c.child_in-there.ensures c.child.ensures)

pub list_stale-returns-then-count-eq1-clause-lists : goal.list_stale-returns-then-count-eq1-clause-lists
list_stale-returns-then-count-eq1-clause-lists g t c over =
    let x = c.args.old.now in
    c.in_ok-push.ensures.items
    ∙ ap (λ e. c.args.out.now.items ++ e ∷ []) (ap₂ (λ v q. let name : NodeName = record { version = v; path = q } in name) (c.version.ensures ∙ ap version_or (sym c.know.ensures.own)) (sym (append-nil c.args.path.now)))
    ∙ ap (λ l. c.args.out.now.items ++ l) (from_node-few x.depth (content (option_copied c.args.new)) x.entries (name_below c.args.path.now x) (omega (arith, c.count.ensures, c.if-count-eq1.true)))
