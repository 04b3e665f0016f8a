use Rattle.std.proofs.Common.{◌≡◌, ◌++◌, ◌∷◌, [], arith, sym, ap, ◌∙◌, append-nil, refl, Some}
use Rattle.jf_model.specs.Nodes.{Path}
use Rattle.jf_model.specs.ChildEntries.{child_entries}
use Rattle.jf_walk.proofs.WalkLaws.{listed_to, listed_to-none}
use Rattle.jf_diff.specs.Below.{IsBelow, listed_below}
use Rattle.jf_diff.specs.Plains.{fresh_below, plain_at}
use Rattle.jf_diff.proofs.PlainNodes.{fresh-child}
use Rattle.jf_diff.proofs.Walks.{counted-own, fresh_own, fresh_others, from_node-listed_to, from_node-few, child_over, child_entries_none, child_entries_some, listed_to-below, listed_below-none}
use Rattle.jf_diff.proofs.list.+fresh.Goals as goal

pub list_fresh-loop-n-init : goal.list_fresh-loop-n-init
list_fresh-loop-n-init g t c = record {
  lists = λ es before below.
      let f = fresh_below c.args.version c.args.path.now c.args.link.now in
      c.in_ok-push.ensures.ok
      ∙ ap (λ (q : Path). c.args.out.now ++ (record { version = c.args.version; path = q }, plain_at c.args.link.now []) ∷ []) (sym (append-nil c.args.path.now))
      ∙ ap (λ l. c.args.out.now ++ l) (sym (listed_to-none c.args.link.now.depth es c.args.link.now.entries f));
  cost = counted-own _ _ _ _ _ c.in_ok-push.ensures.ok c.tick.ensures;
}

pub list_fresh-loop-n-preserved : goal.list_fresh-loop-n-preserved
list_fresh-loop-n-preserved g t c = record {
  lists = λ es before below.
      let x = c.args.link.now in
      let f = fresh_below c.args.version c.args.path.now x in
      listed_to-below x.depth c.loop-n.n es x.entries f c.args.out.now c.loop-n.out _ (c.loop-n.invariant.lists es before below)
      (c.in_ok-list_fresh_at.ensures.lists es before below ∙ ap (λ n. c.loop-n.out ++ listed_below x.depth n es x.entries f) c.of.ensures);
  cost = omega (arith, c.in_ok-list_fresh_at.ensures.cost, c.loop-n.invariant.cost);
}

pub list_fresh-returns-clause-lists : goal.list_fresh-returns-clause-lists
list_fresh-returns-clause-lists g t c es before below =
    let x = c.args.link.now in
    let f = fresh_below c.args.version c.args.path.now x in
    let e : c.loop-n.n ≡ 16 = omega arith in
    c.loop-n.invariant.lists es before below ∙ ap (λ k. c.args.out.now ++ listed_to x.depth k es x.entries f) e ∙ ap (λ l. c.args.out.now ++ l) (sym (from_node-listed_to x.depth es x.entries f))

pub list_fresh_at-returns-in-None-clause-lists : goal.list_fresh_at-returns-in-None-clause-lists
list_fresh_at-returns-in-None-clause-lists g t c es before below =
    let x = c.args.link.now in
    sym (append-nil c.args.out.now)
    ∙ ap (λ l. c.args.out.now ++ l) (sym (listed_below-none x.depth c.args.n es x.entries (fresh_below c.args.version c.args.path.now x) (child_entries_none x c.args.n c.args.n c.child_of.result c.child_of.ensures c.in-None.is refl)))

pub list_fresh_at-returns-then-version-clause-lists : goal.list_fresh_at-returns-then-version-clause-lists
list_fresh_at-returns-then-version-clause-lists g t c es before over =
    let x = c.args.link.now in
    let y = c.in-Some.child.now in
    let n = c.args.n in
    let path = c.args.path.now ++ n ∷ [] in
    let below : IsBelow x n (Some y) = child_entries_some x n n c.child_of.result c.in-Some.child c.child_of.ensures c.in-Some.is refl in
    fresh_others c.args.version (child_entries x.depth n es) (λ p. before (n ∷ p)) y (fresh_below c.args.version path y) c.args.out.now below.sound (child_over c.args.version es before x n y over below) (λ own. c.if-version.true (c.version.ensures ∙ own))
    ∙ ap (λ l. c.args.out.now ++ l) (fresh-child c.args.version c.args.path.now path x n y es below refl)

pub list_fresh_at-returns-in_ok-list_fresh-in-Some-clause-lists : goal.list_fresh_at-returns-in_ok-list_fresh-in-Some-clause-lists
list_fresh_at-returns-in_ok-list_fresh-in-Some-clause-lists g t c es before over =
    let x = c.args.link.now in
    let y = c.in-Some.child.now in
    let n = c.args.n in
    let below : IsBelow x n (Some y) = child_entries_some x n n c.child_of.result c.in-Some.child c.child_of.ensures c.in-Some.is refl in
    fresh_own c.args.version (child_entries x.depth n es) (λ p. before (n ∷ p)) y (fresh_below c.args.version c.child.result y) c.args.out.now _ below.sound (child_over c.args.version es before x n y over below) (sym c.version.ensures ∙ c.if-version.false)
    (c.in_ok-list_fresh-in-Some.ensures.lists (child_entries x.depth n es) (λ p. before (n ∷ p)))
    ∙ ap (λ l. c.args.out.now ++ l) (fresh-child c.args.version c.args.path.now c.child.result x n y es below c.child.ensures)

pub list_fresh-returns-then-count-eq1-clause-lists : goal.list_fresh-returns-then-count-eq1-clause-lists
list_fresh-returns-then-count-eq1-clause-lists g t c es before below =
    let x = c.args.link.now in
    let f = fresh_below c.args.version c.args.path.now x in
    c.in_ok-push.ensures.ok
    ∙ ap (λ (q : Path). c.args.out.now ++ (record { version = c.args.version; path = q }, plain_at x []) ∷ []) (sym (append-nil c.args.path.now))
    ∙ ap (λ l. c.args.out.now ++ l) (from_node-few x.depth es x.entries f (omega (arith, c.count.ensures, c.if-count-eq1.true)))
