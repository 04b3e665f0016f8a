use Rattle.std.proofs.Common.{◌≡◌, ◌++◌, ◌∷◌, [], Some, arith, sym, ap, ◌∙◌, append-nil, refl}
use Rattle.std.specs.Option.{option_copied}
use Rattle.jf_node.specs.Children.{content}
use Rattle.jf_walk.proofs.WalkLaws.{listed_to, listed_to-none}
use Rattle.jf_diff.specs.Below.{IsBelow, listed_below}
use Rattle.jf_diff.specs.Gone.{gone_node_below}
use Rattle.jf_diff.proofs.Fronts.{front-push, front-through}
use Rattle.jf_diff.proofs.GoneLaws.{gone_one, gone_child}
use Rattle.jf_diff.proofs.Walks.{stale_listed, from_node-listed_to, tells_kept, tells_new, stale_child, child_in_entries, child_in_sound, child_entries_none, child_entries_some, listed_to-below, listed_below-child, listed_below-none}
use Rattle.jf_diff.proofs.gone.+gone.Goals as goal

pub list_gone-returns-then-is_kept-clause-listed : goal.list_gone-returns-then-is_kept-clause-listed
list_gone-returns-then-is_kept-clause-listed t c own below = absurd (tells_kept c.args.version (option_copied c.args.new) c.is_kept.result c.is_kept.ensures c.if-is_kept.true own)

pub list_gone-loop-n-init : goal.list_gone-loop-n-init
list_gone-loop-n-init t c =
    let x = c.args.old.now in
    record {
      front = front-push c.args.out.now.items _ _ c.in_ok-push.ensures.items;
      listed = λ over.
          c.in_ok-push.ensures.items
          ∙ ap (λ e. c.args.out.now.items ++ e ∷ []) (gone_one c.args.version c.args.path.now x _ _ _ c.version.ensures c.know.ensures.own c.in_ok-plain.ensures refl)
          ∙ ap (λ l. c.args.out.now.items ++ l) (sym (listed_to-none x.depth (content (option_copied c.args.new)) x.entries (gone_node_below c.args.version c.args.path.now x)));
    }

pub list_gone-loop-n-preserved : goal.list_gone-loop-n-preserved
list_gone-loop-n-preserved t c =
    let x = c.args.old.now in
    let f = gone_node_below c.args.version c.args.path.now x in
    let ys = content (option_copied c.args.new) in
    record {
      front = front-through c.args.out.now.items c.loop-n.out.items _ c.loop-n.invariant.front c.in_ok-list_gone_at.ensures.front;
      listed = λ over. listed_to-below x.depth c.loop-n.n ys x.entries f c.args.out.now.items c.loop-n.out.items _ (c.loop-n.invariant.listed over)
          (c.in_ok-list_gone_at.ensures.listed over ∙ ap (λ n. c.loop-n.out.items ++ listed_below x.depth n ys x.entries f) c.of.ensures);
    }

pub list_gone-returns-in_err-list_gone_at-clause-front : goal.list_gone-returns-in_err-list_gone_at-clause-front
list_gone-returns-in_err-list_gone_at-clause-front t c = front-through c.args.out.now.items c.loop-n.out.items _ c.loop-n.invariant.front c.list_gone_at.ensures.front

pub list_gone-returns-clause-front : goal.list_gone-returns-clause-front
list_gone-returns-clause-front t c = c.loop-n.invariant.front

pub list_gone-returns-clause-kept : goal.list_gone-returns-clause-kept
list_gone-returns-clause-kept t c other = absurd (other (tells_new c.args.version (option_copied c.args.new) c.is_kept.result c.is_kept.ensures c.if-is_kept.false))

pub list_gone-returns-clause-listed : goal.list_gone-returns-clause-listed
list_gone-returns-clause-listed t c own below =
    let x = c.args.old.now in
    let ys = content (option_copied c.args.new) in
    let f = gone_node_below c.args.version c.args.path.now x in
    let e : c.loop-n.n ≡ 16 = omega arith in
    c.loop-n.invariant.listed below ∙ ap (λ k. c.args.out.now.items ++ listed_to x.depth k ys x.entries f) e ∙ ap (λ l. c.args.out.now.items ++ l) (sym (from_node-listed_to x.depth ys x.entries f))

pub list_gone_at-returns-in-None-clause-listed : goal.list_gone_at-returns-in-None-clause-listed
list_gone_at-returns-in-None-clause-listed t c over =
    let x = c.args.old.now in
    sym (append-nil c.args.out.now.items)
    ∙ ap (λ l. c.args.out.now.items ++ l) (sym (listed_below-none x.depth c.args.n (content (option_copied c.args.new)) x.entries (gone_node_below c.args.version c.args.path.now x) (child_entries_none x c.args.n c.args.n c.child_of.result c.child_of.ensures c.in-None.is refl)))

pub list_gone_at-returns-in_ok-list_gone-in-Some-clause-listed : goal.list_gone_at-returns-in_ok-list_gone-in-Some-clause-listed
list_gone_at-returns-in_ok-list_gone-in-Some-clause-listed t c over =
    let x = c.args.old.now in
    let y = option_copied c.args.new in
    let n = c.args.n in
    let old = c.in-Some.child.now in
    let new = option_copied c.child_in.result in
    let below : IsBelow x n (Some old) = child_entries_some x n n c.child_of.result c.in-Some.child c.child_of.ensures c.in-Some.is refl in
    let f = gone_node_below c.args.version c.args.path.now x in
    let g = gone_node_below c.args.version c.child.result old in
    stale_listed c.args.version old new g c.args.out.now.items _ below.sound (child_in_sound y n new c.child_in.ensures) (stale_child c.args.version x y n n old new c.requires.new over below c.child_in.ensures refl)
    c.in_ok-list_gone-in-Some.ensures.kept c.in_ok-list_gone-in-Some.ensures.listed
    ∙ ap (λ l. c.args.out.now.items ++ l) (listed_below-child x.depth n old.depth (content y) (content new) x.entries old.entries f g below.placed.1 (child_in_entries x y n n new c.requires.new c.child_in.ensures refl) below.entries
    (gone_child c.args.version c.args.path.now x n old c.child.result below c.child.ensures))
