use Rattle.std.proofs.Common.{◌≡◌, ◌∙◌, ap, Some, drop, ◌-◌, [], length, ◌++◌, ◌∷◌}
use Rattle.std.proofs.lemmas.Iterator.Adapters.{YieldsList-from_rev_slice}
use Rattle.std.proofs.lemmas.Iterator.Consumers.{YieldsList-turn}
use Rattle.std.specs.BTreeMap.{insert_entry}
use Rattle.jf_path.specs.Keys.{key_cmp}
use Rattle.jf_standing.proofs.Batches.{puts_of}
use Rattle.jf_replay.specs.Changes.{put_each}
use Rattle.jf_replay.proofs.Puts.{put-leaf-at, place-reversed, next-reversed}
use Rattle.jf_replay.proofs.changes.put_leaves.Goals as goal
use Rattle.jf_replay.proofs.changes.put_leaves.Goals.{In_ok-insert}

step : (c : In_ok-insert) → c.insert.new.self.entries ≡ put_each (puts_of (drop (length c.args.leaves.now - length (c.loop-leaf.yielded ++ c.in-Some.leaf ∷ [])) c.args.leaves.now)) c.args.changes.now.entries
step c =
    let leaves = c.args.leaves.now in
    let done = c.loop-leaf.yielded in
    let leaf = c.in-Some.leaf in
    let old = c.args.changes.now.entries in
    let turn = YieldsList-turn (YieldsList-from_rev_slice leaves (cc)) done _ c.loop-leaf.yielded_by _ _ leaf c.in-Some.is c.next.ensures.steps in
    let at = place-reversed leaves (length done) leaf.now turn.0 turn.1 in
    put-leaf-at leaves (length leaves - length done) leaf.now old c.loop-leaf.changes.entries _ at.0 at.1 at.2 c.loop-leaf.invariant
    (c.in_ok-insert.ensures.entries ∙ ap (λ v. insert_entry key_cmp c.loop-leaf.changes.entries leaf.now.0 (Some v)) c.in_ok-value.ensures)
    ∙ ap (λ k. put_each (puts_of (drop k leaves)) old) (next-reversed (length leaves) done leaf)

pub loop-leaf-preserved-in_ok-insert : goal.loop-leaf-preserved-in_ok-insert
loop-leaf-preserved-in_ok-insert c = step (goal.at.loop-leaf-preserved-in_ok-insert c).In_ok-insert

pub loop-leaf-preserved-in_ok-insert-2 : goal.loop-leaf-preserved-in_ok-insert-2
loop-leaf-preserved-in_ok-insert-2 c = step (goal.at.loop-leaf-preserved-in_ok-insert-2 c).In_ok-insert

pub loop-leaf-preserved-in_ok-insert-3 : goal.loop-leaf-preserved-in_ok-insert-3
loop-leaf-preserved-in_ok-insert-3 c = step (goal.at.loop-leaf-preserved-in_ok-insert-3 c).In_ok-insert

pub loop-leaf-preserved : goal.loop-leaf-preserved
loop-leaf-preserved c = step (goal.at.loop-leaf-preserved c).In_ok-insert
