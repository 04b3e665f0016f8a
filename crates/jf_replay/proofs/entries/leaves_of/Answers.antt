use Rattle.std.proofs.Common.{◌≡◌, ◌∙◌, ap, drop, ◌-◌}
use Rattle.std.specs.BTreeMap.{insert_entry}
use Rattle.jf_path.specs.Keys.{key_cmp}
use Rattle.jf_replay.specs.Floors.{entries_in}
use Rattle.jf_replay.proofs.KeyOrder.{leaf_put_at}
use Rattle.jf_replay.proofs.entries.leaves_of.Goals as goal
use Rattle.jf_replay.proofs.entries.leaves_of.Goals.{In_ok-insert}

step : (c : In_ok-insert) → c.insert.new.self.entries ≡ entries_in (drop (c.loop-i.i - 1) c.args.nodes.now)
step c =
    leaf_put_at c.args.nodes.now c.loop-i.i c.index-nodes-i.result c.in-Leaf.key c.in-Leaf.value c.loop-i.entries.entries _ c.loop-i-test.true c.loop-i.auto.i c.in-Leaf.is c.loop-i.invariant
    (c.in_ok-insert.ensures.entries ∙ ap (λ v. insert_entry key_cmp c.loop-i.entries.entries c.in-Leaf.key v) (c.in_ok-value.ensures ∙ c.as_slice.ensures))

pub loop-i-preserved-in_ok-insert : goal.loop-i-preserved-in_ok-insert
loop-i-preserved-in_ok-insert c = step (goal.at.loop-i-preserved-in_ok-insert c).In_ok-insert

pub loop-i-preserved-in_ok-insert-2 : goal.loop-i-preserved-in_ok-insert-2
loop-i-preserved-in_ok-insert-2 c = step (goal.at.loop-i-preserved-in_ok-insert-2 c).In_ok-insert

pub loop-i-preserved-in_ok-insert-3 : goal.loop-i-preserved-in_ok-insert-3
loop-i-preserved-in_ok-insert-3 c = step (goal.at.loop-i-preserved-in_ok-insert-3 c).In_ok-insert
