use Rattle.jf_plain.proofs.Merges.{IsMergeTurn, turn-within, turn-whole, turn-last}
use Rattle.jf_plain.proofs.map.merged_entries.Goals as goal

pub loop-key-preserved : goal.loop-key-preserved
loop-key-preserved c =
    let turn : IsMergeTurn c.args.entries.now c.args.batch.now c.loop-key.next c.loop-key.key-index c.loop-key-item.result c.count_below.result c.count_at.result =
    record { entries = c.requires.sorted; batch = c.requires.batch; short = c.loop-key.invariant.within; more = c.loop-key-test.true; item_is = c.loop-key-item.is; below_is = c.count_below.ensures; at_is = c.count_at.ensures } in
    record {
      within = turn-within _ _ _ _ _ _ _ turn;
      whole = turn-whole _ _ _ _ _ _ _ _ _ _ _ turn c.in_ok-push_copies.ensures c.in_ok-push_put.ensures c.loop-key.invariant.whole;
    }

pub returns : goal.returns
returns c = turn-last _ _ _ _ _ _ c.loop-key-test.false c.in_ok-push_copies-2.ensures c.loop-key.invariant.whole
