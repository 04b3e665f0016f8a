use Rattle.std.proofs.Common.{arith}
use Rattle.jf_join.proofs.Zipped.{AllZip-next}
use Rattle.jf_update.specs.ValueHashes.{IsValueHash}
use Rattle.jf_update.proofs.hashing.hashes_in_order.Goals as goal

pub loop-entry-preserved : goal.loop-entry-preserved
loop-entry-preserved c =
    rw c.in_ok-push.ensures.items record { each = AllZip-next IsValueHash c.args.entries.now c.loop-entry.hashes.items c.loop-entry.entry-index c.entry-item.result c.value_hash.result (omega arith) c.entry-item.is c.loop-entry.invariant.each c.value_hash.ensures }
