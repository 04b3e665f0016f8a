-- The nodes read so far and those still to be read are all nodes.
use Rattle.std.proofs.Common.{◌≡◌, ◌-◌, [], true}
use Rattle.jf_payload.specs.Reading.{many_at, live_at, live_rise}
use Rattle.jf_payload.proofs.lists.live_nodes_of.Given as goal

abbrev pub invariant-loop : goal.invariant-loop
invariant-loop l = record {
  same : many_at live_rise (live_at l.format) (l.count - l.counter) l.nodes l.rest ≡ many_at live_rise (live_at l.format) l.count [] l.bytes;
  passed : live_rise l.nodes ≡ true;
}
