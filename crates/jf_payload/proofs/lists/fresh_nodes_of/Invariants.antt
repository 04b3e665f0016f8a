-- The nodes read so far and those still to be read are all nodes.
use Rattle.std.proofs.Common.{◌≡◌, ◌-◌, []}
use Rattle.jf_payload.specs.Reading.{many_at, fresh_at, fresh_rise}
use Rattle.jf_payload.proofs.lists.fresh_nodes_of.Given as goal

abbrev pub invariant-loop : goal.invariant-loop
invariant-loop l = many_at fresh_rise (fresh_at l.format) (l.count - l.counter) l.nodes l.rest ≡ many_at fresh_rise (fresh_at l.format) l.count [] l.bytes
