-- The names read so far and those still to be read are all names.
use Rattle.std.proofs.Common.{◌≡◌, ◌-◌, []}
use Rattle.jf_path.specs.Names.{are_rising}
use Rattle.jf_payload.specs.Reading.{many_at, named_at}
use Rattle.jf_payload.proofs.lists.names_of.Given as goal

abbrev pub invariant-loop : goal.invariant-loop
invariant-loop l = many_at are_rising named_at (l.count - l.counter) l.names l.rest ≡ many_at are_rising named_at l.count [] l.bytes
