-- The hashes read so far and those still to be read are all hashes.
use Rattle.std.proofs.Common.{◌≡◌, ◌-◌, []}
use Rattle.jf_payload.specs.Reading.{many_at, hash_at, any_hashes}
use Rattle.jf_payload.proofs.lists.hashes_of.Given as goal

abbrev pub invariant-loop : goal.invariant-loop
invariant-loop l = many_at any_hashes hash_at (l.count - l.counter) l.hashes l.rest ≡ many_at any_hashes hash_at l.count [] l.bytes
