-- The landings read so far and those still to be read are all landings.
use Rattle.std.proofs.Common.{◌≡◌, ◌-◌, [], true}
use Rattle.jf_payload.specs.Spelling.{are_consecutive}
use Rattle.jf_payload.specs.Reading.{many_at, commit_at}
use Rattle.jf_payload.proofs.landings.commits_of.Given as goal

abbrev pub invariant-loop : goal.invariant-loop
invariant-loop l = record {
  same : many_at are_consecutive (commit_at l.format) (l.count - l.counter) l.commits l.rest ≡ many_at are_consecutive (commit_at l.format) l.count [] l.bytes;
  passed : are_consecutive l.commits ≡ true;
}
