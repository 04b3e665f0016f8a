use Rattle.std.proofs.Common.{◌≡◌, map, take}
use Rattle.jf_hash.specs.Hashes.{V}
use Rattle.test_update.proofs.restoring.hashes_of.Given as goal

-- the hashes of the values so far
abbrev pub invariant-loop-entry : goal.invariant-loop-entry
invariant-loop-entry l = l.hashes.items ≡ map (λ e. V e.1) (take l.entry-index l.entries)
