use Rattle.std.proofs.Common.{◌≡◌, List, ℕ, take, map}
use Rattle.jf_hash.specs.Hashes.{V}
use Rattle.jf_dir.proofs.restoring.hashes_of.Given as goal

-- the hashes are those of the values so far
abbrev pub invariant-loop-entry : goal.invariant-loop-entry
invariant-loop-entry l = l.hashes.items ≡ map (λ (e : List ℕ × List ℕ). V e.1) (take l.entry-index l.entries)
