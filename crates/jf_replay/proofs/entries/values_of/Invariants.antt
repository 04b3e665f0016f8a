use Rattle.std.proofs.Common.{◌≡◌, ◌++◌, List, ℕ, map}
use Rattle.jf_replay.proofs.entries.values_of.Given as goal

-- the versions so far, and those that the iterator still gives, are all
abbrev pub invariant-loop-version : goal.invariant-loop-version
invariant-loop-version l = l.list.items ++ map (λ (e : List ℕ × ℕ). e.1) l.version-iterator ≡ map (λ (e : List ℕ × ℕ). e.1) l.fn.versions.entries
