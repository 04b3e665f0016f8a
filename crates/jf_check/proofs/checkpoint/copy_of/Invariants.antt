-- The hashes before the present one are copied.
use Rattle.std.proofs.Common.{◌≡◌, take}
use Rattle.jf_check.proofs.checkpoint.copy_of.Given as goal

abbrev pub invariant-loop-hash : goal.invariant-loop-hash
invariant-loop-hash l = l.list ≡ take l.hash-index l.hashes
