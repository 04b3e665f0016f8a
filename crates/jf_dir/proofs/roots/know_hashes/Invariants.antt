-- The hashes before the present one have 32 bytes.
use Rattle.std.proofs.Common.{take}
use Rattle.std.specs.List.{AllByRecursion}
use Rattle.jf_path.specs.Keys.{IsKey}
use Rattle.jf_dir.proofs.roots.know_hashes.Given as goal

abbrev pub invariant-loop-hash : goal.invariant-loop-hash
invariant-loop-hash l = AllByRecursion IsKey (take l.hash-index l.hashes)
