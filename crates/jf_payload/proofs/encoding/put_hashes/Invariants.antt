-- The hashes before the present one are written.
use Rattle.std.proofs.Common.{◌≡◌, ◌++◌, take}
use Rattle.std.specs.List.{flat_map}
use Rattle.jf_payload.proofs.encoding.put_hashes.Given as goal

abbrev pub invariant-loop-hash : goal.invariant-loop-hash
invariant-loop-hash l = l.out ≡ l.fn.out ++ flat_map (λ h. h) (take l.hash-index l.hashes)
