-- The landings before the present one are counted.
use Rattle.std.proofs.Common.{◌≡◌, length, take}
use Rattle.std.specs.List.{flat_map}
use Rattle.jf_payload.specs.Spelling.{commit_bytes}
use Rattle.jf_payload.proofs.length.commits_len.Given as goal

abbrev pub invariant-loop-commit : goal.invariant-loop-commit
invariant-loop-commit l = l.length ≡ length (flat_map (commit_bytes l.format) (take l.commit-index l.commits))
