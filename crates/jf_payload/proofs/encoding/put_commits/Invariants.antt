-- The landings before the present one are written.
use Rattle.std.proofs.Common.{◌≡◌, ◌++◌, take}
use Rattle.std.specs.List.{flat_map}
use Rattle.jf_payload.specs.Spelling.{commit_bytes}
use Rattle.jf_payload.proofs.encoding.put_commits.Given as goal

abbrev pub invariant-loop-commit : goal.invariant-loop-commit
invariant-loop-commit l = l.out ≡ l.fn.out ++ flat_map (commit_bytes l.format) (take l.commit-index l.commits)
