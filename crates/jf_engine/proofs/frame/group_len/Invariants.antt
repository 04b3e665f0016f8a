-- The landings before the present one are counted.
use Rattle.std.proofs.Common.{◌≡◌, ◌+◌, length, take}
use Rattle.std.specs.List.{flat_map}
use Rattle.jf_payload.specs.Spelling.{commit_bytes}
use Rattle.jf_engine.proofs.frame.group_len.Given as goal

abbrev pub invariant-loop-landing : goal.invariant-loop-landing
invariant-loop-landing l = l.length ≡ 8 + length (flat_map (commit_bytes l.format) (take l.landing-index l.landings))
