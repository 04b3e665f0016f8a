-- The number of landings is written, and so are those before the present one.
use Rattle.std.proofs.Common.{◌≡◌, ◌++◌, length, take}
use Rattle.std.specs.List.{flat_map}
use Rattle.jf_path.specs.Numbers.{eight_bytes}
use Rattle.jf_payload.specs.Spelling.{commit_bytes}
use Rattle.jf_engine.proofs.frame.put_group.Given as goal

abbrev pub invariant-loop-landing : goal.invariant-loop-landing
invariant-loop-landing l = l.out ≡ l.fn.out ++ (eight_bytes (length l.landings) ++ flat_map (commit_bytes l.format) (take l.landing-index l.landings))
