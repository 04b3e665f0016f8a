-- The landings that are left still lead to the directory.
use Rattle.std.proofs.Common.{take, ◌≤◌, length}
use Rattle.std.specs.Prelude.{reverse}
use Rattle.jf_standing.specs.Standing.{Standing}
use Rattle.jf_engine.specs.Landings.{LandsCommits}
use Rattle.jf_engine.proofs.landing.take_back.Given as goal

abbrev pub invariant-loop-left : goal.invariant-loop-left
invariant-loop-left l = record {
  within : l.left ≤ length l.landings;
  back : (from : Standing) → LandsCommits from (reverse l.fn.landings) l.fn.directory → LandsCommits from (reverse (take l.left l.landings)) l.directory;
}

abbrev pub decreases-loop-left : goal.decreases-loop-left
decreases-loop-left l = l.left
