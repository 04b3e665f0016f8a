use Rattle.std.proofs.Common.{◌≡◌, ◌≤◌, ◌-◌, ◌++◌, [], map, length}
use Rattle.std.specs.Option.{option_map_or}
use Rattle.jf_path.specs.Limits.{max_sessions}
use Rattle.jf_io.specs.Lines.{lines}
use Rattle.jf_serve.specs.SessionScripts.{cut_at_sessions, scripts_in}
use Rattle.jf_serve.proofs.cutting.cut_input.Given as goal

abbrev pub invariant-loop-rest : goal.invariant-loop-rest
invariant-loop-rest l = record {
  number : length l.scripts ≤ max_sessions;
  cut : map lines l.scripts ++ option_map_or (λ bytes. cut_at_sessions (lines bytes.now)) l.rest [] ≡ scripts_in l.input;
}

abbrev pub decreases-loop-rest : goal.decreases-loop-rest
decreases-loop-rest l = max_sessions - length l.scripts
