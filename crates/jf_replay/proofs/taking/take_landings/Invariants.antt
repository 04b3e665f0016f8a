-- The landings before the present one are taken, and their bytes stand before the rest.
use Rattle.jf_standing.specs.FormatLaws.{standing_in}
use Rattle.jf_replay.proofs.Taken.{AreTakenAs}
use Rattle.jf_replay.proofs.taking.take_landings.Given as goal

abbrev pub invariant-loop : goal.invariant-loop
invariant-loop g l = AreTakenAs l.format (standing_in l.format l.fn.directory) l.bytes l.counter l.rest (standing_in l.format l.directory)
