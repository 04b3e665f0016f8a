use Rattle.jf_evidence.proofs.ChunkTurns.{come-in-turn}
use Rattle.jf_evidence.proofs.laws.honest_chunks_come_in_turn.Goals as goal

pub returns : goal.returns
returns c = come-in-turn
