use Rattle.jf_evidence.proofs.ChunkTurns.{goes-on}
use Rattle.jf_evidence.proofs.laws.honest_chunks_go_on.Goals as goal

pub returns : goal.returns
returns c = goes-on
