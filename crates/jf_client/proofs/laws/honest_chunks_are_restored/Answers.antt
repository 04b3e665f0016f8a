use Rattle.jf_client.proofs.Restored.{chunks-restored}
use Rattle.jf_client.proofs.laws.honest_chunks_are_restored.Goals as goal

pub returns : goal.returns
returns c = chunks-restored c.chunks_are_read_back.ensures c.replies_begin_chunks.ensures c.honest_chunks_are_accepted.ensures c.honest_chunks_go_on.ensures
