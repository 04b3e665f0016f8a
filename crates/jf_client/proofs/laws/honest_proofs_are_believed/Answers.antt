use Rattle.jf_client.proofs.Believed.{proofs-believed}
use Rattle.jf_client.proofs.laws.honest_proofs_are_believed.Goals as goal

pub returns : goal.returns
returns c = proofs-believed c.honest_blocks_are_believed.ensures
