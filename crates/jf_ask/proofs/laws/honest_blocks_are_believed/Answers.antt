use Rattle.jf_ask.proofs.Believed.{honest-believed}
use Rattle.jf_ask.proofs.laws.honest_blocks_are_believed.Goals as goal

pub returns : goal.returns
returns c = honest-believed c.blocks_are_read_back.ensures c.replies_begin_blocks.ensures c.honest_claims_are_accepted.ensures
