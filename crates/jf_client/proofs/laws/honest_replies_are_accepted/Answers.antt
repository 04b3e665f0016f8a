use Rattle.jf_client.proofs.Replies.{replies-accepted}
use Rattle.jf_client.proofs.laws.honest_replies_are_accepted.Goals as goal

pub returns : goal.returns
returns c = replies-accepted c.blocks_are_read_back.ensures c.replies_begin_blocks.ensures c.replies_set_roots.ensures c.honest_claims_are_accepted.ensures
