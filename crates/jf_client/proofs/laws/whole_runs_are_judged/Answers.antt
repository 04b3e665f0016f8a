use Rattle.jf_client.proofs.RunJudged.{runs-judged}
use Rattle.jf_client.proofs.laws.whole_runs_are_judged.Goals as goal

pub returns : goal.returns
returns c = runs-judged c.blocks_are_read_back.ensures c.replies_begin_blocks.ensures c.replies_set_roots.ensures c.honest_claims_are_accepted.ensures
