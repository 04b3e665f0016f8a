use Rattle.jf_client.proofs.ManyJudged.{many_answers-accepted}
use Rattle.jf_client.proofs.laws.many_answers_are_accepted.Goals as goal

pub returns : goal.returns
returns c = many_answers-accepted c.many_blocks_are_read_back.ensures c.many_lines_begin_blocks.ensures c.replies_set_roots.ensures c.answers_are_accepted.ensures
