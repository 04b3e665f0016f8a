use Rattle.jf_many_blocks.proofs.ManyTexts.{is_lone-more}
use Rattle.jf_many_blocks.proofs.lines.is_lone.Goals as goal

pub returns-in-Some : goal.returns-in-Some
returns-in-Some c = is_lone-more c.args.keyword.now _ _ _ (rw c.in-Some.is at c.split_word.ensures)
