use Rattle.std.proofs.Common.{rules}
use Rattle.jf_blocks.proofs.Words.{side_of-behind}
use Rattle.jf_blocks.proofs.lines.side_line.Goals as goal

pub returns-then-is_word : goal.returns-then-is_word
returns-then-is_word c = search (rules, side_of-behind)
