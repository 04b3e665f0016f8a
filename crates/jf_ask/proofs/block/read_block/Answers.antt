use Rattle.std.proofs.Common.{◌∙◌}
use Rattle.jf_io.specs.Lines.{lines}
use Rattle.jf_ask.proofs.PartsBlock.{block_by_parts-block}
use Rattle.jf_ask.proofs.block.read_block.Goals as goal

pub returns-clause-block : goal.returns-clause-block
returns-clause-block c = c.read_parts.ensures.block ∙ block_by_parts-block (lines c.args.text.now)
