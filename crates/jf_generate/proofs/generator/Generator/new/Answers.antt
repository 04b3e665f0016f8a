use Rattle.jf_generate.proofs.ScriptLaws.{length-script_le}
use Rattle.jf_generate.proofs.generator.Generator.new.Goals as goal

pub returns-clause-bounded : goal.returns-clause-bounded
returns-clause-bounded c = rw c.after_batch.ensures.lines (length-script_le c.args.seed c.args.batches c.args.size c.requires.batches c.requires.size.1)
