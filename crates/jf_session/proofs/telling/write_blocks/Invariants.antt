-- what was appended is the text of the first blocks
use Rattle.std.proofs.Common.{◌≡◌, ◌++◌, take}
use Rattle.jf_lead.specs.Landings.{landings_text}
use Rattle.jf_session.specs.Telling.{rooted_blocks}
use Rattle.jf_session.proofs.telling.write_blocks.Given as goal

abbrev pub invariant-loop-at : goal.invariant-loop-at
invariant-loop-at l = l.told ≡ l.initial.told ++ landings_text (rooted_blocks l.version (take l.at l.batches) (take l.at l.roots))
