use Rattle.jf_receive.proofs.NoMemory.{lines-no_memory}
use Rattle.jf_receive.proofs.laws.no_lines_come_to_memory.Goals as goal

pub returns : goal.returns
returns c = lines-no_memory
