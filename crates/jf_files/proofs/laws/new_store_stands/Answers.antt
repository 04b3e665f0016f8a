use Rattle.jf_files.proofs.NewStore.{new_store_stands}
use Rattle.jf_files.proofs.laws.new_store_stands.Goals as goal

pub returns : goal.returns
returns c = new_store_stands c.spelled_is_spelling.ensures c.checkpoints_give.ensures c.new_is_sound.ensures
