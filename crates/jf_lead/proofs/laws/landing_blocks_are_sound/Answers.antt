use Rattle.jf_lead.proofs.SoundBlocks.{landing_blocks-sound}
use Rattle.jf_lead.proofs.laws.landing_blocks_are_sound.Goals as goal

pub returns : goal.returns
returns c = landing_blocks-sound
