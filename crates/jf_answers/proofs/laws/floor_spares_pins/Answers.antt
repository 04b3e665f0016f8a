use Rattle.jf_answers.proofs.SparedPins.{entries-SparesPins}
use Rattle.jf_answers.proofs.laws.floor_spares_pins.Goals as goal

pub returns : goal.returns
returns c = entries-SparesPins
