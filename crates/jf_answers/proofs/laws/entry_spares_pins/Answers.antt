use Rattle.jf_answers.proofs.SparedPins.{entry-SparesPins}
use Rattle.jf_answers.proofs.laws.entry_spares_pins.Goals as goal

pub returns : goal.returns
returns c = entry-SparesPins
