use Rattle.jf_history.proofs.Spared.{closed_spares_pins}
use Rattle.jf_history.proofs.laws.closed_spares_pins.Goals as goal

pub returns : goal.returns
returns c = closed_spares_pins
