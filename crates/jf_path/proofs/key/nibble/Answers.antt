-- Each half of a byte is a nibble.
use Rattle.std.proofs.Common.{◌/◌}
use Rattle.jf_path.proofs.Halves.{half_nibble}
use Rattle.jf_path.proofs.key.nibble.Goals as goal

pub returns : goal.returns
returns c = half_nibble c.args.key.now c.args.i c.half.result (c.fits-key (c.args.i / 2)) (record { even = c.half.ensures.even; odd = c.half.ensures.odd })
