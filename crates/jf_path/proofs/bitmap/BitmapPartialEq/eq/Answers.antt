use Rattle.std.proofs.Common.{arith}
use Rattle.jf_path.proofs.BitmapLaws.{mask-view}
use Rattle.jf_path.proofs.bitmap.BitmapPartialEq.eq.Goals as goal

pub returns : goal.returns
returns c = grind (arith, mask-view)
