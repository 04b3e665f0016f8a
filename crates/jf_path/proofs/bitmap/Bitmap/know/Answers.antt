use Rattle.std.proofs.Common.{ap, ◌∙◌, sym, length}
use Rattle.jf_path.proofs.BitmapLaws.{length-bits_of}
use Rattle.jf_path.proofs.bitmap.Bitmap.know.Goals as goal

pub returns : goal.returns
returns c = ap length (sym c.self.view_is) ∙ length-bits_of 16 c.self.inside.bits
