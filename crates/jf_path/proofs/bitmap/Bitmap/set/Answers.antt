use Rattle.std.proofs.Common.{ap₂, ◌∙◌, sym, set}
use Rattle.jf_path.proofs.BitmapLaws.{bits_of-set, bits_of-clear}
use Rattle.jf_path.proofs.bitmap.Bitmap.set.Goals as goal

pub returns-then-on : goal.returns-then-on
returns-then-on c = bits_of-set c.self.inside.bits c.args.place c.requires ∙ ap₂ (λ bits on. set bits c.args.place on) c.self.view_is (sym c.if-on.true)

pub returns-else-on : goal.returns-else-on
returns-else-on c = bits_of-clear c.self.inside.bits c.args.place c.requires ∙ ap₂ (λ bits on. set bits c.args.place on) c.self.view_is (sym c.if-on.false)
