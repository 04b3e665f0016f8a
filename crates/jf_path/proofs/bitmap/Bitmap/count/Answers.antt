use Rattle.std.proofs.Common.{ap, ◌∙◌, sym, take, drop, ◌/◌, ◌^◌, arith}
use Rattle.std.specs.List.{count_by}
use Rattle.jf_path.proofs.BitmapLaws.{count_by-range, masked}
use Rattle.jf_path.proofs.bitmap.Bitmap.count.Goals as goal

pub returns : goal.returns
returns c =
    masked (c.self.inside.bits / 2 ^ c.args.start) c.args.width (omega (arith, c.requires)) ∙ sym (count_by-range 16 c.self.inside.bits c.args.start c.args.width c.requires)
    ∙ ap (λ bits. count_by (λ bit. bit) (take c.args.width (drop c.args.start bits))) c.self.view_is
