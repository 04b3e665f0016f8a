use Rattle.std.proofs.Common.{ap, ◌∙◌, sym, take}
use Rattle.std.specs.List.{count_by}
use Rattle.jf_path.proofs.BitmapLaws.{count_by-front, masked}
use Rattle.jf_path.proofs.bitmap.Bitmap.rank.Goals as goal

pub returns : goal.returns
returns c =
    masked c.self.inside.bits c.args.place c.requires ∙ sym (count_by-front 16 c.self.inside.bits c.args.place c.requires)
    ∙ ap (λ bits. count_by (λ bit. bit) (take c.args.place bits)) c.self.view_is
