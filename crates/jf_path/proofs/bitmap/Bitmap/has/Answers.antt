use Rattle.std.proofs.Common.{ap, ◌∙◌, sym, false, get_or, ◌==◌, ◌/◌, ◌^◌}
use Rattle.std.proofs.lemmas.Nat.{and_mask}
use Rattle.jf_path.proofs.BitmapLaws.{get_or-bits_of}
use Rattle.jf_path.proofs.bitmap.Bitmap.has.Goals as goal

pub returns : goal.returns
returns c =
    ap (λ bit. bit == 1) (and_mask (c.self.inside.bits / 2 ^ c.args.place) 1) ∙ sym (get_or-bits_of 16 c.self.inside.bits c.args.place false c.requires) ∙ ap (λ bits. get_or bits c.args.place false) c.self.view_is
