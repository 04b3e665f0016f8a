use Rattle.std.proofs.Common.{◌∙◌, ap, sym}
use Rattle.sha2.specs.Sha256.{sha256}
use Rattle.jf_hash.proofs.Messages.{laid_out}
use Rattle.jf_accum.proofs.TotalLaws.{B-input}
use Rattle.jf_accum.proofs.tagged.pair.Goals as goal

pub returns : goal.returns
returns c =
    c.digest.ensures ∙ ap sha256 (laid_out 6 c.args.left.now c.args.right.now c.copy_from_slice.new.self c.copy_from_slice-2.new.self c.told-left c.told-right c.copy_from_slice.ensures.after c.copy_from_slice-2.ensures.after)
    ∙ sym (B-input c.args.left.now c.args.right.now)
