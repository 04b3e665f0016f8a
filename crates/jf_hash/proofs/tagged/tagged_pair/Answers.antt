use Rattle.std.proofs.Common.{◌∙◌, ap}
use Rattle.sha2.specs.Sha256.{sha256}
use Rattle.jf_hash.proofs.Messages.{laid_out}
use Rattle.jf_hash.proofs.tagged.tagged_pair.Goals as goal

pub returns : goal.returns
returns c =
    c.digest.ensures ∙ ap sha256 (laid_out c.args.tag c.args.first.now c.args.second.now c.copy_from_slice.new.self c.copy_from_slice-2.new.self c.told-first c.told-second c.copy_from_slice.ensures.after c.copy_from_slice-2.ensures.after)
