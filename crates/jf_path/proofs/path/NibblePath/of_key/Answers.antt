-- The bytes of a key are its path, packed.
use Rattle.jf_path.proofs.PackedPaths.{ArePackedNibbles-key, halves_of_key}
use Rattle.jf_path.proofs.path.NibblePath.of_key.Goals as goal

pub invariant_of-result : goal.invariant_of-result
invariant_of-result c = ArePackedNibbles-key c.args.key.now c.know_key.ensures

pub returns : goal.returns
returns c = halves_of_key c.args.key.now c.know_key.ensures
