-- The empty path is 32 zero bytes.
use Rattle.jf_path.proofs.PackedPaths.{ArePackedNibbles-none}
use Rattle.jf_path.proofs.path.NibblePath.empty.Goals as goal

pub invariant_of-result : goal.invariant_of-result
invariant_of-result c = ArePackedNibbles-none
