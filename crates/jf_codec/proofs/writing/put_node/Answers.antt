-- The children of a node stand at nibbles, since those that the format keeps do.
use Rattle.std.proofs.Common.{subst}
use Rattle.jf_codec.specs.Spelling.{IsNode}
use Rattle.jf_codec.specs.Counted.{in_format}
use Rattle.jf_codec.proofs.Counted.{small_nibbles}
use Rattle.jf_codec.proofs.writing.put_node.Goals as goal

pub put_inner-requires-clause-nibbles : goal.put_inner-requires-clause-nibbles
put_inner-requires-clause-nibbles c = rw c.as_slice-in-Inner.ensures.value (small_nibbles c.args.format _ (subst (λ n. IsNode c.args.format (in_format c.args.format n)) c.in-Inner.is c.requires))
