-- The bytes after a name are no more than all bytes, so their difference is a length.
use Rattle.std.proofs.Common.{arith}
use Rattle.jf_codec.proofs.Names.{name_short}
use Rattle.jf_codec.proofs.name.measured_name.Goals as goal

pub overflow_sub-result : goal.overflow_sub-result
overflow_sub-result c = name_short c.args.bytes.now (c.in-Ok.name, c.in-Ok.rest.now) (λ i. omega (arith, c.type_inv.bytes i)) c.in-Ok.ensures
