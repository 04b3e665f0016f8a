-- The clauses follow from the laws of reading nodes.
use Rattle.std.proofs.Common.{arith}
use Rattle.jf_codec.proofs.Nodes.{is_whole_found, is_only_whole}
use Rattle.jf_codec.proofs.reading.decode_whole.Goals as goal

pub returns-clause-found : goal.returns-clause-found
returns-clause-found c = is_whole_found c.args.bytes.now c.whole_of.result (λ i. omega (arith, c.type_inv.bytes i)) c.whole_of.ensures

pub returns-clause-spelled : goal.returns-clause-spelled
returns-clause-spelled c = is_only_whole c.args.bytes.now c.whole_of.result c.whole_of.ensures
