-- The clauses follow from the laws of reading names.
use Rattle.std.proofs.Common.{arith}
use Rattle.jf_codec.proofs.Names.{is_name_found, is_only_name}
use Rattle.jf_codec.proofs.name.decode_name.Goals as goal

pub returns-clause-found : goal.returns-clause-found
returns-clause-found c = is_name_found c.args.bytes.now c.measured_name.result (λ i. omega (arith, c.type_inv.bytes i)) c.measured_name.ensures

pub returns-clause-spelled : goal.returns-clause-spelled
returns-clause-spelled c = is_only_name c.args.bytes.now c.measured_name.result c.measured_name.ensures
