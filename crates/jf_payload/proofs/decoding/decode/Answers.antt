-- The clauses follow from the laws of reading records.
use Rattle.std.proofs.Common.{arith}
use Rattle.jf_payload.proofs.WholeRecords.{is_exact, is_found, is_bad, is_only}
use Rattle.jf_payload.proofs.decoding.decode.Goals as goal

pub returns-clause-exact : goal.returns-clause-exact
returns-clause-exact c = is_exact c.args.format c.args.kind c.args.payload.now c.whole_of.result (λ i. omega (arith, c.type_inv.payload i)) c.whole_of.ensures

pub returns-clause-found : goal.returns-clause-found
returns-clause-found c = is_found c.args.format c.args.kind c.args.payload.now c.whole_of.result (returns-clause-exact c)

pub returns-clause-bad : goal.returns-clause-bad
returns-clause-bad c = is_bad c.args.format c.args.kind c.args.payload.now c.whole_of.result (returns-clause-exact c)

pub returns-clause-spelled : goal.returns-clause-spelled
returns-clause-spelled c = is_only c.args.format c.args.kind c.args.payload.now c.whole_of.result (returns-clause-exact c)
