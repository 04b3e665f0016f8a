use Rattle.std.proofs.Common.{◌∙◌}
use Rattle.jf_proof.proofs.Parted.{honest-entries}
use Rattle.jf_proof.proofs.honest.prove_counted.Goals as goal

pub returns-clause-proof : goal.returns-clause-proof
returns-clause-proof g c = c.in_ok-proof_in.ensures.proof ∙ honest-entries c.args.snapshot.now.map c.args.key.now c.range.result c.range.ensures
