use Rattle.jf_names.proofs.BlockLaws.{claims_in-more}
use Rattle.jf_names.proofs.names.NameMap.write_claims.Goals as goal

pub loop-key-preserved : goal.loop-key-preserved
loop-key-preserved c =
    claims_in-more c.args.out.now c.loop-key.out c.write_named_claim.new.out c.args.snapshot.now.map c.in-Some.key.now c.in-Some.name.now c.as_slice.result.now _ c.args.self.now c.next.new.self c.loop-key.key-iterator
    c.in-Some.ensures.steps c.as_slice.ensures c.get.ensures c.in_ok-write_named_claim.ensures.ok c.loop-key.invariant
