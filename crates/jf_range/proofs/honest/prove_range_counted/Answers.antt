use Rattle.std.proofs.Common.{ap, arith, length}
use Rattle.jf_range.proofs.Rights.{chunk-some, chunk-made}
use Rattle.jf_range.proofs.honest.prove_range_counted.Goals as goal

pub unreachable-requires : goal.unreachable-requires
unreachable-requires g c =
    let some = chunk-some c.args.snapshot.now.map c.args.start c.args.count c.count-total.result c.in_ok-entries.entries (omega arith) c.count-total.ensures c.requires c.in_ok-entries.ensures.entries in
    let none = c.in_default.ensures.item.3 in
    let long = ap length c.as_slice.ensures in
    absurd (omega arith)

pub returns-clause-chunk : goal.returns-clause-chunk
returns-clause-chunk g c =
    let item = c.in-Some.ensures.item in
    chunk-made c.args.snapshot.now.map c.args.start c.args.count c.count-total.result c.in_ok-entries.entries c.as_slice.result.now c.in-Some.last.now c.in_ok-proof.proof (omega arith) c.count-total.ensures c.in_ok-entries.ensures.entries c.as_slice.ensures
    item.3.0 item.1 c.in_ok-proof.ensures.proof
