use Rattle.std.proofs.Common.{◌∙◌, sym, [], arith}
use Rattle.jelly.proofs.Leaves.{first-one_found}
use Rattle.jelly.proofs.root.first_one.Goals as goal

pub returns-then-bit : goal.returns-then-bit
returns-then-bit c = first-one_found c.args.depth c.loop-i.i c.args.entries.now _ (omega arith) c.loop-i.invariant (λ lt. sym c.bit.ensures ∙ c.if-bit.true)

pub returns : goal.returns
returns c = first-one_found c.args.depth _ c.args.entries.now (record { key = []; value_hash = [] }) (omega arith) (λ k e lt. c.loop-i.invariant k e (omega arith)) (λ lt. absurd (omega arith))
