use Rattle.std.proofs.Common.{sym, ap, ◌∙◌}
use Rattle.jf_replay.specs.Cuts.{has_numbers}
use Rattle.jf_replay.proofs.Numbered.{one-fails}
use Rattle.jf_replay.proofs.numbers.have_numbers.Goals as goal

pub returns-then-not-has_numbers : goal.returns-then-not-has_numbers
returns-then-not-has_numbers c = sym (one-fails (has_numbers c.args.floor c.args.head) c.args.nodes.now c.loop-node.node-index _ c.loop-node-test.true (ap (has_numbers c.args.floor c.args.head) (sym c.node-item.is) ∙ sym c.has_numbers.ensures ∙ c.if-not-has_numbers.true))
