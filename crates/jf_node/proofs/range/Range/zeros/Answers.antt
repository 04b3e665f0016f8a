use Rattle.std.proofs.Common.{◌∙◌}
use Rattle.jf_node.proofs.RangePlaces.{placed, node_several, halves_of, lower_is}
use Rattle.jf_node.proofs.range.Range.zeros.Goals as goal

pub among-requires-clause-inner : goal.among-requires-clause-inner
among-requires-clause-inner c = node_several _ _ _ _ (placed _ _ _ _ _ c.self.invariant c.in-Places.is)

pub among-requires-clause-aligned : goal.among-requires-clause-aligned
among-requires-clause-aligned c = (halves_of _ _ _ _ (placed _ _ _ _ _ c.self.invariant c.in-Places.is)).lower

pub returns-in-Places : goal.returns-in-Places
returns-in-Places c = c.among.ensures ∙ lower_is _ _ _ _ _ _ c.self.view_is c.self.invariant c.in-Places.is
