use Rattle.std.proofs.Common.{◌+◌, ◌<◌, ◌%◌, ◌^◌, ◌-◌, ◌≡◌, ◌∙◌, sym, subst}
use Rattle.jf_node.proofs.RangePlaces.{placed, node_several, halves_of, upper_is}
use Rattle.jf_node.proofs.range.Range.ones.Goals as goal

pub among-requires-clause-inner : goal.among-requires-clause-inner
among-requires-clause-inner c = node_several _ _ _ _ (placed _ _ _ _ _ c.self.invariant c.in-Places.is)

pub among-requires-clause-aligned : goal.among-requires-clause-aligned
among-requires-clause-aligned c =
    subst (λ w. (c.in-Places.start + w) % 2 ^ (c.in-Places.level - 1) ≡ 0) (sym c.width.ensures) (halves_of _ _ _ _ (placed _ _ _ _ _ c.self.invariant c.in-Places.is)).upper

pub among-requires-clause-within : goal.among-requires-clause-within
among-requires-clause-within c = subst (λ w. c.in-Places.start + w < 16) (sym c.width.ensures) (halves_of _ _ _ _ (placed _ _ _ _ _ c.self.invariant c.in-Places.is)).within

pub returns-in-Places : goal.returns-in-Places
returns-in-Places c = c.among.ensures ∙ upper_is _ _ _ _ _ _ _ c.self.view_is c.self.invariant c.in-Places.is c.width.ensures
