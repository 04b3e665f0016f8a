use Rattle.test_sharing.proofs.Gathering.{begins, goes_on, both_own, both_idle}
use Rattle.test_sharing.proofs.turns.gather.Goals as goal

pub loop-other-init : goal.loop-other-init
loop-other-init c = begins _ _ _ _ c.in-Some.ensures.items c.requires.new c.requires.seats.0

pub join-requires-clause-own : goal.join-requires-clause-own
join-requires-clause-own c = both_own _ _ _ _ _ c.loop-other.invariant c.in-Some-pop.ensures.items

pub join-requires-clause-idle : goal.join-requires-clause-idle
join-requires-clause-idle c = both_idle _ _ _ _ _ c.loop-other.invariant c.in-Some-pop.ensures.items

pub loop-other-preserved : goal.loop-other-preserved
loop-other-preserved c = goes_on _ _ _ _ _ _ c.loop-other.invariant c.in-Some-pop.ensures.items c.join.ensures.joins
