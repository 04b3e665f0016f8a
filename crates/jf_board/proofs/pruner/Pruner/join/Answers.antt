use Rattle.std.proofs.Common.{ℕ, ap, subst}
use Rattle.jf_board.specs.declared.views.PlaceView.{PlaceView}
use Rattle.jf_board.specs.declared.views.PrunerView.{PrunerView}
use Rattle.jf_board.specs.Rule.{Has}
use Rattle.jf_board.specs.Steps.{NumbersAreGiven}
use Rattle.jf_board.proofs.pruner.Pruner.join.Goals as goal

pub returns-clause-pairs : goal.returns-clause-pairs
returns-clause-pairs c = let q = ap (λ s. s.known) c.self.view_is in let p = ap (λ s. s.known) c.place.view_is in
    subst (λ (z : PrunerView × PlaceView). (version : ℕ) → Has z.0.pairs (z.1.number, version) → Has z.1.announced version) (λ i. (q i, p i)) c.join_for_good.ensures.announced.0

pub returns-clause-given : goal.returns-clause-given
returns-clause-given c = subst NumbersAreGiven (ap (λ s. s.known) c.self.view_is) c.join_for_good.ensures.given
