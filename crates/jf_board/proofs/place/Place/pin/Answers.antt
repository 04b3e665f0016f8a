use Rattle.std.proofs.Common.{ap}
use Rattle.jf_board.specs.States.{place_of}
use Rattle.jf_board.proofs.Pinning.{pin_ok, pin_refused, least_free}
use Rattle.jf_board.proofs.place.Place.pin.Goals as goal

pub returns-then-gate-version-clause-refused : goal.returns-then-gate-version-clause-refused
returns-then-gate-version-clause-refused c = let found = c.in-Some.ensures.found in let v = place_of c.self.inside.seat.me.0 in
    pin_refused _ v _ _ _ c.in-Some.index c.args.version c.confirm-gate.result (ap (λ s. s.known) c.self.view_is) (least_free _ v _ c.self.invariant.6 found.0 found.1 found.2) c.if-gate-version.true
    (ap (λ m. place_of m.0) c.announce.ensures.1) (ap (λ m. place_of m.0) c.confirm-gate.ensures.1) (ap (λ m. place_of m.0) c.withdraw.ensures.1)

pub returns-clause-ok : goal.returns-clause-ok
returns-clause-ok c = let found = c.in-Some.ensures.found in let v = place_of c.self.inside.seat.me.0 in
    pin_ok _ v _ _ c.in-Some.index c.args.version c.confirm-gate.result (ap (λ s. s.known) c.self.view_is) (least_free _ v _ c.self.invariant.6 found.0 found.1 found.2) c.self.invariant.4 c.if-gate-version.false
    (ap (λ m. place_of m.0) c.announce.ensures.1) (ap (λ m. place_of m.0) c.confirm-gate.ensures.1)
