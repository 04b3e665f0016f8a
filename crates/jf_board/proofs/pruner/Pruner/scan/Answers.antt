use Rattle.std.proofs.Common.{ℕ, arith, List, ◌∙◌, ap, sym, subst}
use Rattle.jf_board.specs.declared.views.PlaceView.{PlaceView}
use Rattle.jf_board.specs.States.{pruner_of, place_of}
use Rattle.jf_board.specs.Steps.{with_own}
use Rattle.jf_board.specs.Rule.{Has, Below, hold_at}
use Rattle.jf_board.proofs.Scanning.{held_alone, pairs_alone, own_pins}
use Rattle.jf_board.proofs.pruner.Pruner.scan.Goals as goal

pub returns-clause-held : goal.returns-clause-held
returns-clause-held c = held_alone (pruner_of c.scan_words-scan.new.seat.me.0) _ _ _ (ap (λ m. pruner_of m.0) c.part.ensures.seat.1) c.scan_words-scan.ensures.scans.held_is

pub returns-clause-pairs : goal.returns-clause-pairs
returns-clause-pairs c t has = pairs_alone (pruner_of c.scan_words-scan.new.seat.me.0) _ t (ap (λ m. pruner_of m.0) c.part.ensures.seat.1)
    (c.scan_words-scan.ensures.scans.grows t (subst (λ (z : List (ℕ × ℕ)). Has z t) (ap (λ s. s.known.pairs) (sym c.self.view_is) ∙ sym (ap (λ m. (pruner_of m.0).pairs) c.join_for_scan.ensures.1)) has))

pub returns-clause-pins : goal.returns-clause-pins
returns-clause-pins c i small = let q = pruner_of c.scan_words-scan.new.seat.me.0 in let v = place_of c.own.inside.seat.me.0 in
    let began = ap (λ m. pruner_of m.0) c.join_for_scan.ensures.1 ∙ ap (λ m. with_own (pruner_of c.self.inside.seat.me.0) (place_of m.0)) c.lend-lent.ensures.lent.1 in
    let whole = c.scan_words-scan.ensures.scanned in let room = c.own.invariant.2 in let number = c.own.invariant.1 in let board = ap (λ s. s.board.words) c.own.view_is ∙ ap (λ b. b.words) c.requires.place in
    subst (λ (z : PlaceView). Below c.scan_words-scan.result.low (hold_at z i)) (ap (λ s. s.known) c.own.view_is)
    (own_pins (pruner_of c.self.inside.seat.me.0) _ q v _ _ _ c.scan_words-scan.ensures.scans began i small (omega arith))
