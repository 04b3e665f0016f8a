use Rattle.std.proofs.Common.{◌≡◌, ℕ, ◌+◌, ◌∙◌, List, [], ◌∷◌, length, ap, sym, subst, arith, length-append}
use Rattle.jf_board.specs.declared.views.PrunerView.{PrunerView}
use Rattle.jf_board.specs.States.{pruner_of, AreNewPlaces, PlaceState}
use Rattle.jf_board.specs.Steps.{newly_numbered}
use Rattle.jf_board.proofs.Pinning.{new_longer}
use Rattle.jf_board.proofs.opening.new_places.Goals as goal

pub loop-preserved : goal.loop-preserved
loop-preserved c =
    let i = c.loop.invariant in let n = c.new_place.ensures in let p = c.in_ok-push.ensures in let a = pruner_of c.args.seat.now.me.0 in
    let len : length c.push.new.self.items ≡ length c.loop.places.items + 1 = ap length p.items ∙ length-append c.loop.places.items (c.new_place.result ∷ []) in let counted = ap (λ q. q.count) i.known in record {
      table = n.seat.0 ∙ i.table;
      pruner = n.seat.1;
      known = n.pruner ∙ (ap (λ (q : PrunerView). record q { count = q.count + 1 }) i.known ∙ ap (λ (m : ℕ). record a { count = m }) (sym len));
      size = i.size;
      few = i.few;
      many = len ∙ ap (λ (z : ℕ). z + 1) i.many;
      new = subst (λ (xs : List PlaceState). AreNewPlaces c.args.board.now xs 0) (sym p.items) (new_longer c.args.board.now c.loop.places.items c.new_place.result 0 i.new n.place.0 (n.place.1 ∙ ap newly_numbered (counted ∙ omega arith)));
    }
