use Rattle.std.proofs.Common.{◌∙◌, ◌++◌, ◌∷◌, [], List, ℕ, ◌+◌, ap, subst, refl}
use Rattle.jf_codec.specs.declared.format.Format.TheVariants as format
use Rattle.jf_node.specs.SnapshotValue.{SnapshotValue}
use Rattle.jf_standing.specs.Standing.{Standing}
use Rattle.jf_standing.specs.Building.{landed_on}
use Rattle.jf_dir.specs.Holding.{IsStandingHeld, landing_update}
use Rattle.jf_dir.proofs.Held.{held-is}
use Rattle.jf_dir.proofs.HeldAfter.{held-again, push-landed}
use Rattle.jf_dir.proofs.directory.Directory.push_landing.Goals as goal

-- what is held after the landing
held : (c : goal.After-self-1) → IsStandingHeld (landed_on format.Two c.args.snapshot.map c.args.self.now) c.self.inside.base c.push_reserved.new.self.items c.push_back_reserved.new.self.items c.push_back_reserved-2.new.self.items c.in_ok-count.count
held c =
    let h = subst (λ (s : Standing). IsStandingHeld s c.self.inside.base c.self.inside.roots.items c.self.inside.snapshots.items c.self.inside.stale.items c.self.inside.count) c.self.view_is c.self.invariant in
    push-landed c.args.self.now _ _ _ _ _ h (landing_update c.args.self.now c.args.snapshot) c.requires.landing c.know.ensures c.requires.room
    _ _ c.args.snapshot _ _ c.args.stale
    (c.push_reserved.ensures.items ∙ ap (λ (ts : List (List ℕ)). ts ++ c.args.root ∷ []) c.reserve.ensures.items ∙ ap (λ r. c.self.inside.roots.items ++ r ∷ []) c.requires.root)
    (c.push_back_reserved.ensures.items ∙ ap (λ (ys : List SnapshotValue). ys ++ c.args.snapshot ∷ []) c.reserve-2.ensures.items)
    refl
    (c.push_back_reserved-2.ensures.items ∙ ap (λ (ks : List ℕ). ks ++ c.args.stale ∷ []) c.reserve-3.ensures.items)
    c.requires.stale (c.in_ok-count.ensures ∙ ap (λ k. c.self.inside.count + k) c.requires.fresh)

pub invariant_of-self-2 : goal.invariant_of-self-2
invariant_of-self-2 c = held-again (landed_on format.Two c.args.snapshot.map c.args.self.now) _ _ _ _ _ (held c)

pub returns-clause-ok : goal.returns-clause-ok
returns-clause-ok c = held-is (landed_on format.Two c.args.snapshot.map c.args.self.now) _ _ _ _ _ (held c)
