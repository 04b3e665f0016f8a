use Rattle.std.proofs.Common.{◌-◌, ap, subst}
use Rattle.jf_standing.specs.Standing.{Standing, with_floor}
use Rattle.jf_dir.specs.Holding.{IsStandingHeld}
use Rattle.jf_dir.proofs.Held.{held-is}
use Rattle.jf_dir.proofs.HeldAfter.{held-again, dropped-few, prune-held}
use Rattle.jf_dir.proofs.directory.Directory.prune.Goals as goal

pub count_left-self-inside-requires : goal.count_left-self-inside-requires
count_left-self-inside-requires c =
    let h = subst (λ (s : Standing). IsStandingHeld s c.self.inside.base c.self.inside.roots.items c.self.inside.snapshots.items c.self.inside.stale.items c.self.inside.count) c.self.view_is c.self.invariant in
    dropped-few c.args.self.now _ _ _ _ _ _ _ h c.requires.low c.requires.high (ap (λ f. c.args.floor - f) c.floor.ensures)

-- what is held under the later floor
held : (c : goal.After-self-1) → IsStandingHeld (with_floor c.args.floor c.args.self.now) c.self.inside.base c.self.inside.roots.items c.drop_front.new.snapshots.items c.count_left-self-inside.new.counts.items c.count_left-self-inside.result
held c =
    let h = subst (λ (s : Standing). IsStandingHeld s c.self.inside.base c.self.inside.roots.items c.self.inside.snapshots.items c.self.inside.stale.items c.self.inside.count) c.self.view_is c.self.invariant in
    prune-held c.args.self.now _ _ _ _ _ _ _ _ _ _ h c.requires.low c.requires.high c.drop_front.ensures (ap (λ f. c.args.floor - f) c.floor.ensures) c.count_left-self-inside.ensures.items c.count_left-self-inside.ensures.value

pub invariant_of-self : goal.invariant_of-self
invariant_of-self c = held-again (with_floor c.args.floor c.args.self.now) _ _ _ _ _ (held c)

pub returns : goal.returns
returns c = held-is (with_floor c.args.floor c.args.self.now) _ _ _ _ _ (held c)
