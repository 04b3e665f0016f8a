use Rattle.std.specs.Prelude.{slice_index_or}
use Rattle.std.proofs.Common.{◌-◌, ◌<◌, ◌≤◌, length, refl, ap, ◌∙◌, subst}
use Rattle.jf_standing.specs.Standing.{Standing}
use Rattle.jf_dir.specs.Holding.{IsStandingHeld}
use Rattle.jf_dir.proofs.Lookups.{held-at}
use Rattle.jf_dir.proofs.directory.Directory.at.Goals as goal

pub returns-clause-snapshot : goal.returns-clause-snapshot
returns-clause-snapshot c =
    let h = subst (λ (s : Standing). IsStandingHeld s c.self.inside.base c.self.inside.roots.items c.self.inside.snapshots.items c.self.inside.stale.items c.self.inside.count) c.self.view_is c.self.invariant in
    let xs = c.self.inside.snapshots.items in
    let x = c.in_ok-snapshot.snapshot.now in
    let place = c.in_ok-place.ensures.1 ∙ ap (λ f. c.args.version - f) c.floor.ensures in
    held-at c.args.self.now _ _ _ _ _ h c.args.version x (subst (λ f. f ≤ c.args.version) c.floor.ensures c.in_ok-place.ensures.0)
    (subst (λ i. i < length xs) place (subst (λ k. c.in_ok-place.place < k) c.self.inside.snapshots.ok.0 (c.in_ok-snapshot.ensures.variant.0 refl)))
    (c.in_ok-snapshot.ensures.lookup ∙ ap (λ i. slice_index_or xs i x) place)
