use Rattle.std.proofs.Common.{◌≡◌, ◌∙◌, ◌-◌, length, ap, subst, sym}
use Rattle.jf_codec.specs.declared.format.Format.TheVariants as format
use Rattle.jf_hash.specs.Maps.{Map, IsMap}
use Rattle.jf_standing.specs.Standing.{Standing}
use Rattle.jf_standing.specs.Sound.{IsSound}
use Rattle.jf_standing.specs.Building.{landed_on}
use Rattle.jf_standing.specs.Landing.{landing_of}
use Rattle.jf_standing.specs.Next.{IsReadStanding}
use Rattle.jf_dir.specs.Directories.{IsSnapshotAt}
use Rattle.jf_dir.specs.Holding.{IsStandingHeld, landing_update}
use Rattle.jf_dir.proofs.Held.{held-is}
use Rattle.jf_dir.proofs.HeldAfter.{held-again, pop-unlanded, newest-update}
use Rattle.jf_dir.proofs.directory.Directory.pop_landing.Goals as goal

-- what is held after the landing of m on s was taken back
held : (c : goal.After-self-1) (s : Standing) (m : Map) → IsReadStanding s → IsSound format.Two s → IsMap m → c.args.fresh ≡ length (landing_of format.Two s m).fresh → c.args.self.now ≡ landed_on format.Two m s
    → IsStandingHeld s c.self.inside.base c.pop.new.self.items c.pop_back.new.self.items c.pop_back-3.new.self.items (c.self.inside.count - c.args.fresh)
held c s m read sound own fresh is =
    let h = subst (λ (t : Standing). IsStandingHeld t c.self.inside.base c.self.inside.roots.items c.self.inside.snapshots.items c.self.inside.stale.items c.self.inside.count) (c.self.view_is ∙ is) c.self.invariant in
    let x = c.newest-newest.result.now in
    let at : IsSnapshotAt c.args.self.now c.args.self.now.head x = c.newest-newest.ensures in
    let u = newest-update s m x read sound own h.sound (subst (λ (t : Standing). IsSnapshotAt t t.head x) is at) in
    let m_is = sym u.0 in
    pop-unlanded s _ _ _ _ _ _ _ _ _ _ _ _ (landing_update s x) read sound u.1 c.know.ensures (subst (λ q. IsStandingHeld (landed_on format.Two q s) c.self.inside.base c.self.inside.roots.items c.self.inside.snapshots.items c.self.inside.stale.items c.self.inside.count) m_is h)
    c.self.inside.roots.ok.0 c.pop.ensures.rest c.self.inside.snapshots.ok.0 c.pop_back.ensures.rest c.self.inside.stale.ok.0 c.pop_back-3.ensures.rest (fresh ∙ ap (λ q. length (landing_of format.Two s q).fresh) m_is)

pub invariant_of-self : goal.invariant_of-self
invariant_of-self c =
    let made = c.requires.made in
    held-again made.0 _ _ _ _ _ (held c made.0 made.1 made.2 made.3 made.4 made.5 made.6)

pub returns : goal.returns
returns c = λ s m read sound own fresh is. held-is s _ _ _ _ _ (held c s m read sound own fresh is)
