use Rattle.std.proofs.Common.{subst, sym, ap, ◌∙◌}
use Rattle.jf_hash.specs.Maps.{apply}
use Rattle.jf_plain.specs.KeptMaps.{AreKeptVersions}
use Rattle.jf_plain.proofs.Histories.{are-landed}
use Rattle.jf_plain.proofs.versions.PlainVersions.land.Goals as goal

pub invariant_of-self-2 : goal.invariant_of-self-2
invariant_of-self-2 c =
    subst AreKeptVersions (sym c.in_ok-push.ensures.items) (are-landed c.self.inside.versions.items (record { map = c.in_ok-map.map; root = c.in_ok-root.root }) c.args.self.now c.args.batch.now c.self.invariant c.self.view_is
    (c.in_ok-map.ensures ∙ ap (λ m. apply m c.args.batch.now) c.newest.ensures) c.in_ok-root.ensures c.know_sound.ensures.sound c.requires)
