-- The map of a version is that of its snapshot.
use Rattle.std.specs.Prelude.{option_map}
use Rattle.std.specs.Option.{SomeIff, option_copied}
use Rattle.std.proofs.Common.{◌≤◌, subst}
use Rattle.jf_model.specs.Versions.{map_of}
use Rattle.jf_node.specs.SnapshotValue.{SnapshotValue}
use Rattle.jf_engine.specs.Engines.{Engine}
use Rattle.jf_engine.proofs.Maps.{found_map}
use Rattle.jf_engine.proofs.engine.Engine.at.Goals as goal

pub returns-clause-map : goal.returns-clause-map
returns-clause-map g c =
    let w = c.args.version in
    subst (λ (e : Engine). SomeIff (option_map (λ (t : SnapshotValue). t.map) (option_copied c.at.result)) ((e.versions.floor ≤ w) × (w ≤ e.versions.head)) (map_of e.versions w)) c.self.view_is
    (found_map c.self.inside.directory w c.at.result c.at.ensures.kept c.at.ensures.snapshot)
