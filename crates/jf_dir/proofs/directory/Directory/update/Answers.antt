use Rattle.std.specs.Prelude.{IsTrue}
use Rattle.std.proofs.Common.{◌∙◌, ap, subst, sym, map, List}
use Rattle.jf_path.specs.declared.name.NodeName.{NodeName}
use Rattle.jf_path.specs.declared.node.PlainNode.{PlainNode}
use Rattle.jf_path.specs.Names.{are_rising}
use Rattle.jf_hash.specs.Maps.{IsMap}
use Rattle.jf_node.specs.SnapshotValue.{SnapshotValue}
use Rattle.jf_payload.specs.declared.records.Commit.{Commit}
use Rattle.jf_dir.proofs.NextLandings.{own-rises}
use Rattle.jf_dir.proofs.directory.Directory.update.Goals as goal

pub copy-requires : goal.copy-requires
copy-requires g c =
    let own = subst (λ (x : SnapshotValue). IsMap x.map) c.into_parts-landing.ensures.snapshot c.know.ensures.map in
    let fresh = ap (λ (k : Commit). k.fresh) (c.landing.view_is ∙ c.into_parts-landing.ensures.landing) in
    subst (λ (fs : List (NodeName × PlainNode)). IsTrue (are_rising (map (λ x. x.0) fs))) (sym fresh) (own-rises c.args.self.now c.in_ok-next.next own c.in_ok-next.ensures.own)
