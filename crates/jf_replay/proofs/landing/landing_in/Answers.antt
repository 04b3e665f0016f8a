use Rattle.std.specs.Prelude.{IsTrue}
use Rattle.std.proofs.Common.{sym, subst, map}
use Rattle.jf_path.specs.Names.{are_rising}
use Rattle.jf_standing.specs.Named.{NamedNode, is_written}
use Rattle.jf_standing.proofs.Rising.{rising-filter}
use Rattle.jf_replay.proofs.landing.landing_in.Goals as goal

pub fresh_list-requires : goal.fresh_list-requires
fresh_list-requires c = subst (λ ns. IsTrue (are_rising (map (λ (n : NamedNode). n.0) ns))) (sym c.nodes_of_version.ensures) (rising-filter (is_written c.args.version) c.args.nodes.now c.requires.sorted)
