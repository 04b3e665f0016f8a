use Rattle.std.proofs.Common.{◌++◌, ◌∙◌, ap, map}
use Rattle.jf_model.specs.Nodes.{nodes}
use Rattle.jf_diff.specs.Gone.{gone_node_in}
use Rattle.jf_standing.specs.Named.{not_stale}
use Rattle.jf_dir.proofs.Listings.{listed-head}
use Rattle.jf_dir.proofs.listing.list_head.Goals as goal

pub returns : goal.returns
returns c =
    let newest = c.newest.result.now in
    listed-head c.args.directory.now c.know.ensures.sound newest _ c.know.ensures.read c.newest.ensures
    (c.in_ok-list_all_nodes.ensures.listed ∙ ap (λ out. out ++ map (gone_node_in newest not_stale) (nodes newest.map)) c.requires.empty)
