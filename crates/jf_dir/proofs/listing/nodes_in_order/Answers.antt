use Rattle.std.proofs.Common.{◌∙◌}
use Rattle.jf_dir.proofs.Listings.{listed-all}
use Rattle.jf_dir.proofs.listing.nodes_in_order.Goals as goal

pub returns : goal.returns
returns c = c.in_ok-list.ensures ∙ listed-all c.args.directory.now c.know.ensures.sound c.in_ok-nodes.nodes.items c.know.ensures.read c.in_ok-nodes.ensures
