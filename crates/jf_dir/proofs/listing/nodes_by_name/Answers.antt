use Rattle.jf_dir.proofs.Listings.{put-last}
use Rattle.jf_dir.proofs.listing.nodes_by_name.Goals as goal

pub loop-name-preserved-in_ok-insert : goal.loop-name-preserved-in_ok-insert
loop-name-preserved-in_ok-insert c =
    let so_far = c.loop-name.invariant in
    put-last c.loop-name.nodes.items c.pop.new.self.items c.args.nodes.items so_far.0 (c.in-Some.name, c.in-Some.node, c.in-Some.since) c.loop-name.ordered.entries c.insert.new.self.entries c.in-Some.ensures.items so_far.1 so_far.2 c.in_ok-insert.ensures.entries

pub loop-name-preserved-in_ok-insert-2 : goal.loop-name-preserved-in_ok-insert-2
loop-name-preserved-in_ok-insert-2 c =
    let so_far = c.loop-name.invariant in
    put-last c.loop-name.nodes.items c.pop.new.self.items c.args.nodes.items so_far.0 (c.in-Some.name, c.in-Some.node, c.in-Some.since) c.loop-name.ordered.entries c.insert.new.self.entries c.in-Some.ensures.items so_far.1 so_far.2 c.in_ok-insert.ensures.entries

pub loop-name-preserved-in_ok-insert-3 : goal.loop-name-preserved-in_ok-insert-3
loop-name-preserved-in_ok-insert-3 c =
    let so_far = c.loop-name.invariant in
    put-last c.loop-name.nodes.items c.pop.new.self.items c.args.nodes.items so_far.0 (c.in-Some.name, c.in-Some.node, c.in-Some.since) c.loop-name.ordered.entries c.insert.new.self.entries c.in-Some.ensures.items so_far.1 so_far.2 c.in_ok-insert.ensures.entries

pub loop-name-preserved : goal.loop-name-preserved
loop-name-preserved c =
    let so_far = c.loop-name.invariant in
    put-last c.loop-name.nodes.items c.pop.new.self.items c.args.nodes.items so_far.0 (c.in-Some.name, c.in-Some.node, c.in-Some.since) c.loop-name.ordered.entries c.insert.new.self.entries c.in-Some.ensures.items so_far.1 so_far.2 c.in_ok-insert.ensures.entries
