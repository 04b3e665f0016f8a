-- The nodes that are stale since the version or before are listed, and those that aren't stale.
use Rattle.jf_dir.specs.Listing.{AreListedTo}
use Rattle.jf_dir.proofs.listing.node_list.Given as goal

abbrev pub invariant-loop-version : goal.invariant-loop-version
invariant-loop-version l = AreListedTo l.directory l.version l.nodes.items
