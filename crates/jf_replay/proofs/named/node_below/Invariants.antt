use Rattle.std.proofs.Common.{◌≡◌, drop, Some}
use Rattle.jf_model.specs.ChildEntries.{sub}
use Rattle.jf_node.specs.LinkFacts.{IsLink}
use Rattle.jf_node.specs.LinkValue.{link_version_at}
use Rattle.jf_replay.proofs.named.node_below.Given as goal

-- what stands below the node at the rest of the path is what stands below the first node at the whole path
abbrev pub invariant-loop-i : goal.invariant-loop-i
invariant-loop-i l =
    IsLink l.node
    × (sub l.node.depth (drop l.i l.path) l.node.entries ≡ sub l.link.depth l.path l.link.entries)
    × (link_version_at (drop l.i l.path) (Some l.node) ≡ link_version_at l.path (Some l.link))
