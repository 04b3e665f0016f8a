-- The entry of a named node that is a leaf.
use Rattle.std.proofs.Common.{List, ℕ}
use Rattle.jf_path.specs.declared.name.NodeName.{NodeName}
use Rattle.jf_path.specs.declared.node.PlainNode.{PlainNode}
use Rattle.jf_landing.specs.Scanned.{leaf_alone}

-- the entry of a named node that is a leaf, alone
abbrev pub alone_at : NodeName × PlainNode → List (List ℕ × List ℕ)
alone_at x = leaf_alone x.1
