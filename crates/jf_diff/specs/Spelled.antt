-- The nodes of a landing as their bytes.
use Rattle.std.specs.Prelude.{ℕ, ◌≡◌, List, flat_map, length}
use Rattle.std.specs.List.{AllByRecursion}
use Rattle.jf_path.specs.Names.{IsName}
use Rattle.jf_path.specs.declared.name.NodeName.{NodeName}
use Rattle.jf_path.specs.declared.node.PlainNode.{PlainNode}
use Rattle.jf_codec.specs.declared.format.Format.TheVariants as format
use Rattle.jf_codec.specs.Spelling.{IsNode}
use Rattle.jf_payload.specs.Spelling.{fresh_bytes}

-- bytes are those of so many nodes, each after its name, in a file of format 2
pub record AreSpelled (nodes : List (NodeName × PlainNode)) (count : ℕ) (bytes : List ℕ) : Type 0 where
  pub counted : count ≡ length nodes
  pub spelled : bytes ≡ flat_map (fresh_bytes format.Two) nodes
  pub valid : AllByRecursion (λ x. IsName x.0 × IsNode format.Two x.1) nodes

-- the nodes of all parts
abbrev pub nodes_of : List (List (NodeName × PlainNode)) → List (NodeName × PlainNode)
nodes_of parts = flat_map (λ part. part) parts
