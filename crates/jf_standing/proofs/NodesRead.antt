-- Names and nodes that are read from the front of bytes.
use Rattle.std.proofs.Common.{◌≡◌, ℕ, List, ◌++◌, Ok, sym, ap, ◌∙◌, append_assoc}
use Rattle.jf_path.specs.Names.{IsName}
use Rattle.jf_path.specs.declared.name.NodeName.{NodeName}
use Rattle.jf_path.specs.declared.node.PlainNode.{PlainNode}
use Rattle.jf_codec.specs.declared.format.Format.{Format}
use Rattle.jf_codec.specs.Reading.{name_at, node_at}
use Rattle.jf_codec.specs.Spelling.{IsNode, node_bytes}
use Rattle.jf_codec.proofs.Names.{name_again}
use Rattle.jf_codec.proofs.Nodes.{node_again}
use Rattle.jf_codec.proofs.Spellings.{one_spelling}
use Rattle.jf_payload.specs.Spelling.{fresh_bytes}

-- a node is read from its bytes in a format
pub node_read : (fmt : Format) (n : PlainNode) (bytes tail : List ℕ) → IsNode fmt n → bytes ≡ node_bytes fmt n ++ tail → node_at bytes ≡ Ok (n, tail)
node_read fmt n bytes tail is e = let o = one_spelling fmt n is in ap node_at e ∙ ap (λ (s : List ℕ). node_at (s ++ tail)) (sym o.1) ∙ node_again n tail o.0

-- the name is read from the bytes of a named node
pub name_read : (fmt : Format) (x : NodeName × PlainNode) (bytes tail : List ℕ) → IsName x.0 → bytes ≡ fresh_bytes fmt x ++ tail → name_at bytes ≡ Ok (x.0, node_bytes fmt x.1 ++ tail)
name_read fmt x bytes tail is e = ap name_at (e ∙ append_assoc _ (node_bytes fmt x.1) tail) ∙ name_again x.0 (node_bytes fmt x.1 ++ tail) is
