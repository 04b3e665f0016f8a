-- Laws of the spellings of names and nodes.
use Rattle.std.specs.Prelude.{◌≡◌, ℕ, List, ◌++◌}
use Rattle.jf_path.specs.Names.{IsName}
use Rattle.jf_path.specs.declared.name.NodeName.{NodeName}
use Rattle.jf_path.specs.declared.node.PlainNode.{PlainNode}
use Rattle.jf_codec.specs.Spelling.{name_bytes, IsValid, spelling, node_bytes, IsNode}
use Rattle.jf_codec.specs.declared.format.Format.{Format}

-- bytes begin with the spelling of at most one name: no name's spelling is the front of another's
abbrev pub OneNameInFront : Type 0
OneNameInFront = (a b : NodeName) (rest rest' : List ℕ) → IsName a → IsName b → name_bytes a ++ rest ≡ name_bytes b ++ rest' → (a ≡ b) × (rest ≡ rest')

-- bytes begin with the spelling of at most one node
abbrev pub OneNodeInFront : Type 0
OneNodeInFront = (a b : PlainNode) (rest rest' : List ℕ) → IsValid a → IsValid b → spelling a ++ rest ≡ spelling b ++ rest' → (a ≡ b) × (rest ≡ rest')

-- a node has the same one spelling in each format in which it can be spelled
abbrev pub OneNodeSpelling : Type 0
OneNodeSpelling = (fmt : Format) (n : PlainNode) → IsNode fmt n → IsValid n × (spelling n ≡ node_bytes fmt n)
