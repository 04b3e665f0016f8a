-- The three forms in which a node of a speculative tree is kept.
use Rattle.std.specs.Prelude.{◌+◌, [], ◌∷◌, ◌++◌, ◌≡◌, ℕ, ◌<◌, ◌≤◌, true, false, List, length, ◌-◌}
use Rattle.jf_hash.specs.Slots.{Part}
use Rattle.jf_hash.specs.Parts.{HaveBit}
use Rattle.jf_hash.specs.Roots.{part_root}
use Rattle.jf_hash.specs.Hashes.{L, V}
use Rattle.jf_node.specs.RangeValue.{RangeValue}
use Rattle.jf_spec.specs.declared.node.Form.{Form}
use Rattle.jf_spec.specs.declared.node.Form.TheVariants.{Stored, Leaf, Branch}

-- the entries of a stored node, one entry, or those of both halves
abbrev pub form_entries : Form → Part
form_entries (Stored range) = range.entries
form_entries (Leaf leaf) = (leaf.value.key, leaf.value.value) ∷ []
form_entries (Branch branch) = branch.value.zeros.entries ++ branch.value.ones.entries

-- two halves, one bit further, with two entries or more, and their hash
pub record AreHalves (depth : ℕ) (left right : RangeValue) (hash : List ℕ) : Type 0 where
  pub deep : depth < 256
  pub zeros_deep : left.depth ≡ depth + 1
  pub ones_deep : right.depth ≡ depth + 1
  pub zeros : HaveBit depth false left.entries
  pub ones : HaveBit depth true right.entries
  pub several : 2 ≤ length (left.entries ++ right.entries)
  pub hashed : hash ≡ part_root depth (left.entries ++ right.entries)

-- what holds of a form at its depth
abbrev pub IsSoundTreeForm : ℕ → Form → Type 0
IsSoundTreeForm depth (Stored range) = (depth ≤ 256) × (range.depth ≡ depth)
IsSoundTreeForm depth (Leaf leaf) = (depth ≤ 256) × (leaf.value.hash ≡ L leaf.value.key (V leaf.value.value))
IsSoundTreeForm depth (Branch branch) = AreHalves depth branch.value.zeros branch.value.ones branch.value.hash

-- a node as contracts see it: its depth and its entries
abbrev pub node_value : ℕ → Form → RangeValue
node_value depth form = record { depth = depth; entries = form_entries form }

-- how many levels a node may have
abbrev pub tree_levels : RangeValue → ℕ
tree_levels v = 257 - v.depth
