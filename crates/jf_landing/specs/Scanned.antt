-- What is read off the bytes of a landing.
use Rattle.std.specs.Prelude.{◌≡◌, ◌≤◌, ℕ, List, [], ◌∷◌, Result, Ok, Err, length}
use Rattle.std.specs.List.{AllByRecursion}
use Rattle.jf_path.specs.Keys.{IsKey, IsBytes}
use Rattle.jf_path.specs.Limits.{max_value}
use Rattle.jf_path.specs.declared.node.PlainNode.{PlainNode}
use Rattle.jf_path.specs.declared.node.PlainNode.TheVariants as node
use Rattle.jf_codec.specs.declared.fault.CodecFault.{CodecFault}
use Rattle.jf_codec.specs.declared.fault.CodecFault.TheVariants as fault

-- a function returned what P holds of, or memory ran out
abbrev pub GivenMemory : {X : Type 0} → (X → Type 0) → Result X CodecFault → Type 0
GivenMemory P (Ok x) = P x
GivenMemory P (Err e) = e ≡ fault.Memory

-- the entry of a node that is a leaf, alone; nothing for any other node
abbrev pub leaf_alone : PlainNode → List (List ℕ × List ℕ)
leaf_alone node.Null = []
leaf_alone (node.Leaf key value) = (key, value) ∷ []
leaf_alone (node.Inner cs) = []

-- an entry that was read: its key has 32 bytes, and its value at most 4,096
abbrev pub IsReadEntry : List ℕ × List ℕ → Type 0
IsReadEntry e = IsKey e.0 × IsBytes e.1 × (length e.1 ≤ max_value)

abbrev pub AreReadEntries : List (List ℕ × List ℕ) → Type 0
AreReadEntries es = AllByRecursion IsReadEntry es
