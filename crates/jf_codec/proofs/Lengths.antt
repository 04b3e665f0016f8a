-- How many bytes names and nodes take.
use Rattle.std.proofs.Common.{◌≡◌, ℕ, ◌+◌, ◌*◌, ◌/◌, ◌≤◌, ◌<◌, List, [], ◌∷◌, map, length, refl, arith}
use Rattle.std.proofs.lemmas.List.{length-append}
use Rattle.std.specs.List.{flat_map, AllByRecursion}
use Rattle.jf_path.specs.Numbers.{eight_bytes, two_bytes}
use Rattle.jf_path.specs.Nodes.{ChildrenRiseFrom}
use Rattle.jf_path.specs.declared.name.NodeName.{NodeName}
use Rattle.jf_path.specs.declared.children.Child.{Child}
use Rattle.jf_path.specs.declared.node.PlainNode.TheVariants as node
use Rattle.jf_path.proofs.PathLaws.{length-path_bytes}
use Rattle.jf_codec.specs.Spelling.{name_bytes, child_bytes, node_bytes, IsChild, IsNode}
use Rattle.jf_codec.specs.Counted.{uncounted_child, in_format}
use Rattle.jf_codec.specs.declared.format.Format.{Format}
use Rattle.jf_codec.specs.declared.format.Format.TheVariants as format

pub name_length : (name : NodeName) → length (name_bytes name) ≡ 9 + (length name.path + 1) / 2
unfolding eight_bytes
name_length name = omega (arith, length-path_bytes name.path)

-- ---- children
-- the number of bytes of a child whose hash has 32
abbrev child_size : Format → ℕ
child_size format.One = 40
child_size format.Two = 48

child_length : (fmt : Format) (c : Child) → length c.hash ≡ 32 → length (child_bytes fmt c) ≡ child_size fmt
unfolding eight_bytes
child_length format.One c long = omega (arith, long)
child_length format.Two c long = omega (arith, long)

children_length : (fmt : Format) (cs : List Child) → AllByRecursion (λ c. length c.hash ≡ 32) cs → length (flat_map (child_bytes fmt) cs) ≡ length cs * child_size fmt
children_length format.One [] all = refl
children_length format.Two [] all = refl
children_length format.One (c ∷ cs) all =
    omega (arith, length-append (child_bytes format.One c) (flat_map (child_bytes format.One) cs), child_length format.One c all.0, children_length format.One cs all.1)
children_length format.Two (c ∷ cs) all =
    omega (arith, length-append (child_bytes format.Two c) (flat_map (child_bytes format.Two) cs), child_length format.Two c all.0, children_length format.Two cs all.1)

pub inner_length : (fmt : Format) (cs : List Child) → AllByRecursion (λ c. length c.hash ≡ 32) cs → length (node_bytes fmt (node.Inner cs)) ≡ 5 + length cs * child_size fmt
unfolding node_bytes two_bytes
inner_length fmt cs all = omega (arith, children_length fmt cs all)

-- children at nibbles that rise are at most sixteen
few_from : (i : ℕ) (cs : List Child) → i ≤ 16 → ChildrenRiseFrom i cs → AllByRecursion (λ c. c.nibble < 16) cs → length cs + i ≤ 16
few_from i [] le rise small = omega arith
few_from i (c ∷ cs) le rise small = let rest = few_from (c.nibble + 1) cs (let lt = small.0 in omega arith) rise.1 small.1 in let low = rise.0 in omega arith

pub few_children : (cs : List Child) → ChildrenRiseFrom 0 cs → AllByRecursion (λ c. c.nibble < 16) cs → length cs ≤ 16
few_children cs rise small = let few = few_from 0 cs (omega arith) rise small in omega arith

-- the hashes of children that a format keeps
hashes_of : (fmt : Format) (cs : List Child) → AllByRecursion (IsChild fmt) cs → AllByRecursion (λ c. length c.hash ≡ 32) cs
hashes_of fmt [] all = tt
hashes_of fmt (c ∷ cs) all = (all.0.hash.long, hashes_of fmt cs all.1)

uncounted_hashes : (cs : List Child) → AllByRecursion (IsChild format.One) (map uncounted_child cs) → AllByRecursion (λ c. length c.hash ≡ 32) cs
uncounted_hashes [] all = tt
uncounted_hashes (c ∷ cs) all = (all.0.hash.long, uncounted_hashes cs all.1)

pub whole_hashes : (fmt : Format) (cs : List Child) → IsNode fmt (in_format fmt (node.Inner cs)) → AllByRecursion (λ c. length c.hash ≡ 32) cs
whole_hashes format.One cs is = uncounted_hashes cs is.2
whole_hashes format.Two cs is = hashes_of format.Two cs is.2
