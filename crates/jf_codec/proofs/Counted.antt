-- A node that can be spelled in a format is all that the format keeps of it, and its children stand at nibbles.
use Rattle.std.proofs.Common.{◌≡◌, ℕ, refl, sym, subst, List, [], ◌∷◌, map, ap₂, ap, ◌<◌}
use Rattle.std.specs.List.{AllByRecursion}
use Rattle.jf_path.specs.declared.children.Child.{Child}
use Rattle.jf_path.specs.declared.node.PlainNode.{PlainNode}
use Rattle.jf_path.specs.declared.node.PlainNode.TheVariants as node
use Rattle.jf_codec.specs.Spelling.{IsChild, IsNode}
use Rattle.jf_codec.specs.Counted.{uncounted_child, in_format}
use Rattle.jf_codec.specs.declared.format.Format.{Format}
use Rattle.jf_codec.specs.declared.format.Format.TheVariants as format

child_same : (c : Child) (n : ℕ) → n ≡ c.count → record { nibble = c.nibble; version = c.version; hash = c.hash; leaf = c.leaf; count = n } ≡ c
child_same c n e = subst (λ (k : ℕ). record { nibble = c.nibble; version = c.version; hash = c.hash; leaf = c.leaf; count = k } ≡ c) (sym e) refl

children_same : (cs : List Child) → AllByRecursion (IsChild format.One) cs → map uncounted_child cs ≡ cs
children_same [] all = refl
children_same (c ∷ cs) all = ap₂ (λ (d : Child) (ds : List Child). d ∷ ds) (child_same c 0 (sym all.0.count)) (children_same cs all.1)

pub in_format-same : (fmt : Format) (n : PlainNode) → IsNode fmt n → in_format fmt n ≡ n
in_format-same format.One node.Null is = refl
in_format-same format.One (node.Leaf key value) is = refl
in_format-same format.One (node.Inner cs) is = ap (λ (ds : List Child). node.Inner ds) (children_same cs is.2)
in_format-same format.Two n is = refl

-- ---- nibbles
pub nibbles_of : (fmt : Format) (cs : List Child) → AllByRecursion (IsChild fmt) cs → AllByRecursion (λ c. c.nibble < 16) cs
nibbles_of fmt [] all = tt
nibbles_of fmt (c ∷ cs) all = (all.0.nibble, nibbles_of fmt cs all.1)

uncounted_nibbles : (cs : List Child) → AllByRecursion (IsChild format.One) (map uncounted_child cs) → AllByRecursion (λ c. c.nibble < 16) cs
uncounted_nibbles [] all = tt
uncounted_nibbles (c ∷ cs) all = (all.0.nibble, uncounted_nibbles cs all.1)

pub small_nibbles : (fmt : Format) (cs : List Child) → IsNode fmt (in_format fmt (node.Inner cs)) → AllByRecursion (λ c. c.nibble < 16) cs
small_nibbles format.One cs is = uncounted_nibbles cs is.2
small_nibbles format.Two cs is = nibbles_of format.Two cs is.2
