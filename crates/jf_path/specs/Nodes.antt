-- The order of a node's children: by their nibbles.
use Rattle.std.specs.Prelude.{ℕ, ◌+◌, ◌≤◌, List, [], ◌∷◌}
use Rattle.jf_path.specs.declared.children.Child.{Child}

-- the children's nibbles rise strictly, from `least` on
abbrev pub ChildrenRiseFrom : ℕ → List Child → Type 0
ChildrenRiseFrom least [] = Unit {0}
ChildrenRiseFrom least (c ∷ cs) = (least ≤ c.nibble) × ChildrenRiseFrom (c.nibble + 1) cs
