-- Nibbles that rise from a number rise from each lower one.
use Rattle.std.proofs.Common.{ℕ, ◌≤◌, List, [], ◌∷◌, arith}
use Rattle.jf_path.specs.Nodes.{ChildrenRiseFrom}
use Rattle.jf_path.specs.declared.children.Child.{Child}

pub RiseFrom-weaker : (i j : ℕ) (cs : List Child) → i ≤ j → ChildrenRiseFrom j cs → ChildrenRiseFrom i cs
RiseFrom-weaker i j [] le r = tt
RiseFrom-weaker i j (c ∷ cs) le r = (let l = r.0 in omega arith, r.1)
