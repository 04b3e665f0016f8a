-- A plain node of two entries or more has its children by nibble, and depends only on the versions of the children that it has.
use Rattle.std.proofs.Common.{◌≡◌, ℕ, ◌≤◌, Bool, [], ◌∷◌, length, refl, arith, ◌+◌, ◌*◌, true, false, not, cond, List, ap, ◌++◌, ap₂}
use Rattle.std.specs.List.{flat_map}
use Rattle.jf_path.specs.declared.children.Child.{Child}
use Rattle.jf_path.specs.declared.node.PlainNode.TheVariants as node
use Rattle.jf_hash.specs.Slots.{Part, with_nibble, all_nibbles}
use Rattle.jf_hash.specs.Roots.{part_root}
use Rattle.jf_model.specs.Nodes.{child_in_node, plain_node, has_one, has_two}
use Rattle.jf_model.specs.Walk.{each_from}

-- two entries or more: the children that stand at the sixteen nibbles
pub plain_node-many : (counted : Bool) (version : ℕ → ℕ) (d : ℕ) (es : Part) → 2 ≤ length es → plain_node counted version d es ≡ node.Inner (each_from 16 0 (child_in_node counted version d es))
unfolding plain_node
plain_node-many counted version d [] many = absurd (omega arith)
plain_node-many counted version d (e ∷ []) many = absurd (omega arith)
plain_node-many counted version d (e ∷ f ∷ es) many = refl

same_child : (counted : Bool) (v w : ℕ → ℕ) (d : ℕ) (es : Part) (n : ℕ) → (has_one (with_nibble d n es) ≡ true → v n ≡ w n) → child_in_node counted v d es n ≡ child_in_node counted w d es n
same_child counted v w d es n h =
    let part = with_nibble d n es in
    let child : ℕ → List Child = λ k. record { nibble = n; version = k; hash = part_root (4 * (d + 1)) part; leaf = not (has_two part); count = cond counted (length part) 0 } ∷ [] in
    elim (has_one part) as (λ b. has_one part ≡ b → cond b (child (v n)) [] ≡ cond b (child (w n)) []) [
      | true ↦ λ some. ap child (h some)
      | false ↦ λ none. refl
    ] refl

same_children : (counted : Bool) (v w : ℕ → ℕ) (d : ℕ) (es : Part) → ((n : ℕ) → has_one (with_nibble d n es) ≡ true → v n ≡ w n) → (ns : List ℕ) → flat_map (child_in_node counted v d es) ns ≡ flat_map (child_in_node counted w d es) ns
same_children counted v w d es h [] = refl
same_children counted v w d es h (n ∷ ns) = ap₂ (λ a b. a ++ b) (same_child counted v w d es n (h n)) (same_children counted v w d es h ns)

-- a plain node depends on versions only at nibbles that have an entry
pub plain_node-versions : (counted : Bool) (v w : ℕ → ℕ) (d : ℕ) (es : Part) → ((n : ℕ) → has_one (with_nibble d n es) ≡ true → v n ≡ w n) → plain_node counted v d es ≡ plain_node counted w d es
unfolding plain_node
plain_node-versions counted v w d [] h = refl
plain_node-versions counted v w d (e ∷ []) h = refl
plain_node-versions counted v w d (e ∷ f ∷ es) h = ap (λ cs. node.Inner cs) (same_children counted v w d (e ∷ f ∷ es) h all_nibbles)
