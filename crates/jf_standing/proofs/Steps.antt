-- A node one step below another: where it stands, and that the node above names it as a child.
use Rattle.std.proofs.Common.{◌≡◌, ℕ, ◌+◌, [], ◌∷◌, ◌++◌, length, ap, ◌∙◌, arith, Bool, ◌&&◌, true, false, refl, ap₂, ◌==◌, ◌||◌, cond, ◌*◌, not, List, ◌<◌, inl, inr, sym}
use Rattle.std.proofs.lemmas.Bool.{cases_lt}
use Rattle.std.proofs.lemmas.Bool.Decides.{nat_tests}
use Rattle.std.proofs.lemmas.List.Folds.{list_any-append}
use Rattle.std.specs.List.{list_any, flat_map}
use Rattle.jf_path.specs.declared.node.PlainNode.{PlainNode}
use Rattle.jf_path.specs.declared.children.Child.{Child}
use Rattle.jf_path.specs.declared.node.PlainNode.TheVariants as node
use Rattle.jf_path.proofs.BoolLaws.{left_true, right_true}
use Rattle.jf_hash.specs.Slots.{Part, with_nibble, all_nibbles}
use Rattle.jf_hash.specs.Roots.{part_root}
use Rattle.jf_model.specs.Nodes.{Path, under, has_one, has_two, is_node, child_in_node, plain_node}
use Rattle.jf_walk.proofs.PartLaws.{with_nibble-past}

-- ---- paths by their last step
-- the part under a path with one more step
pub under-step : (d : ℕ) (q : Path) (i : ℕ) (es : Part) → under d (q ++ i ∷ []) es ≡ with_nibble (d + length q) i (under d q es)
unfolding under
under-step d [] i es = ap (λ k. with_nibble k i es) (let e : d ≡ d + 0 = omega arith in e)
under-step d (j ∷ q) i es = under-step (d + 1) q i (with_nibble d j es) ∙ ap (λ k. with_nibble k i (under (d + 1) q (with_nibble d j es))) (let e : (d + 1) + length q ≡ d + length (j ∷ q) = omega arith in e)

-- whether a part has two entries, and one at a nibble
abbrev pub parts_at : ℕ → ℕ → Part → Bool
parts_at d i es = has_two es && has_one (with_nibble d i es)

one_true : (b : Bool) → (b && true) ≡ (true && b)
one_true true = refl
one_true false = refl

shift : (a b c e : Bool) → (a && b && (c && e)) ≡ ((a && b && c) && e)
shift true true c e = refl
shift true false c e = refl
shift false b c e = refl

-- whether there is a node at a path with one more step
pub is_node-step : (d : ℕ) (q : Path) (i : ℕ) (es : Part) → is_node d (q ++ i ∷ []) es ≡ (is_node d q es && parts_at (d + length q) i (under d q es))
unfolding is_node under
is_node-step d [] i es = one_true (has_two es && has_one (with_nibble d i es)) ∙ ap (λ k. parts_at k i es) (let e : d ≡ d + 0 = omega arith in e)
is_node-step d (j ∷ q) i es =
    let part = with_nibble d j es in
    ap (λ b. has_two es && has_one part && b) (is_node-step (d + 1) q i part ∙ ap (λ k. is_node (d + 1) q part && parts_at k i (under (d + 1) q part)) (let e : (d + 1) + length q ≡ d + length (j ∷ q) = omega arith in e))
    ∙ shift (has_two es) (has_one part) (is_node (d + 1) q part) _

-- a node stands at each front of a node's path
pub is_node-front : (d : ℕ) (q r : Path) (es : Part) → is_node d (q ++ r) es ≡ true → is_node d q es ≡ true
unfolding is_node
is_node-front d [] r es h = refl
is_node-front d (j ∷ q) r es h =
    let part = with_nibble d j es in
    let there = left_true (has_two es && has_one part) _ h in
    ap₂ (λ a b. a && b) there (is_node-front (d + 1) q r part (right_true (has_two es && has_one part) _ h))

-- ---- the children that a node names
-- whether a node has a child at a nibble
abbrev pub has_child : ℕ → PlainNode → Bool
has_child i node.Null = false
has_child i (node.Leaf key value) = false
has_child i (node.Inner cs) = list_any (λ c. c.nibble == i) cs

lone : (test : Child → Bool) (b : Bool) (c : Child) → list_any test (cond b (c ∷ []) []) ≡ (test c && b)
lone test true c = elim (test c) as (λ t. (t || false) ≡ (t && true)) [ true ↦ refl | false ↦ refl ]
lone test false c = elim (test c) as (λ t. false ≡ (t && false)) [ true ↦ refl | false ↦ refl ]

child_listed : (counted : Bool) (version : ℕ → ℕ) (d : ℕ) (es : Part) (i j : ℕ) → list_any (λ c. c.nibble == i) (child_in_node counted version d es j) ≡ ((j == i) && has_one (with_nibble d i es))
child_listed counted version d es i j =
    let part = with_nibble d j es in
    lone (λ c. c.nibble == i) (has_one part) (record { nibble = j; version = version j; hash = part_root (4 * (d + 1)) part; leaf = not (has_two part); count = cond counted (length part) 0 })
    ∙ (elim (j == i) as (λ b. (j == i) ≡ b → (b && has_one (with_nibble d j es)) ≡ (b && has_one (with_nibble d i es))) [
      | true ↦ λ is. ap (λ k. has_one (with_nibble d k es)) (let e : j ≡ i = grind (arith, nat_tests) in e)
      | false ↦ λ is. refl
    ] refl)

children_listed : (counted : Bool) (version : ℕ → ℕ) (d : ℕ) (es : Part) (i : ℕ) (js : List ℕ) → list_any (λ c. c.nibble == i) (flat_map (child_in_node counted version d es) js) ≡ (list_any (λ j. j == i) js && has_one (with_nibble d i es))
children_listed counted version d es i [] = refl
children_listed counted version d es i (j ∷ js) =
    list_any-append (λ c. c.nibble == i) (child_in_node counted version d es j) (flat_map (child_in_node counted version d es) js)
    ∙ ap₂ (λ a b. a || b) (child_listed counted version d es i j) (children_listed counted version d es i js)
    ∙ joined (j == i) (list_any (λ j. j == i) js) (has_one (with_nibble d i es))
  where
    joined : (a b c : Bool) → ((a && c) || (b && c)) ≡ ((a || b) && c)
    joined true true true = refl
    joined true true false = refl
    joined true false true = refl
    joined true false false = refl
    joined false b c = refl

small_nibble : (i : ℕ) → i < 16 → list_any (λ j. j == i) all_nibbles ≡ true
small_nibble i lt = grind (arith, nat_tests)

-- a node has a child exactly if the part has two entries, and one at the nibble
pub has_child-plain : (counted : Bool) (version : ℕ → ℕ) (d : ℕ) (es : Part) (i : ℕ) → has_child i (plain_node counted version d es) ≡ parts_at d i es
unfolding plain_node
has_child-plain counted version d [] i = refl
has_child-plain counted version d (e ∷ []) i = refl
has_child-plain counted version d (e ∷ f ∷ es) i =
    let all = e ∷ f ∷ es in
    children_listed counted version d all i all_nibbles ∙ (elim (cases_lt i 16) [
      | inl small ↦ ap (λ b. b && has_one (with_nibble d i all)) (small_nibble i small)
      | inr past ↦ ap (λ b. list_any (λ j. j == i) all_nibbles && b) (ap has_one (with_nibble-past d i all past)) ∙ none (list_any (λ j. j == i) all_nibbles) ∙ sym (ap has_one (with_nibble-past d i all past))
    ])
  where
    none : (b : Bool) → (b && false) ≡ false
    none true = refl
    none false = refl
