-- Nodes as they are written: each by itself, with what it says of its children.
use Rattle.std.proofs.Common.{◌≡◌, ℕ, ◌+◌, true, [], ◌∷◌, ◌++◌, length, sym, ap, ◌∙◌, arith, Some, suc, ◌==◌, false, Bool, List, ◌*◌, ◌≤◌, not, cond, ap₂, subst, ◌⊎◌, inl, inr, refl, zero, ◌-◌, append_assoc}
use Rattle.std.proofs.lemmas.Bool.Decides.{nat_tests}
use Rattle.jf_path.specs.declared.children.Child.{Child}
use Rattle.jf_path.specs.Nodes.{ChildrenRiseFrom}
use Rattle.jf_path.specs.declared.node.PlainNode.{PlainNode}
use Rattle.jf_path.specs.declared.node.PlainNode.TheVariants as node
use Rattle.jf_path.proofs.NodeLaws.{RiseFrom-weaker}
use Rattle.jf_hash.specs.Roots.{part_root}
use Rattle.jf_hash.specs.Slots.{Part, with_nibble}
use Rattle.jf_model.specs.Nodes.{Path, plain_node, has_one, has_two, child_in_node}
use Rattle.jf_model.specs.ChildEntries.{sub, child_entries}
use Rattle.jf_model.specs.Walk.{each_from, list_of_new_nodes}
use Rattle.jf_walk.proofs.ChildEntryLaws.{child_entries-many}
use Rattle.jf_walk.proofs.WalkLaws.{each_push}
use Rattle.jf_walk.proofs.PlainLaws.{plain_node-many}
use Rattle.jf_node.specs.LinkValue.{LinkValue, link_version_at}
use Rattle.jf_node.specs.LinkFacts.{IsLink}
use Rattle.jf_node.specs.Shown.{ShowsLeaf}
use Rattle.jf_diff.specs.Landings.{version_or}
use Rattle.jf_diff.specs.Below.{IsBelow, listed_below}
use Rattle.jf_diff.specs.Plains.{plain_at, children_list, fresh_below}
use Rattle.jf_diff.proofs.Walks.{listed_below-child}

-- a node at a path through a child is the node at the rest of the path below the child
pub plain-child : (x : LinkValue) (n : ℕ) (c : LinkValue) (p : Path) → IsBelow x n (Some c) → plain_at x (n ∷ p) ≡ plain_at c p
plain-child x n c p is =
    let at : x.depth + length (n ∷ p) ≡ c.depth + length p = omega (arith, is.placed.1) in
    let entries : sub x.depth (n ∷ p) x.entries ≡ sub c.depth p c.entries = ap (sub (x.depth + 1) p) (sym is.entries) ∙ ap (λ d. sub d p c.entries) (sym is.placed.1) in
    let versions : (λ (m : ℕ). version_or (link_version_at ((n ∷ p) ++ m ∷ []) (Some x))) ≡ (λ (m : ℕ). version_or (link_version_at (p ++ m ∷ []) (Some c))) = λ i m. version_or (is.versions (p ++ m ∷ []) i) in
    λ i. plain_node true (versions i) (at i) (entries i)

-- what is listed from a child on, by the path that leads to it
pub fresh-child : (version : ℕ) (front path : Path) (x : LinkValue) (n : ℕ) (c : LinkValue) (es : Part) → IsBelow x n (Some c) → path ≡ front ++ n ∷ []
    → list_of_new_nodes (64 - c.depth) c.depth (child_entries x.depth n es) c.entries (fresh_below version path c) ≡ listed_below x.depth n es x.entries (fresh_below version front x)
fresh-child version front path x n c es is at =
    listed_below-child x.depth n c.depth es (child_entries x.depth n es) x.entries c.entries (fresh_below version front x) (fresh_below version path c) is.placed.1 refl is.entries
    (λ p. ap₂ (λ (q : Path) (r : PlainNode). (record { version = version; path = q }, r)) (ap (λ q. q ++ p) at ∙ append_assoc front (n ∷ []) p) (sym (plain-child x n c p is)))

-- ---- children
abbrev pub versions_below : LinkValue → ℕ → ℕ
versions_below x n = version_or (link_version_at (n ∷ []) (Some x))

eq_one : (n : ℕ) → (suc (suc n) == 1) ≡ false
eq_one n = grind (arith, nat_tests)

abbrev one : ℕ → ℕ → List ℕ → Bool → ℕ → List Child
one n v hash leaf count = record { nibble = n; version = v; hash = hash; leaf = leaf; count = count } ∷ []

some_child : (d n v count : ℕ) (hash : List ℕ) (part : Part) → 1 ≤ length part → count ≡ length part → hash ≡ part_root (4 * (d + 1)) part
    → one n v hash (count == 1) count ≡ cond (has_one part) (one n v (part_root (4 * (d + 1)) part) (not (has_two part)) (length part)) []
some_child d n v count hash [] some long is = absurd (omega arith)
some_child d n v count hash (e ∷ []) some long is = ap₂ (λ (h : List ℕ) (k : ℕ). one n v h (k == 1) k) is long
some_child d n v count hash (e ∷ f ∷ part) some long is =
    ap₂ (λ (h : List ℕ) (k : ℕ). one n v h (k == 1) k) is long ∙ ap (λ (b : Bool). one n v (part_root (4 * (d + 1)) (e ∷ f ∷ part)) b (length (e ∷ f ∷ part))) (eq_one (length part))

-- what is added to the list is the child at the nibble
pub child_is : (x : LinkValue) (n k : ℕ) (c : LinkValue) (v count : ℕ) (hash : List ℕ) → 2 ≤ length x.entries → IsBelow x n (Some c) → IsLink c → n ≡ k → v ≡ c.version → count ≡ length c.entries → hash ≡ part_root (4 * c.depth) c.entries
    → one k v hash (count == 1) count ≡ child_in_node true (versions_below x) x.depth x.entries n
child_is x n k c v count hash many is link at own long hashed =
    let part : c.entries ≡ with_nibble x.depth n x.entries = is.entries ∙ child_entries-many x.depth n x.entries many in
    let here : v ≡ versions_below x n = own ∙ ap version_or (sym link.own) ∙ ap version_or (sym (is.versions [])) in
    ap₂ (λ (m w : ℕ). one m w hash (count == 1) count) (sym at) here
    ∙ some_child x.depth n (versions_below x n) count hash (with_nibble x.depth n x.entries) (subst (λ es. 1 ≤ length es) part link.entries.some) (long ∙ ap length part)
    (hashed ∙ ap₂ (λ d es. part_root (4 * d) es) is.placed.1 part)

pub child_none : (x : LinkValue) (n : ℕ) → 2 ≤ length x.entries → child_entries x.depth n x.entries ≡ [] → child_in_node true (versions_below x) x.depth x.entries n ≡ []
child_none x n many none =
    let part : with_nibble x.depth n x.entries ≡ [] = sym (child_entries-many x.depth n x.entries many) ∙ none in
    ap (λ es. cond (has_one es) (one n (versions_below x n) (part_root (4 * (x.depth + 1)) es) (not (has_two es)) (length es)) []) part

module _ {X : Type 0} where
  pub each_more : (n : ℕ) (g : ℕ → List X) (xs ys : List X) → xs ≡ each_from n 0 g → ys ≡ xs ++ g n → ys ≡ each_from (n + 1) 0 g
  each_more n g xs ys is more =
      more ∙ ap (λ t. t ++ g n) is ∙ ap (λ m. each_from n 0 g ++ g m) (let e : n ≡ 0 + n = omega arith in e) ∙ sym (each_push n 0 g) ∙ ap (λ k. each_from k 0 g) (let e : suc n ≡ n + 1 = omega arith in e)

-- ---- nibbles rise
-- an empty list, or one child at the nibble
abbrev IsOneAt : ℕ → List Child → Type 0
IsOneAt n cs = (cs ≡ []) ⊎ ((c : Child) × (cs ≡ c ∷ []) × (c.nibble ≡ n))

one_child : (x : LinkValue) (n : ℕ) → IsOneAt n (child_in_node true (versions_below x) x.depth x.entries n)
one_child x n =
    let part = with_nibble x.depth n x.entries in
    let c : Child = record { nibble = n; version = versions_below x n; hash = part_root (4 * (x.depth + 1)) part; leaf = not (has_two part); count = length part } in
    elim (has_one part) as (λ b. IsOneAt n (cond b (c ∷ []) [])) [ true ↦ inr (c, refl, refl) | false ↦ inl refl ]

rise_each : (count n : ℕ) (g : ℕ → List Child) (last : Child) → ((m : ℕ) → IsOneAt m (g m)) → n + count ≤ last.nibble → ChildrenRiseFrom n (each_from count n g ++ last ∷ [])
rise_each zero n g last one le = (omega arith, tt)
rise_each (suc count) n g last one le =
    let rest = rise_each count (n + 1) g last one (omega arith) in
    elim (one n) [
      | inl none ↦ subst (λ cs. ChildrenRiseFrom n ((cs ++ each_from count (n + 1) g) ++ last ∷ [])) (sym none) (RiseFrom-weaker n (n + 1) _ (omega arith) rest)
      | inr some ↦ subst (λ cs. ChildrenRiseFrom n ((cs ++ each_from count (n + 1) g) ++ last ∷ [])) (sym some.1)
          (let at = some.2 in (omega arith, subst (λ m. ChildrenRiseFrom (m + 1) (each_from count (n + 1) g ++ last ∷ [])) (sym some.2) rest))
    ]

-- one more child, after those with lesser nibbles
pub children_rise : (x : LinkValue) (n : ℕ) (list : List Child) (c : Child) → list ≡ each_from n 0 (child_in_node true (versions_below x) x.depth x.entries) → c.nibble ≡ n → ChildrenRiseFrom 0 (list ++ c ∷ [])
children_rise x n list c is at = subst (λ cs. ChildrenRiseFrom 0 (cs ++ c ∷ [])) (sym is) (rise_each n 0 (child_in_node true (versions_below x) x.depth x.entries) c (one_child x) (omega (arith, at)))

-- ---- the node itself
pub leaf_plain : (x : LinkValue) (k v h : List ℕ) → ShowsLeaf x k v h → node.Leaf k v ≡ plain_at x []
unfolding plain_node
leaf_plain x k v h shows = ap (λ es. plain_node true (versions_below x) (x.depth + 0) es) (sym shows.entries)

pub inner_plain : (x : LinkValue) → 2 ≤ length x.entries → node.Inner (children_list x) ≡ plain_at x []
inner_plain x many =
    sym (plain_node-many true (versions_below x) x.depth x.entries many) ∙ ap (λ d. plain_node true (versions_below x) d x.entries) (let e : x.depth ≡ x.depth + 0 = omega arith in e)
