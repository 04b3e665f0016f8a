-- The bytes of a node by itself, how many they are, and that it can be spelled.
use Rattle.std.proofs.Common.{◌≡◌, ℕ, ◌+◌, ◌*◌, ◌≤◌, ◌<◌, ◌^◌, ◌++◌, ◌∷◌, List, [], length, sym, ap, ◌∙◌, arith, subst, refl, true, false, Bool, Some, None, Option, map, take, get_or, zero, suc, zero-add, append_assoc, inl, inr, cond, not}
use Rattle.std.proofs.Math.Nat.{eq-or-lt_of_le}
use Rattle.std.proofs.lemmas.List.{length-append, length-map, length-take, get_or-map}
use Rattle.std.proofs.lemmas.List.Sums.{count_by-le-length, count_by_more_no, count_by_more_yes}
use Rattle.std.specs.List.{count_by, AllByRecursion}
use Rattle.std.specs.Option.{is_some}
use Rattle.jf_path.specs.Keys.{IsKey, IsBytes}
use Rattle.jf_path.specs.Limits.{max_value}
use Rattle.jf_path.specs.Numbers.{four_bytes}
use Rattle.jf_path.specs.declared.children.Child.{Child}
use Rattle.jf_path.specs.declared.node.PlainNode.TheVariants as node
use Rattle.jf_path.proofs.BoolLaws.{left_true, right_true}
use Rattle.jf_codec.specs.Spelling.{IsNode, node_bytes}
use Rattle.jf_codec.specs.declared.format.Format.TheVariants as format
use Rattle.jf_hash.specs.Roots.{part_root}
use Rattle.jf_hash.specs.Slots.{Part, is_occupied, slot_of, with_nibble}
use Rattle.jf_hash.specs.declared.slot.Slot.TheVariants as slot
use Rattle.jf_model.specs.Nodes.{has_one, has_two, is_node, child_in_node}
use Rattle.jf_model.specs.ChildEntries.{child_entries}
use Rattle.jf_model.specs.Walk.{each_from}
use Rattle.jf_walk.proofs.Elements.{All-each}
use Rattle.jf_walk.proofs.NodePaths.{nibbles-is_node}
use Rattle.jf_walk.proofs.WalkLaws.{each_push}
use Rattle.jf_standing.proofs.Valid.{part-valid, part_root-IsKey}
use Rattle.jf_node.specs.LinkValue.{LinkValue, link_version_at}
use Rattle.jf_node.specs.LinkFacts.{IsLink, IsLinkIf}
use Rattle.jf_node.specs.Children.{child_slot}
use Rattle.jf_node.specs.Shown.{ShowsLeaf, ShowsInner}
use Rattle.jf_diff.specs.Landings.{version_or}
use Rattle.jf_diff.specs.Plains.{children_list, plain_at}
use Rattle.jf_diff.specs.Below.{IsBelow}
use Rattle.jf_diff.proofs.PlainNodes.{leaf_plain, versions_below, child_is, child_none}
use Rattle.jf_diff.proofs.Walks.{inner_below}

-- ---- children are counted
length-child_some : (x : LinkValue) (n : ℕ) (c : LinkValue) → 2 ≤ length x.entries → IsBelow x n (Some c) → IsLink c → length (child_in_node true (versions_below x) x.depth x.entries n) ≡ 1
length-child_some x n c many is link = ap length (sym (child_is x n n c c.version (length c.entries) (part_root (4 * c.depth) c.entries) many is link refl refl refl refl))

length-child_none : (x : LinkValue) (n : ℕ) → 2 ≤ length x.entries → child_entries x.depth n x.entries ≡ [] → length (child_in_node true (versions_below x) x.depth x.entries n) ≡ 0
length-child_none x n many none = ap length (child_none x n many none)

-- a child stands at a place if it has an entry
occupied_some : (c : LinkValue) → 1 ≤ length c.entries → is_occupied (child_slot (Some c)) ≡ true
occupied_some c some = occupied (4 * c.depth) c.entries some
  where
    occupied : (d : ℕ) (es : Part) → 1 ≤ length es → is_occupied (slot_of d es) ≡ true
    occupied d [] few = absurd (omega arith)
    occupied d (e ∷ []) few = refl
    occupied d (e ∷ f ∷ es) few = refl

abbrev child_at : LinkValue → ℕ → List Child
child_at x = child_in_node true (versions_below x) x.depth x.entries

abbrev places : List (Option LinkValue) → List Bool
places links = map is_occupied (map child_slot links)

place_at : (links : List (Option LinkValue)) (k : ℕ) → k < length links → get_or (places links) k false ≡ is_occupied (child_slot (get_or links k None))
place_at links k lt = get_or-map is_occupied (map child_slot links) k slot.Absent false (omega (arith, lt, length-map links child_slot)) ∙ ap is_occupied (get_or-map child_slot links k None slot.Absent lt)

-- one more bit, set if there is one more child
one_more : (x : LinkValue) (links : List (Option LinkValue)) (k : ℕ) (c : Option LinkValue) → 2 ≤ length x.entries → k < length links → c ≡ get_or links k None → IsBelow x k c
    → count_by (λ bit. bit) (take (k + 1) (places links)) ≡ count_by (λ bit. bit) (take k (places links)) + length (child_at x k)
one_more x links k None many lt is below =
    count_by_more_no (λ bit. bit) (places links) k false (omega (arith, lt, length-map links child_slot, length-map (map child_slot links) is_occupied)) (place_at links k lt ∙ ap (λ o. is_occupied (child_slot o)) (sym is))
    ∙ (let e : count_by (λ bit. bit) (take k (places links)) ≡ count_by (λ bit. bit) (take k (places links)) + 0 = omega arith in e)
    ∙ ap (λ n. count_by (λ bit. bit) (take k (places links)) + n) (sym (length-child_none x k many (sym below.entries)))
one_more x links k (Some c) many lt is below =
    count_by_more_yes (λ bit. bit) (places links) k false (omega (arith, lt, length-map links child_slot, length-map (map child_slot links) is_occupied)) (place_at links k lt ∙ ap (λ o. is_occupied (child_slot o)) (sym is) ∙ occupied_some c below.sound.entries.some)
    ∙ ap (λ n. count_by (λ bit. bit) (take k (places links)) + n) (sym (length-child_some x k c many below below.sound))

module _ (x : LinkValue) (links : List (Option LinkValue)) (many : 2 ≤ length x.entries) (shows : ShowsInner x links) (each : (i : ℕ) → i < 16 → IsLinkIf (get_or links i None)) where
  counted_to : (k : ℕ) → k ≤ 16 → length (each_from k 0 (child_at x)) ≡ count_by (λ bit. bit) (take k (places links))
  counted_to zero le = refl
  counted_to (suc k) le =
      ap length (each_push k 0 (child_at x)) ∙ ap (λ m. length (each_from k 0 (child_at x) ++ child_at x m)) (zero-add k) ∙ length-append (each_from k 0 (child_at x)) (child_at x k)
      ∙ ap (λ n. n + length (child_at x k)) (counted_to k (omega (arith, le)))
      ∙ sym (one_more x links k (get_or links k None) many (omega (arith, le, shows.children.long)) refl (inner_below x k links (get_or links k None) shows each refl))
      ∙ ap (λ n. count_by (λ bit. bit) (take n (places links))) (let e : k + 1 ≡ suc k = omega arith in e)

  -- an inner node has as many children as bits are set
  pub count-children : count_by (λ bit. bit) (take 16 (places links)) ≡ length (children_list x)
  count-children = sym (counted_to 16 (omega arith))

-- there are at most sixteen children
pub count-few : (bits : List Bool) → count_by (λ bit. bit) (take 16 bits) ≤ 16
count-few bits = omega (arith, count_by-le-length (λ bit. bit) (take 16 bits), length-take 16 bits)

-- ---- leaves
leaf_length : (k v : List ℕ) → length k ≡ 32 → 37 + length v ≡ length (node_bytes format.Two (node.Leaf k v))
unfolding node_bytes four_bytes
leaf_length k v long = omega (arith, long, length-append (k ++ four_bytes (length v)) v, length-append k (four_bytes (length v)))

-- a leaf takes 37 bytes and its value
pub leaf_bytes : (x : LinkValue) (k v h : List ℕ) → IsLink x → ShowsLeaf x k v h → 37 + length v ≡ length (node_bytes format.Two (plain_at x []))
leaf_bytes x k v h link shows =
    leaf_length k v ((subst (λ es. AllByRecursion (λ (e : List ℕ × List ℕ). IsKey e.0) es) shows.entries link.entries.keys).0.long)
    ∙ ap (λ n. length (node_bytes format.Two n)) (leaf_plain x k v h shows)

-- the root of the empty map takes one byte
pub null_bytes : 1 ≡ length (node_bytes format.Two node.Null)
unfolding node_bytes
null_bytes = refl

-- a leaf's bytes, after others
pub leaf_spelled : (x : LinkValue) (k v h out : List ℕ) → ShowsLeaf x k v h → out ++ 1 ∷ k ++ four_bytes (length v) ++ v ≡ out ++ node_bytes format.Two (plain_at x [])
unfolding node_bytes
leaf_spelled x k v h out shows =
    append_assoc (out ++ 1 ∷ k) (four_bytes (length v)) v ∙ append_assoc out (1 ∷ k) (four_bytes (length v) ++ v)
    ∙ ap (λ t. out ++ t) (sym (append_assoc (1 ∷ k) (four_bytes (length v)) v) ∙ ap (λ n. node_bytes format.Two n) (leaf_plain x k v h shows))

-- the value of a leaf is short
pub leaf_short : (x : LinkValue) (k v h : List ℕ) → IsLink x → ShowsLeaf x k v h → length v ≤ max_value
leaf_short x k v h link shows = (subst (λ es. AllByRecursion (λ (e : List ℕ × List ℕ). length e.1 ≤ max_value) es) shows.entries link.entries.short).0

-- a leaf has a spelling
pub leaf_valid : (x : LinkValue) (k v h : List ℕ) → IsLink x → ShowsLeaf x k v h → IsNode format.Two (plain_at x [])
leaf_valid x k v h link shows =
    subst (IsNode format.Two) (leaf_plain x k v h shows) (
      (subst (λ es. AllByRecursion (λ (e : List ℕ × List ℕ). IsKey e.0) es) shows.entries link.entries.keys).0,
      (subst (λ es. AllByRecursion (λ (e : List ℕ × List ℕ). IsBytes e.1) es) shows.entries link.entries.values).0,
      leaf_short x k v h link shows,
    )

-- ---- inner nodes
-- what holds of each element of two lists, one after the other, holds of those of each
all_both : {X : Type 0} (P : X → Type 0) (xs ys : List X) → AllByRecursion P (xs ++ ys) → AllByRecursion P xs × AllByRecursion P ys
all_both P [] ys all = (tt, all)
all_both P (x ∷ xs) ys all = let both = all_both P xs ys all.1 in ((all.0, both.0), both.1)

-- what holds of each element that is listed from n on holds of those of one of the places
each_at : {X : Type 0} (P : X → Type 0) (count n i : ℕ) (g : ℕ → List X) → AllByRecursion P (each_from count n g) → n ≤ i → i < n + count → AllByRecursion P (g i)
each_at P zero n i g all low high = absurd (omega arith)
each_at P (suc count) n i g all low high = elim (eq-or-lt_of_le low) [
  | inl same ↦ subst (λ m. AllByRecursion P (g m)) same (all_both P (g n) (each_from count (n + 1) g) all).0
  | inr later ↦ each_at P count (n + 1) i g ((all_both P (g n) (each_from count (n + 1) g) all).1) (omega arith) (omega arith)
]

-- the versions of the children have 64 bits, and there are no others
versions_low : (x : LinkValue) → IsLink x → AllByRecursion (λ c. c.version < 2 ^ 64) (children_list x) → (i : ℕ) → versions_below x i < 2 ^ 64
unfolding is_node
versions_low x link all i = elim (link_version_at (i ∷ []) (Some x)) as (λ o. link_version_at (i ∷ []) (Some x) ≡ o → version_or o < 2 ^ 64) [
  | None ↦ λ is. omega arith
  | Some v ↦ λ is.
      let node : is_node x.depth (i ∷ []) x.entries ≡ true = sym (link.versioned.exact (i ∷ [])) ∙ ap is_some is in
      let small = (nibbles-is_node x.depth (i ∷ []) x.entries node).0 in
      let one : has_one (with_nibble x.depth i x.entries) ≡ true = right_true (has_two x.entries) _ (left_true _ _ node) in
      let here = each_at (λ (c : Child). c.version < 2 ^ 64) 16 0 i (child_in_node true (versions_below x) x.depth x.entries) all (omega arith) (omega (arith, small)) in
      subst (λ o. version_or o < 2 ^ 64) is (child_low x i one here)
] refl
  where
    child_low : (x : LinkValue) (i : ℕ) → has_one (with_nibble x.depth i x.entries) ≡ true → AllByRecursion (λ (c : Child). c.version < 2 ^ 64) (child_in_node true (versions_below x) x.depth x.entries i) → versions_below x i < 2 ^ 64
    child_low x i one here =
        let part = with_nibble x.depth i x.entries in
        let c : Child = record { nibble = i; version = versions_below x i; hash = part_root (4 * (x.depth + 1)) part; leaf = not (has_two part); count = length part } in
        (subst (λ b. AllByRecursion (λ (d : Child). d.version < 2 ^ 64) (cond b (c ∷ []) [])) one here).0

-- the hashes of the children of an inner node have 32 bytes
pub hashes_long : (x : LinkValue) → AllByRecursion (λ c. length c.hash ≡ 32) (children_list x)
hashes_long x = All-each (λ (c : Child). length c.hash ≡ 32) 16 0 (child_at x) (λ i. at_place (has_one (with_nibble x.depth i x.entries)) _ ((part_root-IsKey (4 * (x.depth + 1)) (with_nibble x.depth i x.entries)).long))
  where
    at_place : (b : Bool) (c : Child) → length c.hash ≡ 32 → AllByRecursion (λ (d : Child). length d.hash ≡ 32) (cond b (c ∷ []) [])
    at_place true c long = (long, tt)
    at_place false c long = tt

-- an inner node has a spelling
pub inner_valid : (x : LinkValue) → IsLink x → AllByRecursion (λ c. c.version < 2 ^ 64) (children_list x) → IsNode format.Two (plain_at x [])
inner_valid x link all = part-valid format.Two (versions_below x) (x.depth + 0) x.entries link.bounded (versions_low x link all) (entries_are x link)
  where
    together : (es : Part) → AllByRecursion (λ (e : List ℕ × List ℕ). IsKey e.0) es → AllByRecursion (λ (e : List ℕ × List ℕ). IsBytes e.1) es → AllByRecursion (λ (e : List ℕ × List ℕ). length e.1 ≤ max_value) es → AllByRecursion (λ (e : List ℕ × List ℕ). IsKey e.0 × IsBytes e.1 × (length e.1 ≤ 4096)) es
    together [] keys values short = tt
    together (e ∷ es) keys values short = ((keys.0, values.0, short.0), together es keys.1 values.1 short.1)

    entries_are : (x : LinkValue) → IsLink x → AllByRecursion (λ (e : List ℕ × List ℕ). IsKey e.0 × IsBytes e.1 × (length e.1 ≤ 4096)) x.entries
    entries_are x link = together x.entries link.entries.keys link.entries.values link.entries.short
