-- The nodes that are looked at when a range is copied, child by child.
use Rattle.std.specs.Prelude.{ℕ, ◌+◌, ◌*◌, ◌≡◌, ◌-◌, ◌≤◌, min, ◌<◌, take, drop, length, List, Option, Some, None}
use Rattle.std.proofs.Common.{arith, ◌⊎◌, inl, inr, ap, ◌∙◌, subst, add-mul, mul_comm, length-take, length-drop, sym, get_or}
use Rattle.std.proofs.lemmas.Bool.{cases_lt}
use Rattle.std.proofs.lemmas.Nat.{mul-le}
use Rattle.jf_node.specs.LinkValue.{LinkValue}
use Rattle.jf_node.specs.Children.{content, entries_of_children}
use Rattle.jf_node.specs.Shown.{ShowsInner}
use Rattle.jf_node.proofs.ChildLaws.{length-joined-more, length-joined-take}
use Rattle.jf_evidence.specs.Ranges.{Entries}
use Rattle.jf_range.specs.Visits.{copied_count, ends_inside, most_nodes}
use Rattle.jf_range.proofs.Walks.{IsWalked}

-- what a node of a height costs besides itself
abbrev pub below : ℕ → ℕ → ℕ → ℕ → ℕ
below height skip room n = copied_count skip room n * (height + 1) + ends_inside skip room n * (16 * height)

-- ---- one more child, with m entries after n
copied-more : (skip room n m : ℕ) → copied_count skip room (n + m) ≡ copied_count skip room n + copied_count (skip - n) (room - copied_count skip room n) m
copied-more skip room n m = omega arith

front-more : (skip room n m : ℕ) → min 1 (min (skip - n) (copied_count (skip - n) (room - copied_count skip room n) m)) + min 1 (min skip (copied_count skip room n)) ≤ min 1 (min skip (copied_count skip room (n + m)))
front-more skip room n m = omega arith

nothing : (room skip m : ℕ) → room ≡ 0 → copied_count skip room m ≡ 0
nothing room skip m is = omega (arith, is)

-- if the range ends before the first n entries do, nothing more is copied
one_end : (skip room n m : ℕ) → (n - (skip + room) ≡ 0) ⊎ (copied_count (skip - n) (room - copied_count skip room n) m ≡ 0)
one_end skip room n m = elim (cases_lt (skip + room) n) [
  | inl inside ↦ (let all : copied_count skip room n ≡ room = omega (arith, inside) in let none : room - copied_count skip room n ≡ 0 = omega (arith, all) in inr (nothing (room - copied_count skip room n) (skip - n) m none))
  | inr past ↦ inl (omega (arith, past))
]

back_from : (c c' c'' x y w : ℕ) → c'' ≡ c + c' → x ≤ w → y ≤ w → (y ≡ 0) ⊎ (c' ≡ 0) → min 1 (min c' x) + min 1 (min c y) ≤ min 1 (min c'' w)
back_from c c' c'' x y w is le le' (inl none) = omega (arith, is, le, le', none)
back_from c c' c'' x y w is le le' (inr none) = omega (arith, is, le, le', none)

back-more : (skip room n m : ℕ) → min 1 (min (copied_count (skip - n) (room - copied_count skip room n) m) (m - (skip - n + (room - copied_count skip room n)))) + min 1 (min (copied_count skip room n) (n - (skip + room)))
    ≤ min 1 (min (copied_count skip room (n + m)) (n + m - (skip + room)))
back-more skip room n m =
    back_from (copied_count skip room n) (copied_count (skip - n) (room - copied_count skip room n) m) (copied_count skip room (n + m)) (m - (skip - n + (room - copied_count skip room n))) (n - (skip + room)) (n + m - (skip + room))
    (copied-more skip room n m) (omega arith) (omega arith) (one_end skip room n m)

ends-more : (skip room n m : ℕ) → ends_inside (skip - n) (room - copied_count skip room n) m + ends_inside skip room n ≤ ends_inside skip room (n + m)
ends-more skip room n m = omega (arith, front-more skip room n m, back-more skip room n m)

-- two weights
weigh : (a b t t' t'' u u' u'' : ℕ) → t'' ≡ t + t' → u' + u ≤ u'' → (t' * a + u' * b) + (t * a + u * b) ≤ t'' * a + u'' * b
weigh a b t t' t'' u u' u'' is le =
    let first : t'' * a ≡ t * a + t' * a = ap (λ n. n * a) is ∙ add-mul t t' a in
    let second : u' * b + u * b ≤ u'' * b = subst (λ n. n ≤ u'' * b) (add-mul u' u b) (mul-le (u' + u) b u'' b le (omega arith)) in
    omega (arith, first, second)

pub below-more : (height skip room n m : ℕ) → below height (skip - n) (room - copied_count skip room n) m + below height skip room n ≤ below height skip room (n + m)
below-more height skip room n m =
    weigh (height + 1) (16 * height) (copied_count skip room n) (copied_count (skip - n) (room - copied_count skip room n) m) (copied_count skip room (n + m)) (ends_inside skip room n) (ends_inside (skip - n) (room - copied_count skip room n) m)
    (ends_inside skip room (n + m)) (copied-more skip room n m) (ends-more skip room n m)

pub below-grows : (height skip room n m : ℕ) → n ≤ m → below height skip room n ≤ below height skip room m
below-grows height skip room n m le =
    let some : copied_count skip room n ≤ copied_count skip room m = omega arith in
    let ends : ends_inside skip room n ≤ ends_inside skip room m = omega arith in
    omega (arith, mul-le (copied_count skip room n) (height + 1) (copied_count skip room m) (height + 1) some (omega arith), mul-le (ends_inside skip room n) (16 * height) (ends_inside skip room m) (16 * height) ends (omega arith))

-- ---- the node over them
-- the cost of one more level
above : (t e h : ℕ) → t * (h + 1 + 1) + e * (16 * (h + 1)) ≡ t + 16 * e + (t * (h + 1) + e * (16 * h))
above t e h =
    let first : t * (h + 1 + 1) ≡ t * (h + 1) + t = mul_comm t (h + 1 + 1) ∙ add-mul (h + 1) 1 t ∙ ap (λ n. n + 1 * t) (mul_comm (h + 1) t) ∙ omega arith in
    let second : e * (16 * (h + 1)) ≡ e * (16 * h) + 16 * e = mul_comm e (16 * (h + 1)) ∙ ap (λ n. n * e) (let d : 16 * (h + 1) ≡ 16 * h + 16 = omega arith in d) ∙ add-mul (16 * h) 16 e ∙ ap (λ n. n + 16 * e) (mul_comm (16 * h) e) in
    omega (arith, first, second)

-- the first k children were looked at, and have n of all m entries
pub node-visited : (height skip room n m k steps old : ℕ) → n ≤ m → k ≤ 16 → skip < m → 0 < room → steps ≤ old + 1 + k + below height skip room n → steps ≤ old + 1 + n + below height skip room n
    → steps ≤ old + most_nodes (height + 1) skip room m
unfolding most_nodes
node-visited height skip room n m k steps old le few lt some by_count by_entries =
    let grown = below-grows height skip room n m le in
    let up = above (copied_count skip room m) (ends_inside skip room m) height in
    let enough : (k ≤ copied_count skip room m + 16 * ends_inside skip room m) ⊎ (n ≤ copied_count skip room m) = grind arith in
    elim enough [
      | inl by ↦ omega (arith, grown, up, by, by_count)
      | inr by ↦ omega (arith, grown, up, by, by_entries)
    ]

-- the bound for a leaf, or for a node that is passed
pub one-visited : (height skip room n steps old : ℕ) → steps ≡ old + 1 → steps ≤ old + most_nodes height skip room n
unfolding most_nodes
one-visited height skip room n steps old is = omega (arith, is)

-- the bound for a whole map
pub most-nodes_top : (height skip room n : ℕ) → height ≤ 64 → most_nodes height skip room n ≤ 65 * copied_count skip room n + 2049
unfolding most_nodes
most-nodes_top height skip room n low =
    let ends : ends_inside skip room n ≤ 2 = omega arith in
    omega (arith, mul-le (copied_count skip room n) (height + 1) (copied_count skip room n) 65 (omega arith) (omega arith), mul-le (ends_inside skip room n) (16 * height) 2 1024 ends (omega arith))

-- ---- child by child
-- the steps after the first i children of a node were looked at, which have n entries
abbrev pub AreVisited : ℕ → ℕ → ℕ → ℕ → ℕ → ℕ → ℕ → Type 0
AreVisited height skip room n i old steps = (steps ≤ old + 1 + i + below height skip room n) × (steps ≤ old + 1 + n + below height skip room n)

child_visited : (height up skip room left space n m i old steps new : ℕ) → up ≡ height → left ≡ skip - n → space ≡ room - copied_count skip room n → 1 ≤ m → AreVisited height skip room n i old steps → new ≤ steps + most_nodes up left space m
    → AreVisited height skip room (n + m) (i + 1) old new
unfolding most_nodes
child_visited height up skip room left space n m i old steps new same l s some before more =
    let here : new ≤ steps + (1 + copied_count (skip - n) (room - copied_count skip room n) m * (height + 1) + ends_inside (skip - n) (room - copied_count skip room n) m * (16 * height)) =
    subst (λ h. new ≤ steps + (1 + copied_count (skip - n) (room - copied_count skip room n) m * (h + 1) + ends_inside (skip - n) (room - copied_count skip room n) m * (16 * h))) same
    (subst (λ k. new ≤ steps + (1 + copied_count k (room - copied_count skip room n) m * (up + 1) + ends_inside k (room - copied_count skip room n) m * (16 * up))) l
    (subst (λ k. new ≤ steps + (1 + copied_count left k m * (up + 1) + ends_inside left k m * (16 * up))) s more)) in
    let rest = below-more height skip room n m in
    (omega (arith, here, rest, before.0), omega (arith, here, rest, before.1))

-- how many entries were copied so far
so_many : (skip room : ℕ) (es : Entries) → length (take room (drop skip es)) ≡ copied_count skip room (length es)
so_many skip room es = length-take room (drop skip es) ∙ ap (min room) (length-drop skip es)

pub visit-child : (depth skip room old steps new : ℕ) (before out : Entries) (left space : ℕ) (links : List (Option LinkValue)) (i : ℕ) (child : LinkValue) → i < length links → Some child ≡ get_or links i None → child.depth ≡ depth + 1
    → depth < 64 → 1 ≤ length child.entries → IsWalked skip room before out left space (entries_of_children (take i links)) → AreVisited (63 - depth) skip room (length (entries_of_children (take i links))) i old steps
    → new ≤ steps + most_nodes (64 - child.depth) left space (length child.entries) → AreVisited (63 - depth) skip room (length (entries_of_children (take (i + 1) links))) (i + 1) old new
visit-child depth skip room old steps new before out left space links i child lt is deeper deep some walked visited more =
    let es = entries_of_children (take i links) in
    let room_is : space + length (take room (drop skip es)) ≡ room = walked.room_is in
    let own : space ≡ room - copied_count skip room (length es) = let many = so_many skip room es in omega (arith, room_is, many) in
    let up : 64 - child.depth ≡ 63 - depth = omega (arith, deeper) in
    let long : length (entries_of_children (take (i + 1) links)) ≡ length es + length child.entries = length-joined-more links i None lt ∙ ap (λ (x : Option LinkValue). length es + length (content x)) (sym is) in
    subst (λ n. AreVisited (63 - depth) skip room n (i + 1) old new) (sym long) (child_visited (63 - depth) (64 - child.depth) skip room left space (length es) (length child.entries) i old steps new up walked.skip_is own some visited more)

pub visit-none : (depth skip room old steps : ℕ) (links : List (Option LinkValue)) (i : ℕ) → i < length links → None ≡ get_or links i None → AreVisited (63 - depth) skip room (length (entries_of_children (take i links))) i old steps
    → AreVisited (63 - depth) skip room (length (entries_of_children (take (i + 1) links))) (i + 1) old steps
visit-none depth skip room old steps links i lt is visited =
    let long : length (entries_of_children (take (i + 1) links)) ≡ length (entries_of_children (take i links)) =
    length-joined-more links i None lt ∙ ap (λ (x : Option LinkValue). length (entries_of_children (take i links)) + length (content x)) (sym is) ∙ (let e : length (entries_of_children (take i links)) + 0 ≡ length (entries_of_children (take i links)) = omega arith in e) in
    subst (λ n. AreVisited (63 - depth) skip room n (i + 1) old steps) (sym long) (omega (arith, visited.0), visited.1)

-- the bound for a node after its first i children were looked at
pub visit-node : (x : LinkValue) (skip room old steps : ℕ) (links : List (Option LinkValue)) (i : ℕ) → ShowsInner x links → i ≤ 16 → skip < length x.entries → 0 < room
    → AreVisited (63 - x.depth) skip room (length (entries_of_children (take i links))) i old steps → steps ≤ old + most_nodes (64 - x.depth) skip room (length x.entries)
visit-node x skip room old steps links i shows few lt some visited =
    let deep = shows.children.deep in
    let up : 63 - x.depth + 1 ≡ 64 - x.depth = omega arith in
    let long : length (entries_of_children (take i links)) ≤ length x.entries = subst (λ (es : Entries). length (entries_of_children (take i links)) ≤ length es) (sym shows.entries) (length-joined-take links i) in
    subst (λ h. steps ≤ old + most_nodes h skip room (length x.entries)) up (node-visited (63 - x.depth) skip room (length (entries_of_children (take i links))) (length x.entries) i steps old long few lt some visited.0 visited.1)
