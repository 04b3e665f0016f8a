-- The versions of the nodes below a node are those of its children's nodes, and exactly the nodes have a version.
use Rattle.std.proofs.Common.{ℕ, ◌≡◌, false, refl, Less, Equal, Greater, nat_cmp, Ordering, ◌+◌, cond, List, [], ◌∷◌, ◌++◌, ap, None, Some, true, map, ◌∙◌, Option, ◌<◌, arith, zero, suc, get_or, sym, zero-add, ◌≤◌, length, ◌&&◌, inl, inr, subst}
use Rattle.std.proofs.lemmas.List.{get_or_past}
use Rattle.std.specs.Cmp.{ranked}
use Rattle.std.specs.Cmp.Lexicographic.{slice_cmp}
use Rattle.std.specs.Option.{is_some}
use Rattle.std.specs.Ordering.{ordering_then, is_eq}
use Rattle.jf_path.proofs.OrderLaws.{nat_tied}
use Rattle.jf_hash.specs.Slots.{Part, with_nibble}
use Rattle.jf_model.specs.Nodes.{Path, has_two, has_one, is_node}
use Rattle.jf_node.specs.LinkValue.{version_among, LinkValue, link_version_at}
use Rattle.jf_node.specs.Children.{child_versions, versions_from, renewed_value, leaf_value, content, FitsAt, entries_of_children, AreChildren, inner_value}
use Rattle.jf_node.specs.LinkFacts.{IsLink, NodesHaveVersions, IsLinkIf}
use Rattle.jf_node.proofs.ChildLaws.{FitFrom-at, below-or-past, with_nibble-child}

-- a node's path and its version
abbrev PathVersion : Type 0
PathVersion = Path × ℕ

-- ---- paths through a child
nat_apart : (n m : ℕ) → ¬ (n ≡ m) → (o : Ordering) → is_eq (ordering_then (nat_cmp n m) o) ≡ false
nat_apart n m ne o = elim (nat_cmp n m) as (λ r. r ≡ nat_cmp n m → is_eq (ordering_then r o) ≡ false) [
  | Less ↦ λ r. refl
  | Equal ↦ λ r. absurd (ne (ranked n m Equal r))
  | Greater ↦ λ r. refl
] refl

find-left : (q : Path) (xs ys : List PathVersion) → version_among q ys ≡ None → version_among q (xs ++ ys) ≡ version_among q xs
find-left q [] ys h = h
find-left q (x ∷ xs) ys h = ap (λ r. cond (is_eq (slice_cmp nat_cmp q x.0)) (Some x.1) r) (find-left q xs ys h)

find-right : (q : Path) (xs ys : List PathVersion) → version_among q xs ≡ None → version_among q (xs ++ ys) ≡ version_among q ys
find-right q [] ys h = refl
find-right q (x ∷ xs) ys h =
    elim (is_eq (slice_cmp nat_cmp q x.0)) as (λ b. cond b (Some x.1) (version_among q xs) ≡ None → cond b (Some x.1) (version_among q (xs ++ ys)) ≡ version_among q ys) [
      | true ↦ λ no. (cc)
      | false ↦ λ no. find-right q xs ys no
    ] h

find-deeper : (n : ℕ) (p : Path) (versions : List PathVersion) → version_among (n ∷ p) (map (λ m. (n ∷ m.0, m.1)) versions) ≡ version_among p versions
find-deeper n p [] = refl
find-deeper n p (m ∷ versions) =
    ap (λ r. cond (is_eq (ordering_then r (slice_cmp nat_cmp p m.0))) (Some m.1) (version_among (n ∷ p) (map (λ m. (n ∷ m.0, m.1)) versions))) (nat_tied n)
    ∙ ap (λ r. cond (is_eq (slice_cmp nat_cmp p m.0)) (Some m.1) r) (find-deeper n p versions)

find-beside : (n k : ℕ) (p : Path) (versions : List PathVersion) → ¬ (k ≡ n) → version_among (k ∷ p) (map (λ m. (n ∷ m.0, m.1)) versions) ≡ None
find-beside n k p [] ne = refl
find-beside n k p (m ∷ versions) ne =
    ap (λ b. cond b (Some m.1) (version_among (k ∷ p) (map (λ m. (n ∷ m.0, m.1)) versions))) (nat_apart k n ne (slice_cmp nat_cmp p m.0)) ∙ find-beside n k p versions ne

of-same : (n : ℕ) (p : Path) (x : Option LinkValue) → version_among (n ∷ p) (child_versions n x) ≡ link_version_at p x
of-same n p None = refl
of-same n p (Some x) = find-deeper n p x.versions

of-other : (n k : ℕ) (p : Path) (x : Option LinkValue) → ¬ (k ≡ n) → version_among (k ∷ p) (child_versions n x) ≡ None
of-other n k p None ne = refl
of-other n k p (Some x) ne = find-beside n k p x.versions ne

from-before : (n k : ℕ) (p : Path) (links : List (Option LinkValue)) → k < n → version_among (k ∷ p) (versions_from n links) ≡ None
from-before n k p [] lt = refl
from-before n k p (x ∷ links) lt =
    find-right (k ∷ p) (child_versions n x) (versions_from (n + 1) links) (of-other n k p x (λ e. omega arith)) ∙ from-before (n + 1) k p links (omega arith)

from-at : (n at k : ℕ) (p : Path) (links : List (Option LinkValue)) → k ≡ n + at → version_among (k ∷ p) (versions_from n links) ≡ link_version_at p (get_or links at None)
from-at n at k p [] is = refl
from-at n zero k p (x ∷ links) is =
    find-left (k ∷ p) (child_versions n x) (versions_from (n + 1) links) (from-before (n + 1) k p links (omega arith))
    ∙ ap (λ m. version_among (m ∷ p) (child_versions n x)) (let e : k ≡ n = omega arith in e) ∙ of-same n p x
from-at n (suc at) k p (x ∷ links) is =
    find-right (k ∷ p) (child_versions n x) (versions_from (n + 1) links) (of-other n k p x (λ e. omega arith)) ∙ from-at (n + 1) at k p links (omega arith)

-- the version of a node below a child is the one that the child has
pub version-below : (n : ℕ) (p : Path) (version : ℕ) (links : List (Option LinkValue)) → version_among (n ∷ p) (([], version) ∷ versions_from 0 links) ≡ link_version_at p (get_or links n None)
version-below n p version links = from-at 0 n n p links (sym (zero-add n))

-- the versions below a node do not change with its own
pub version-renewed : (version n : ℕ) (p : Path) (x : LinkValue) → IsLink x → link_version_at (n ∷ p) (Some (renewed_value version x)) ≡ link_version_at (n ∷ p) (Some x)
version-renewed version n p x link = ap (version_among (n ∷ p)) (sym link.first)

-- ---- exactly the nodes have one
pub has_two-true : (es : Part) → 2 ≤ length es → has_two es ≡ true
has_two-true [] h = absurd (omega arith)
has_two-true (e ∷ []) h = absurd (omega arith)
has_two-true (e ∷ f ∷ es) h = refl

pub has_two-false : (es : Part) → length es ≤ 1 → has_two es ≡ false
has_two-false [] h = refl
has_two-false (e ∷ []) h = refl
has_two-false (e ∷ f ∷ es) h = absurd (omega arith)

pub has_one-true : (es : Part) → 1 ≤ length es → has_one es ≡ true
has_one-true [] h = absurd (omega arith)
has_one-true (e ∷ es) h = refl

pub alone_versioned : (version depth : ℕ) (es : Part) → length es ≤ 1 → (path : Path) → is_some (version_among path (([], version) ∷ [])) ≡ is_node depth path es
unfolding is_node
alone_versioned version depth es few [] = refl
alone_versioned version depth es few (n ∷ p) = ap (λ b. (b && has_one (with_nibble depth n es)) && is_node (depth + 1) p (with_nibble depth n es)) (sym (has_two-false es few))

pub leaf_versioned : (version depth : ℕ) (k v : List ℕ) → NodesHaveVersions (leaf_value version depth k v)
leaf_versioned version depth k v = record { exact = λ path. alone_versioned version depth ((k, v) ∷ []) (omega arith) path }

through_child : (depth n : ℕ) (p : Path) (x : Option LinkValue) → FitsAt depth n x → IsLinkIf x → is_some (link_version_at p x) ≡ (has_one (content x) && is_node (depth + 1) p (content x))
through_child depth n p None fit link = refl
through_child depth n p (Some x) fit link =
    link.versioned.exact p ∙ ap (λ d. is_node d p x.entries) fit.0 ∙ ap (λ b. b && is_node (depth + 1) p x.entries) (sym (has_one-true x.entries link.entries.some))

pub inner_versioned : (version depth : ℕ) (links : List (Option LinkValue)) → AreChildren depth links → ((k : ℕ) → k < 16 → IsLinkIf (get_or links k None)) → NodesHaveVersions (inner_value version depth links)
unfolding is_node
inner_versioned version depth links children each = record { exact = λ path. exact path }
  where
    long : length links ≡ 16
    long = children.long

    fits : (n : ℕ) → n < 16 → FitsAt depth n (get_or links n None)
    fits n small = subst (λ m. FitsAt depth m (get_or links n None)) (zero-add n) (FitFrom-at depth 0 n links children.fit (omega (arith, long)))

    child : (n : ℕ) (p : Path) → is_some (link_version_at p (get_or links n None)) ≡ (has_one (content (get_or links n None)) && is_node (depth + 1) p (content (get_or links n None)))
    child n p = elim (below-or-past n) [
      | inl small ↦ through_child depth n p (get_or links n None) (fits n small) (each n small)
      | inr past ↦ subst (λ x. is_some (link_version_at p x) ≡ (has_one (content x) && is_node (depth + 1) p (content x))) (sym (get_or_past links n None (omega (arith, long)))) refl
    ]

    exact : (path : Path) → is_some (version_among path (([], version) ∷ versions_from 0 links)) ≡ is_node depth path (entries_of_children links)
    exact [] = refl
    exact (n ∷ p) =
        ap is_some (version-below n p version links) ∙ child n p ∙ ap (λ es. has_one es && is_node (depth + 1) p es) (sym (with_nibble-child depth n links children))
        ∙ ap (λ b. (b && has_one (with_nibble depth n (entries_of_children links))) && is_node (depth + 1) p (with_nibble depth n (entries_of_children links))) (sym (has_two-true (entries_of_children links) children.several))
