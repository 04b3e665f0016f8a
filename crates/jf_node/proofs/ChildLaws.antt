-- The entries of a child are those of its node with the child's nibble.
use Rattle.std.specs.Prelude.{◌≡◌, ◌<◌, ◌+◌, ℕ, zero, suc, List, [], ◌∷◌, length, Option, None, refl, ◌==◌, true, cond, false, Some, ◌++◌, ◌≤◌}
use Rattle.std.proofs.Common.{arith, sym, subst, get_or, set, ◌∙◌, ap, ap₂, append-nil, ◌⊎◌, inl, inr, append_assoc, take, length-append, add-one, drop}
use Rattle.std.proofs.Math.Seq.{take-suc}
use Rattle.std.proofs.lemmas.Bool.Decides.{nat_tests}
use Rattle.std.proofs.lemmas.List.{get_or_past, take-append-drop}
use Rattle.std.proofs.lemmas.List.Elements.{filter-append}
use Rattle.std.specs.FinMap.{find}
use Rattle.std.specs.Ordering.{is_eq}
use Rattle.jf_path.specs.Nibbles.{nibble}
use Rattle.jf_path.specs.Keys.{key_cmp}
use Rattle.jf_path.proofs.OrderLaws.{Equal-from_is_eq}
use Rattle.jf_path.proofs.NibbleLaws.{nibble-small}
use Rattle.jf_hash.specs.Slots.{Part, with_nibble}
use Rattle.jf_hash.proofs.KeyOrder.{same_key-exact}
use Rattle.jf_hash.proofs.Finds.{find-right, find-left}
use Rattle.jf_node.specs.LinkValue.{LinkValue}
use Rattle.jf_node.specs.Children.{FitsAt, FitFrom, HaveNibble, content, entries_of_children, AreChildren}

-- ---- children at their places
-- the child at a place fits there
pub FitFrom-at : (depth n at : ℕ) (links : List (Option LinkValue)) → FitFrom depth n links → at < length links → FitsAt depth (n + at) (get_or links at None)
FitFrom-at depth n at [] h short = absurd (omega arith)
FitFrom-at depth n zero (x ∷ more) h short = let e : n + 0 ≡ n = omega arith in subst (λ k. FitsAt depth k x) (sym e) h.0
FitFrom-at depth n (suc at) (x ∷ more) h short =
    let e : n + suc at ≡ (n + 1) + at = omega arith in
    subst (λ k. FitsAt depth k (get_or more at None)) (sym e) (FitFrom-at depth (n + 1) at more h.1 (omega arith))

-- children still fit after one is replaced by another that fits
pub FitFrom-set : (depth n at : ℕ) (links : List (Option LinkValue)) (x : Option LinkValue) → FitFrom depth n links → FitsAt depth (n + at) x → FitFrom depth n (set links at x)
FitFrom-set depth n at [] x h fits = tt
FitFrom-set depth n zero (y ∷ more) x h fits = let e : n + 0 ≡ n = omega arith in (subst (λ k. FitsAt depth k x) e fits, h.1)
FitFrom-set depth n (suc at) (y ∷ more) x h fits =
    let e : n + suc at ≡ (n + 1) + at = omega arith in
    (h.0, FitFrom-set depth (n + 1) at more x h.1 (subst (λ k. FitsAt depth k x) e fits))

same_by : (xs ys : List (Option LinkValue)) → length xs ≡ length ys → ((k : ℕ) → k < length xs → get_or xs k None ≡ get_or ys k None) → xs ≡ ys
same_by [] [] e h = refl
same_by [] (y ∷ ys) e h = absurd (omega arith)
same_by (x ∷ xs) [] e h = absurd (omega arith)
same_by (x ∷ xs) (y ∷ ys) e h = (cc (h 0 (omega arith), same_by xs ys (omega arith) (λ k s. h (suc k) (omega arith))))

-- two lists of sixteen children are equal if they are so at each place
pub same_links : (xs ys : List (Option LinkValue)) → length xs ≡ 16 → length ys ≡ 16 → ((k : ℕ) → k < 16 → get_or xs k None ≡ get_or ys k None) → xs ≡ ys
same_links xs ys long short same = same_by xs ys (long ∙ sym short) (λ k h. same k (omega arith))

-- ---- the entries with a nibble
with_nibble-all : (depth n : ℕ) (es : Part) → HaveNibble depth n es → with_nibble depth n es ≡ es
with_nibble-all depth n [] h = refl
with_nibble-all depth n (e ∷ es) h =
    let here : (nibble e.0 depth == n) ≡ true = grind (arith, nat_tests, h.0) in
    ap (λ b. cond b (e ∷ with_nibble depth n es) (with_nibble depth n es)) here ∙ ap (λ r. e ∷ r) (with_nibble-all depth n es h.1)

with_nibble-none : (depth n k : ℕ) (es : Part) → HaveNibble depth k es → ¬ (k ≡ n) → with_nibble depth n es ≡ []
with_nibble-none depth n k [] h other = refl
with_nibble-none depth n k (e ∷ es) h other =
    let here : (nibble e.0 depth == n) ≡ false = grind (arith, nat_tests, h.0) in
    ap (λ b. cond b (e ∷ with_nibble depth n es) (with_nibble depth n es)) here ∙ with_nibble-none depth n k es h.1 other

pub with_nibble-content : (depth n : ℕ) (x : Option LinkValue) → FitsAt depth n x → with_nibble depth n (content x) ≡ content x
with_nibble-content depth n None h = refl
with_nibble-content depth n (Some x) h = with_nibble-all depth n x.entries h.1

with_nibble-other : (depth n k : ℕ) (x : Option LinkValue) → FitsAt depth k x → ¬ (k ≡ n) → with_nibble depth n (content x) ≡ []
with_nibble-other depth n k None h other = refl
with_nibble-other depth n k (Some x) h other = with_nibble-none depth n k x.entries h.1 other

pub with_nibble-append : (depth n : ℕ) (es fs : Part) → with_nibble depth n (es ++ fs) ≡ with_nibble depth n es ++ with_nibble depth n fs
with_nibble-append depth n es fs = filter-append (λ e. nibble e.0 depth == n) es fs

with_nibble-before : (depth n k : ℕ) (links : List (Option LinkValue)) → FitFrom depth k links → n < k → with_nibble depth n (entries_of_children links) ≡ []
with_nibble-before depth n k [] h below = refl
with_nibble-before depth n k (x ∷ more) h below =
    with_nibble-append depth n (content x) (entries_of_children more)
    ∙ ap₂ (λ a b. a ++ b) (with_nibble-other depth n k x h.0 (λ e. omega arith)) (with_nibble-before depth n (k + 1) more h.1 (omega arith))

-- no entry has a nibble past the last place
with_nibble-past : (depth n k : ℕ) (links : List (Option LinkValue)) → FitFrom depth k links → k + length links ≤ n → with_nibble depth n (entries_of_children links) ≡ []
with_nibble-past depth n k [] h past = refl
with_nibble-past depth n k (x ∷ more) h past =
    with_nibble-append depth n (content x) (entries_of_children more)
    ∙ ap₂ (λ a b. a ++ b) (with_nibble-other depth n k x h.0 (λ e. omega arith)) (with_nibble-past depth n (k + 1) more h.1 (omega arith))

-- the entries of all children with a nibble are those of the child there
pub with_nibble-joined : (depth n at k : ℕ) (links : List (Option LinkValue)) (d : Option LinkValue) → FitFrom depth n links → at < length links → k ≡ n + at → with_nibble depth k (entries_of_children links) ≡ content (get_or links at d)
with_nibble-joined depth n at k [] d h short is = absurd (omega arith)
with_nibble-joined depth n zero k (x ∷ more) d h short is =
    let same : k ≡ n = omega arith in
    subst (λ m. with_nibble depth m (content x ++ entries_of_children more) ≡ content x) (sym same)
    (with_nibble-append depth n (content x) (entries_of_children more)
    ∙ (ap₂ (λ a b. a ++ b) (with_nibble-content depth n x h.0) (with_nibble-before depth n (n + 1) more h.1 (omega arith)) ∙ append-nil (content x)))
with_nibble-joined depth n (suc at) k (x ∷ more) d h short is =
    with_nibble-append depth k (content x) (entries_of_children more)
    ∙ (ap (λ r. r ++ with_nibble depth k (entries_of_children more)) (with_nibble-other depth k n x h.0 (λ e. omega arith))
    ∙ with_nibble-joined depth (n + 1) at k more d h.1 (omega arith) (omega arith))

pub below-or-past : (n : ℕ) → (n < 16) ⊎ (16 ≤ n)
below-or-past n = grind arith

-- for each nibble, the entries with it are those of the child there, if there is one
pub with_nibble-child : (depth n : ℕ) (links : List (Option LinkValue)) → AreChildren depth links → with_nibble depth n (entries_of_children links) ≡ content (get_or links n None)
with_nibble-child depth n links children = elim (below-or-past n) [
  | inl small ↦ with_nibble-joined depth 0 n n links None children.fit (omega (arith, children.long)) (omega arith)
  | inr past ↦ with_nibble-past depth n 0 links children.fit (omega (arith, children.long)) ∙ ap content (sym (get_or_past links n None (omega (arith, children.long))))
]

-- ---- keys
find-other : (depth n : ℕ) (key : List ℕ) (es : Part) → HaveNibble depth n es → ¬ (nibble key depth ≡ n) → find key_cmp key es ≡ None
find-other depth n key [] h other = refl
find-other depth n key (e ∷ es) h other =
    elim (is_eq (key_cmp key e.0)) as (λ b. is_eq (key_cmp key e.0) ≡ b → cond b (Some e.1) (find key_cmp key es) ≡ None) [
      | true ↦ λ is. absurd (other (ap (λ k. nibble k depth) (same_key-exact key e.0 (Equal-from_is_eq _ is)) ∙ h.0))
      | false ↦ λ is. find-other depth n key es h.1 other
    ] refl

content-other : (depth n : ℕ) (key : List ℕ) (x : Option LinkValue) → FitsAt depth n x → ¬ (nibble key depth ≡ n) → find key_cmp key (content x) ≡ None
content-other depth n key None h other = refl
content-other depth n key (Some x) h other = find-other depth n key x.entries h.1 other

joined-other : (depth n : ℕ) (key : List ℕ) (links : List (Option LinkValue)) → FitFrom depth n links → nibble key depth < n → find key_cmp key (entries_of_children links) ≡ None
joined-other depth n key [] h below = refl
joined-other depth n key (x ∷ more) h below =
    find-right key (content x) (entries_of_children more) (content-other depth n key x h.0 (λ e. omega arith)) ∙ joined-other depth (n + 1) key more h.1 (omega arith)

-- a key is found in the child at its nibble
pub find-joined : (depth n at : ℕ) (key : List ℕ) (links : List (Option LinkValue)) (d : Option LinkValue) → FitFrom depth n links → at < length links → nibble key depth ≡ n + at → find key_cmp key (entries_of_children links) ≡ find key_cmp key (content (get_or links at d))
find-joined depth n at key [] d h short is = absurd (omega arith)
find-joined depth n zero key (x ∷ more) d h short is = find-left key (content x) (entries_of_children more) (joined-other depth (n + 1) key more h.1 (omega arith))
find-joined depth n (suc at) key (x ∷ more) d h short is =
    find-right key (content x) (entries_of_children more) (content-other depth n key x h.0 (λ e. omega arith)) ∙ find-joined depth (n + 1) at key more d h.1 (omega arith) (omega arith)

-- a key's value is that of the child at the key's nibble
pub find-child : (depth : ℕ) (links : List (Option LinkValue)) (key : List ℕ) → AreChildren depth links → find key_cmp key (entries_of_children links) ≡ find key_cmp key (content (get_or links (nibble key depth) None))
find-child depth links key children = find-joined depth 0 (nibble key depth) key links None children.fit (omega (arith, nibble-small key depth, children.long)) (omega arith)

-- a child is one nibble deeper
pub child_depth : (depth n : ℕ) (links : List (Option LinkValue)) (x : LinkValue) → AreChildren depth links → n < 16 → get_or links n None ≡ Some x → x.depth ≡ depth + 1
child_depth depth n links x children small is = (subst (FitsAt depth (0 + n)) is (FitFrom-at depth 0 n links children.fit (omega (arith, children.long)))).0

-- ---- counts
pub joined-append : (xs ys : List (Option LinkValue)) → entries_of_children (xs ++ ys) ≡ entries_of_children xs ++ entries_of_children ys
joined-append [] ys = refl
joined-append (x ∷ xs) ys = ap (λ r. content x ++ r) (joined-append xs ys) ∙ sym (append_assoc (content x) (entries_of_children xs) (entries_of_children ys))

-- one more child adds its number of entries
pub length-joined-more : (links : List (Option LinkValue)) (i : ℕ) (d : Option LinkValue) → i < length links → length (entries_of_children (take (i + 1) links)) ≡ length (entries_of_children (take i links)) + length (content (get_or links i d))
length-joined-more links i d h =
    let front : entries_of_children (take (i + 1) links) ≡ entries_of_children (take i links) ++ entries_of_children (get_or links i d ∷ []) =
    ap (λ k. entries_of_children (take k links)) (add-one i) ∙ (ap entries_of_children (take-suc links i d h) ∙ joined-append (take i links) (get_or links i d ∷ [])) in
    omega (arith, ap length front, length-append (entries_of_children (take i links)) (entries_of_children (get_or links i d ∷ [])), length-append (content (get_or links i d)) [])

-- the first children have no more entries than all of them
pub length-joined-take : (links : List (Option LinkValue)) (i : ℕ) → length (entries_of_children (take i links)) ≤ length (entries_of_children links)
length-joined-take links i =
    omega (arith, ap (λ xs. length (entries_of_children xs)) (take-append-drop i links), ap length (joined-append (take i links) (drop i links)), length-append (entries_of_children (take i links)) (entries_of_children (drop i links)))
