-- What a range of places holds is determined by how many children and how many leaves stand in it.
use Rattle.std.specs.Prelude.{◌≡◌, ℕ, zero, suc, ◌==◌, nat_lt, ◌<◌, ◌≤◌, ◌⊎◌, Bool, List, [], ◌∷◌, map, take, drop}
use Rattle.std.specs.List.{count_by}
use Rattle.std.proofs.Common.{arith, refl, ap, ◌∙◌, sym, inl, inr}
use Rattle.std.proofs.lemmas.Bool.Decides.{nat_tests}
use Rattle.std.proofs.lemmas.List.{take-map, drop-map}
use Rattle.jf_path.proofs.BitmapLaws.{count_by-set, count_by-clear}
use Rattle.jf_hash.specs.Hashes.{E}
use Rattle.jf_hash.specs.Slots.{Occupants, Empty, Lone, Many, with_leaf, occupants, is_occupied, holds_leaf, first_child_hash}
use Rattle.jf_hash.specs.Ranges.{is_many}
use Rattle.jf_hash.specs.declared.slot.Slot.{Slot}
use Rattle.jf_hash.specs.declared.slot.Slot.TheVariants as slot

-- the occupants of a range with so many children, of which so many are leaves
abbrev pub AreCounts : Occupants → ℕ → ℕ → Type 0
AreCounts Empty children leaves = children ≡ 0
AreCounts (Lone hash) children leaves = (children ≡ 1) × (leaves ≡ 1)
AreCounts Many children leaves = (1 < children) ⊎ ((children ≡ 1) × (leaves ≡ 0))

count : (Slot → Bool) → List Slot → ℕ
count test slots = count_by (λ bit. bit) (map test slots)

leaves-le : (slots : List Slot) → count holds_leaf slots ≤ count is_occupied slots
unfolding count
leaves-le [] = omega arith
leaves-le (slot.Absent ∷ slots) = omega (arith, leaves-le slots, count_by-clear (map holds_leaf slots), count_by-clear (map is_occupied slots))
leaves-le (slot.Leaf hash ∷ slots) = omega (arith, leaves-le slots, count_by-set (map holds_leaf slots), count_by-set (map is_occupied slots))
leaves-le (slot.Inner hash ∷ slots) = omega (arith, leaves-le slots, count_by-clear (map holds_leaf slots), count_by-set (map is_occupied slots))

counts_at : (o : Occupants) (t u l m : ℕ) → t ≡ u → l ≡ m → AreCounts o u m → AreCounts o t l
counts_at Empty t u l m a b h = a ∙ h
counts_at (Lone hash) t u l m a b h = (a ∙ h.0, b ∙ h.1)
counts_at Many t u l m a b h = elim h [ inl many ↦ inl (omega arith) | inr one ↦ inr (a ∙ one.0, b ∙ one.1) ]

one_leaf_more : (o : Occupants) (hash : List ℕ) (t u l m : ℕ) → t ≡ suc u → l ≡ suc m → m ≤ u → AreCounts o u m → AreCounts (with_leaf hash o) t l
one_leaf_more Empty hash t u l m a b le h = (omega arith, omega arith)
one_leaf_more (Lone other) hash t u l m a b le h = inl (omega (arith, h.0))
one_leaf_more Many hash t u l m a b le h = elim h [ inl many ↦ inl (omega arith) | inr one ↦ inl (omega (arith, one.0)) ]

one_node_more : (t u l : ℕ) → t ≡ suc u → l ≤ u → AreCounts Many t l
one_node_more t zero l a le = inr (omega arith, omega arith)
one_node_more t (suc u) l a le = inl (omega arith)

are_counts : (slots : List Slot) → AreCounts (occupants slots) (count is_occupied slots) (count holds_leaf slots)
unfolding count
are_counts [] = refl
are_counts (slot.Absent ∷ slots) = counts_at (occupants slots) _ _ _ _ (count_by-clear (map is_occupied slots)) (count_by-clear (map holds_leaf slots)) (are_counts slots)
are_counts (slot.Leaf hash ∷ slots) = one_leaf_more (occupants slots) hash _ _ _ _ (count_by-set (map is_occupied slots)) (count_by-set (map holds_leaf slots)) (leaves-le slots) (are_counts slots)
are_counts (slot.Inner hash ∷ slots) = one_node_more _ _ _ (count_by-set (map is_occupied slots)) (omega (arith, leaves-le slots, count_by-clear (map holds_leaf slots)))

-- the counts in a range, by the bits of two maps
pub counts_in : (start width t l : ℕ) (children leaves : List Bool) (slots : List Slot) → children ≡ map is_occupied slots → leaves ≡ map holds_leaf slots
    → t ≡ count_by (λ bit. bit) (take width (drop start children)) → l ≡ count_by (λ bit. bit) (take width (drop start leaves)) → AreCounts (occupants (take width (drop start slots))) t l
unfolding count
counts_in start width t l children leaves slots a b is_t is_l =
    counts_at (occupants (take width (drop start slots))) _ _ _ _ (is_t ∙ counted is_occupied children a) (is_l ∙ counted holds_leaf leaves b) (are_counts (take width (drop start slots)))
  where
    counted : (test : Slot → Bool) (bits : List Bool) → bits ≡ map test slots → count_by (λ bit. bit) (take width (drop start bits)) ≡ count test (take width (drop start slots))
    counted test bits are =
        ap (λ bits. count_by (λ bit. bit) (take width (drop start bits))) are
        ∙ ap (λ bits. count_by (λ bit. bit) (take width bits)) (drop-map test start slots) ∙ ap (count_by (λ bit. bit)) (take-map test width (drop start slots))

pub many_children : (o : Occupants) (t l : ℕ) → AreCounts o t l → 1 < t → nat_lt 1 t ≡ is_many o
many_children Empty t l h some = absurd (omega (arith, h))
many_children (Lone hash) t l h some = absurd (omega (arith, h.0))
many_children Many t l h some = grind (arith, nat_tests)

pub one_child : (o : Occupants) (t l : ℕ) → AreCounts o t l → t ≡ 1 → (l == 0) ≡ is_many o
one_child Empty t l h some = absurd (omega (arith, h))
one_child (Lone hash) t l h some = ap (λ n. n == 0) h.1
one_child Many t l h some = elim h [ inl many ↦ absurd (omega arith) | inr one ↦ ap (λ n. n == 0) one.1 ]

pub no_child : (o : Occupants) (t l : ℕ) → AreCounts o t l → t ≤ 1 → ¬ (t ≡ 1) → (t == 1) ≡ is_many o
no_child Empty t l h few other = ap (λ n. n == 1) h
no_child (Lone hash) t l h few other = absurd (other h.0)
no_child Many t l h few other = elim h [ inl many ↦ absurd (omega arith) | inr one ↦ absurd (other one.0) ]

-- ---- the first child of a range
none_first : (slots : List Slot) → count is_occupied slots ≡ 0 → E ≡ first_child_hash slots
unfolding count
none_first [] none = refl
none_first (slot.Absent ∷ slots) none = none_first slots (sym (count_by-clear (map is_occupied slots)) ∙ none)
none_first (slot.Leaf hash ∷ slots) none = absurd (omega (arith, none, count_by-set (map is_occupied slots)))
none_first (slot.Inner hash ∷ slots) none = absurd (omega (arith, none, count_by-set (map is_occupied slots)))

first-take : (width : ℕ) (slots : List Slot) → ¬ (count is_occupied (take width slots) ≡ 0) → first_child_hash slots ≡ first_child_hash (take width slots)
unfolding count
first-take zero slots some = absurd (some refl)
first-take (suc width) [] some = refl
first-take (suc width) (slot.Absent ∷ slots) some = first-take width slots (λ none. some (count_by-clear (map is_occupied (take width slots)) ∙ none))
first-take (suc width) (slot.Leaf hash ∷ slots) some = refl
first-take (suc width) (slot.Inner hash ∷ slots) some = refl

-- the number of children in a range, by the bits
children_in : (start width : ℕ) (children : List Bool) (slots : List Slot) → children ≡ map is_occupied slots → count_by (λ bit. bit) (take width (drop start children)) ≡ count is_occupied (take width (drop start slots))
unfolding count
children_in start width children slots are =
    ap (λ bits. count_by (λ bit. bit) (take width (drop start bits))) are
    ∙ ap (λ bits. count_by (λ bit. bit) (take width bits)) (drop-map is_occupied start slots) ∙ ap (count_by (λ bit. bit)) (take-map is_occupied width (drop start slots))

-- a range without a bit has no child
pub first_child_hash-none : (start width : ℕ) (children : List Bool) (slots : List Slot) → children ≡ map is_occupied slots → count_by (λ bit. bit) (take width (drop start children)) ≡ 0 → E ≡ first_child_hash (take width (drop start slots))
first_child_hash-none start width children slots are none = none_first (take width (drop start slots)) (sym (children_in start width children slots are) ∙ none)

-- the first child from the start of a range on is that of the range, if it has one
pub first_child_hash-take : (start width : ℕ) (children : List Bool) (slots : List Slot) → children ≡ map is_occupied slots → ¬ (count_by (λ bit. bit) (take width (drop start children)) ≡ 0) → first_child_hash (drop start slots) ≡ first_child_hash (take width (drop start slots))
first_child_hash-take start width children slots are some = first-take width (drop start slots) (λ none. some (children_in start width children slots are ∙ none))
