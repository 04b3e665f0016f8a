-- Which hashes a node keeps of its ranges: those of the ranges with more than one entry.
use Rattle.std.specs.Prelude.{◌≡◌, ◌*◌, ◌≤◌, ℕ, zero, suc, true, cond, List, [], ◌∷◌, ◌++◌, Option, Some, None, length, map, take, drop}
use Rattle.std.proofs.Common.{arith, refl, sym, ap, ◌∙◌, get_or}
use Rattle.std.proofs.lemmas.List.{length-map, take-map, drop-map}
use Rattle.jf_hash.specs.Slots.{Part, Occupants, Empty, Lone, Many, occupants, range_hash, with_leaf, slot_of, slots_of}
use Rattle.jf_hash.specs.Ranges.{is_many, kept_hash, in_range}
use Rattle.jf_hash.specs.declared.slot.Slot.{Slot}
use Rattle.jf_hash.specs.declared.slot.Slot.TheVariants.{Absent}
use Rattle.jf_node.specs.Children.{entries_of_children, child_slot, AreChildren}
use Rattle.jf_node.specs.LinkValue.{LinkValue}
use Rattle.jf_node.specs.Shown.{ShowsInner}
use Rattle.jf_node.proofs.InRanges.{in_range-joined}
use Rattle.jf_node.proofs.PlaceLaws.{slots_joined}

-- ---- places with entries
leaf_there : (hash : List ℕ) (o : Occupants) → ¬ (with_leaf hash o ≡ Empty)
leaf_there hash Empty is = absurd (cc)
leaf_there hash (Lone other) is = absurd (cc)
leaf_there hash Many is = absurd (cc)

leaf_more : (hash : List ℕ) (o : Occupants) → ¬ (o ≡ Empty) → is_many (with_leaf hash o) ≡ true
leaf_more hash Empty some = absurd (some refl)
leaf_more hash (Lone other) some = refl
leaf_more hash Many some = refl

place_there : (d : ℕ) (es fs : Part) (rest : List Slot) → (1 ≤ length fs → ¬ (occupants rest ≡ Empty)) → 1 ≤ length (es ++ fs) → ¬ (occupants (slot_of d es ∷ rest) ≡ Empty)
place_there d [] fs rest h some = h some
place_there d (e ∷ []) fs rest h some = leaf_there _ (occupants rest)
place_there d (e ∷ f ∷ es) fs rest h some = λ is. absurd (cc)

place_more : (d : ℕ) (es fs : Part) (rest : List Slot) → (1 ≤ length fs → ¬ (occupants rest ≡ Empty)) → (2 ≤ length fs → is_many (occupants rest) ≡ true) → 2 ≤ length (es ++ fs) → is_many (occupants (slot_of d es ∷ rest)) ≡ true
place_more d [] fs rest h k two = k two
place_more d (e ∷ []) fs rest h k two = leaf_more _ (occupants rest) (h (omega (arith, two)))
place_more d (e ∷ f ∷ es) fs rest h k two = refl

there : (links : List (Option LinkValue)) → 1 ≤ length (entries_of_children links) → ¬ (occupants (map child_slot links) ≡ Empty)
there [] some = absurd (omega (arith, some))
there (None ∷ links) some = there links some
there (Some x ∷ links) some = place_there (4 * x.depth) x.entries (entries_of_children links) (map child_slot links) (there links) some

-- children with two entries or more are more than one leaf
more : (links : List (Option LinkValue)) → 2 ≤ length (entries_of_children links) → is_many (occupants (map child_slot links)) ≡ true
more [] two = absurd (omega (arith, two))
more (None ∷ links) two = more links two
more (Some x ∷ links) two = place_more (4 * x.depth) x.entries (entries_of_children links) (map child_slot links) (there links) (more links) two

-- ---- the places of a node
slot_at : (links : List (Option LinkValue)) (k : ℕ) → get_or (map child_slot links) k Absent ≡ child_slot (get_or links k None)
slot_at [] k = refl
slot_at (x ∷ links) zero = refl
slot_at (x ∷ links) (suc k) = slot_at links k

places_are : (depth : ℕ) (links : List (Option LinkValue)) → AreChildren depth links → map child_slot links ≡ slots_of depth (entries_of_children links)
places_are depth links children = slots_joined depth links (map child_slot links) children (length-map links child_slot ∙ children.long) (λ k small. slot_at links k)

-- a range of a node with two entries or more has a hash that is kept
pub kept_there : (x : LinkValue) (links : List (Option LinkValue)) (start width level : ℕ) → ShowsInner x links → 2 ≤ length (in_range x.depth start width x.entries) → ¬ (None ≡ kept_hash level (take width (drop start (slots_of x.depth x.entries))))
kept_there x links start width level shows two is =
    let places = take width (drop start links) in
    let same : in_range x.depth start width x.entries ≡ entries_of_children places = ap (in_range x.depth start width) shows.entries ∙ in_range-joined x.depth start width links shows.children.fit in
    let slots : take width (drop start (slots_of x.depth x.entries)) ≡ map child_slot places =
    ap (λ es. take width (drop start (slots_of x.depth es))) shows.entries ∙ ap (λ ss. take width (drop start ss)) (sym (places_are x.depth links shows.children))
    ∙ ap (take width) (drop-map child_slot start links) ∙ take-map child_slot width (drop start links) in
    let many : is_many (occupants (take width (drop start (slots_of x.depth x.entries)))) ≡ true = ap (λ ss. is_many (occupants ss)) slots ∙ more places (omega (arith, two, ap length same)) in
    absurd (none_some (range_hash level (take width (drop start (slots_of x.depth x.entries)))) (is ∙ ap (λ b. cond b (Some (range_hash level (take width (drop start (slots_of x.depth x.entries))))) None) many))
  where
    none_some : (hash : List ℕ) → ¬ (None ≡ Some hash)
    none_some hash e = absurd (cc)
