-- What stands at the places of a node, from its bitmaps and its links.
use Rattle.std.specs.Prelude.{◌≡◌, ◌<◌, ◌≤◌, ◌*◌, ◌==◌, ℕ, zero, suc, Bool, true, false, List, [], ◌∷◌, length, map, take, drop}
use Rattle.std.specs.List.{AllByRecursion}
use Rattle.std.proofs.Common.{arith, refl, sym, ap, ap₂, ◌∙◌, get_or}
use Rattle.std.proofs.lemmas.List.{drop-map}
use Rattle.std.proofs.lemmas.Bool.Decides.{nat_tests}
use Rattle.jf_path.specs.Bitmaps.{spread_items}
use Rattle.jf_path.proofs.BitmapLaws.{count_by-clear, count_by-set}
use Rattle.jf_hash.specs.Hashes.{E}
use Rattle.jf_hash.specs.Roots.{part_root}
use Rattle.jf_hash.specs.Slots.{Part, slot_of, is_occupied, holds_leaf, first_child_hash}
use Rattle.jf_hash.specs.declared.slot.Slot.{Slot}
use Rattle.jf_node.specs.BranchFacts.{AreBranches, is_leaf_child}
use Rattle.jf_node.specs.Children.{child_slot}
use Rattle.jf_node.specs.LinkFacts.{IsLink}
use Rattle.jf_node.specs.LinkValue.{LinkValue}
use Rattle.jf_node.proofs.BranchLaws.{count, spread-drop, count-parts, length-dropped}

-- ---- one link
occupied_link : (d : ℕ) (es : Part) → 1 ≤ length es → true ≡ is_occupied (slot_of d es)
occupied_link d [] some = absurd (omega (arith, some))
occupied_link d (e ∷ []) some = refl
occupied_link d (e ∷ f ∷ es) some = refl

leaf_link : (d : ℕ) (es : Part) → 1 ≤ length es → (length es == 1) ≡ holds_leaf (slot_of d es)
leaf_link d [] some = absurd (omega (arith, some))
leaf_link d (e ∷ []) some = refl
leaf_link d (e ∷ f ∷ es) some = grind (arith, nat_tests)

first_link : (d : ℕ) (es : Part) (slots : List Slot) → 1 ≤ length es → part_root d es ≡ first_child_hash (slot_of d es ∷ slots)
first_link d [] slots some = absurd (omega (arith, some))
first_link d (e ∷ []) slots some = refl
first_link d (e ∷ f ∷ es) slots some = refl

-- ---- the bits say what stands at each place
slots-there : (bits : List Bool) (xs : List LinkValue) → count bits ≡ length xs → AllByRecursion IsLink xs → bits ≡ map is_occupied (map child_slot (spread_items bits xs))
unfolding spread_items
slots-there [] xs many all = refl
slots-there (false ∷ bits) xs many all = ap (λ r. false ∷ r) (slots-there bits xs (sym (count_by-clear bits) ∙ many) all)
slots-there (true ∷ bits) [] many all = absurd (omega (arith, many, count_by-set bits))
slots-there (true ∷ bits) (x ∷ xs) many all =
    ap₂ (λ b r. b ∷ r) (occupied_link (4 * x.depth) x.entries all.0.entries.some) (slots-there bits xs (omega (arith, many, count_by-set bits)) all.1)

slots-leaves : (bits : List Bool) (xs : List LinkValue) → AllByRecursion IsLink xs → map is_leaf_child (spread_items bits xs) ≡ map holds_leaf (map child_slot (spread_items bits xs))
unfolding spread_items
slots-leaves [] xs all = refl
slots-leaves (false ∷ bits) xs all = ap (λ r. false ∷ r) (slots-leaves bits xs all)
slots-leaves (true ∷ bits) [] all = ap (λ r. false ∷ r) (slots-leaves bits [] all)
slots-leaves (true ∷ bits) (x ∷ xs) all = ap₂ (λ b r. b ∷ r) (leaf_link (4 * x.depth) x.entries all.0.entries.some) (slots-leaves bits xs all.1)

pub children_there : (there leaves : List Bool) (links : List LinkValue) → AreBranches there leaves links → there ≡ map is_occupied (map child_slot (spread_items there links))
children_there there leaves links h = slots-there there links h.many h.each

pub leaves_there : (there leaves : List Bool) (links : List LinkValue) → AreBranches there leaves links → leaves ≡ map holds_leaf (map child_slot (spread_items there links))
leaves_there there leaves links h = h.lone ∙ slots-leaves there links h.each

-- ---- the first child
-- the hash of the first link, or that of no entry
first_of : List LinkValue → List ℕ
first_of [] = E
first_of (x ∷ xs) = part_root (4 * x.depth) x.entries

first-spread : (bits : List Bool) (xs : List LinkValue) → count bits ≡ length xs → AllByRecursion IsLink xs → first_of xs ≡ first_child_hash (map child_slot (spread_items bits xs))
unfolding spread_items first_of
first-spread [] [] many all = refl
first-spread [] (x ∷ xs) many all = absurd (omega (arith, many))
first-spread (false ∷ bits) xs many all = first-spread bits xs (sym (count_by-clear bits) ∙ many) all
first-spread (true ∷ bits) [] many all = absurd (omega (arith, many, count_by-set bits))
first-spread (true ∷ bits) (x ∷ xs) many all = first_link (4 * x.depth) x.entries (map child_slot (spread_items bits xs)) all.0.entries.some

all-drop : (n : ℕ) (xs : List LinkValue) → AllByRecursion IsLink xs → AllByRecursion IsLink (drop n xs)
all-drop zero xs all = all
all-drop (suc n) [] all = tt
all-drop (suc n) (x ∷ xs) all = all-drop n xs all.1

first_from : (there leaves : List Bool) (links : List LinkValue) (start : ℕ) → AreBranches there leaves links → first_of (drop (count (take start there)) links) ≡ first_child_hash (drop start (map child_slot (spread_items there links)))
first_from there leaves links start h =
    let before = count (take start there) in
    first-spread (drop start there) (drop before links) (omega (arith, count-parts there start, h.many, length-dropped before links (omega (arith, count-parts there start, h.many)))) (all-drop before links h.each)
    ∙ ap (λ xs. first_child_hash (map child_slot xs)) (sym (spread-drop there links start))
    ∙ ap first_child_hash (sym (drop-map child_slot start (spread_items there links)))

none_from : (n : ℕ) (links : List LinkValue) → length links ≤ n → E ≡ first_of (drop n links)
unfolding first_of
none_from zero [] past = refl
none_from (suc n) [] past = refl
none_from zero (x ∷ links) past = absurd (omega (arith, past))
none_from (suc n) (x ∷ links) past = none_from n links (omega (arith, past))

some_from : (n : ℕ) (links : List LinkValue) (x d : LinkValue) → n < length links → x ≡ get_or links n d → part_root (4 * x.depth) x.entries ≡ first_of (drop n links)
unfolding first_of
some_from zero [] x d small is = absurd (omega (arith, small))
some_from (suc n) [] x d small is = absurd (omega (arith, small))
some_from zero (y ∷ links) x d small is = ap (λ (y : LinkValue). part_root (4 * y.depth) y.entries) is
some_from (suc n) (y ∷ links) x d small is = some_from n links x d (omega (arith, small)) is

-- no child from a place on
pub first-none : (there leaves : List Bool) (links : List LinkValue) (start n : ℕ) → AreBranches there leaves links → n ≡ count (take start there) → length links ≤ n → E ≡ first_child_hash (drop start (map child_slot (spread_items there links)))
first-none there leaves links start n h is past = none_from n links past ∙ ap (λ k. first_of (drop k links)) is ∙ first_from there leaves links start h

-- the first child from a place on
pub first-some : (there leaves : List Bool) (links : List LinkValue) (start n : ℕ) (x d : LinkValue) → AreBranches there leaves links → n ≡ count (take start there) → n < length links → x ≡ get_or links n d
    → part_root (4 * x.depth) x.entries ≡ first_child_hash (drop start (map child_slot (spread_items there links)))
first-some there leaves links start n x d h is small at = some_from n links x d small at ∙ ap (λ k. first_of (drop k links)) is ∙ first_from there leaves links start h
