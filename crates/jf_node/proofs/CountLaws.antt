-- The number of entries of children: of links one by one, and with one child in the place of another.
use Rattle.std.specs.Prelude.{◌≡◌, ◌<◌, ◌≤◌, ◌+◌, ℕ, zero, suc, Bool, false, List, [], ◌∷◌, Option, Some, None, length, map, take, drop}
use Rattle.std.proofs.Common.{arith, sym, ap, ◌∙◌, get_or, add-one, length-append}
use Rattle.std.proofs.lemmas.List.{drop_more}
use Rattle.jf_node.specs.Children.{content, entries_of_children, FitFrom, SameElsewhere}
use Rattle.jf_node.specs.LinkValue.{LinkValue}
use Rattle.jf_node.specs.Shown.{ShowsInner}
use Rattle.jf_node.proofs.ChildLaws.{with_nibble-joined}
use Rattle.jf_node.proofs.ShownLaws.{with_nibble-seen}

-- ---- links one by one
next_link : (links : List LinkValue) (i : ℕ) (d : LinkValue) → i < length links → length (entries_of_children (map Some (take (suc i) links))) ≡ length (entries_of_children (map Some (take i links))) + length (get_or links i d).entries
next_link [] i d small = absurd (omega (arith, small))
next_link (x ∷ links) zero d small = omega (arith, length-append x.entries [])
next_link (x ∷ links) (suc i) d small =
    omega (arith, next_link links i d (omega (arith, small)), length-append x.entries (entries_of_children (map Some (take (suc i) links))), length-append x.entries (entries_of_children (map Some (take i links))))

-- one more link adds its number of entries
pub length-links-more : (links : List LinkValue) (i : ℕ) (d : LinkValue) → i < length links → length (entries_of_children (map Some (take (i + 1) links))) ≡ length (entries_of_children (map Some (take i links))) + length (get_or links i d).entries
length-links-more links i d small = ap (λ k. length (entries_of_children (map Some (take k links)))) (add-one i) ∙ next_link links i d small

-- the first links have no more entries than all of them
pub length-links-take : (links : List LinkValue) (i : ℕ) → length (entries_of_children (map Some (take i links))) ≤ length (entries_of_children (map Some links))
length-links-take links zero = omega arith
length-links-take [] (suc i) = omega arith
length-links-take (x ∷ links) (suc i) = omega (arith, length-links-take links i, length-append x.entries (entries_of_children (map Some (take i links))), length-append x.entries (entries_of_children (map Some links)))

-- ---- one child in the place of another
-- the entries from a place on are those of the child there and of those after it
pub length-from : (links : List (Option LinkValue)) (i : ℕ) → i < length links → length (entries_of_children (drop i links)) ≡ length (content (get_or links i None)) + length (entries_of_children (drop (i + 1) links))
length-from links i small = ap (λ xs. length (entries_of_children xs)) (drop_more links i None small) ∙ length-append (content (get_or links i None)) (entries_of_children (drop (i + 1) links))

-- a child that didn't change has the same entries as before
pub same_child : (x : LinkValue) (old new : List (Option LinkValue)) (changed : List Bool) (n : ℕ) → ShowsInner x old → FitFrom x.depth 0 new → length new ≡ 16 → SameElsewhere changed x.depth x.entries (entries_of_children new) → n < 16 → get_or changed n false ≡ false
    → content (get_or old n None) ≡ content (get_or new n None)
same_child x old new changed n shows fit long same small off =
    sym (with_nibble-seen x old n shows) ∙ same n small off ∙ with_nibble-joined x.depth 0 n n new None fit (omega (arith, long, small)) (omega arith)
