-- The entry at a place, child by child.
use Rattle.std.specs.Prelude.{◌≡◌, ℕ, ◌+◌, ◌<◌, ◌≤◌, List, Option, Some, None, zero, suc, [], ◌∷◌, ◌++◌, take, length, slice_get, is_some, option_map, nat_lt}
use Rattle.std.proofs.Common.{get_or, refl, ap, ◌∙◌, sym, arith, length-append}
use Rattle.std.proofs.lemmas.Bool.Decides.{nat_tests}
use Rattle.std.proofs.lemmas.List.{take_all}
use Rattle.std.proofs.lemmas.Option.{slice_get_past}
use Rattle.jf_hash.specs.Slots.{Part}
use Rattle.jf_node.specs.LinkValue.{LinkValue}
use Rattle.jf_node.specs.Children.{content, entries_of_children}
use Rattle.jf_node.specs.Shown.{ShowsInner}
use Rattle.jf_node.proofs.ChildLaws.{child_depth, length-joined-more}

-- ---- a place in two lists
slice_get-left : {X : Type 0} (xs ys : List X) (i : ℕ) → i < length xs → slice_get (xs ++ ys) i ≡ slice_get xs i
slice_get-left [] ys i small = absurd (omega (arith, small))
slice_get-left (x ∷ xs) ys zero small = refl
slice_get-left (x ∷ xs) ys (suc i) small = slice_get-left xs ys i (omega (arith, small))

slice_get-right : {X : Type 0} (xs ys : List X) (i k : ℕ) → k ≡ length xs + i → slice_get (xs ++ ys) k ≡ slice_get ys i
slice_get-right [] ys i k is = ap (slice_get ys) (let e : k ≡ i = omega (arith, is) in e)
slice_get-right (x ∷ xs) ys i zero is = absurd (omega (arith, is))
slice_get-right (x ∷ xs) ys i (suc k) is = slice_get-right xs ys i k (omega (arith, is))

-- there is an entry at a place exactly if the place is below the number of entries
is_some-slice_get : {X : Type 0} (xs : List X) (i : ℕ) → is_some (slice_get xs i) ≡ nat_lt i (length xs)
is_some-slice_get [] i = grind (arith, nat_tests)
is_some-slice_get (x ∷ xs) zero = grind (arith, nat_tests)
is_some-slice_get (x ∷ xs) (suc i) = is_some-slice_get xs i ∙ (let e : nat_lt i (length xs) ≡ nat_lt (suc i) (length (x ∷ xs)) = grind (arith, nat_tests) in e)

is_some-map : {X Y : Type 0} (f : X → Y) (r : Option X) → is_some (option_map f r) ≡ is_some r
is_some-map f None = refl
is_some-map f (Some x) = refl

pub is_some-at : {X Y : Type 0} (f : X → Y) (r : Option X) (es : List Y) (place n : ℕ) → option_map f r ≡ slice_get es place → n ≡ length es → is_some r ≡ nat_lt place n
is_some-at f r es place n is many = sym (is_some-map f r) ∙ ap is_some is ∙ is_some-slice_get es place ∙ ap (nat_lt place) (sym many)

-- ---- a place in children
-- the entry at a place is that of the child in which the place falls
slice_get-joined : (links : List (Option LinkValue)) (n left place : ℕ) (child : LinkValue) → n < length links → Some child ≡ get_or links n None → length (entries_of_children (take n links)) + left ≡ place → left < length child.entries
    → slice_get child.entries left ≡ slice_get (entries_of_children links) place
slice_get-joined [] n left place child small is at within = absurd (omega (arith, small))
slice_get-joined (x ∷ more) zero left place child small is at within =
    sym (slice_get-left child.entries (entries_of_children more) left within)
    ∙ ap (λ (y : Option LinkValue). slice_get (content y ++ entries_of_children more) left) is
    ∙ ap (slice_get (content x ++ entries_of_children more)) (let e : left ≡ place = omega (arith, at) in e)
slice_get-joined (x ∷ more) (suc n) left place child small is at within =
    let long = length-append (content x) (entries_of_children (take n more)) in
    slice_get-joined more n left (length (entries_of_children (take n more)) + left) child (omega (arith, small)) is refl within
    ∙ sym (slice_get-right (content x) (entries_of_children more) (length (entries_of_children (take n more)) + left) place (omega (arith, long, at)))

-- the same in a node that shows these children
pub slice_get-child : (x : LinkValue) (links : List (Option LinkValue)) (n left place : ℕ) (child : LinkValue) → ShowsInner x links → n < 16 → Some child ≡ get_or links n None → length (entries_of_children (take n links)) + left ≡ place → left < length child.entries
    → slice_get child.entries left ≡ slice_get x.entries place
slice_get-child x links n left place child shows small is at within =
    slice_get-joined links n left place child (omega (arith, shows.children.long, small)) is at within ∙ ap (λ (es : Part). slice_get es place) (sym shows.entries)

-- a place behind all children has no entry
pub slice_get-behind : (x : LinkValue) (links : List (Option LinkValue)) (n left place : ℕ) → ShowsInner x links → 16 ≤ n → length (entries_of_children (take n links)) + left ≡ place → None ≡ slice_get x.entries place
slice_get-behind x links n left place shows past at =
    let all = ap (λ xs. length (entries_of_children xs)) (take_all n links (omega (arith, shows.children.long, past))) in
    sym (slice_get_past x.entries place (omega (arith, all, ap length shows.entries, at)))

-- a child is one nibble deeper
pub child-deeper : (x : LinkValue) (links : List (Option LinkValue)) (n : ℕ) (child : LinkValue) → ShowsInner x links → n < 16 → Some child ≡ get_or links n None → child.depth ≡ x.depth + 1
child-deeper x links n child shows small is = child_depth x.depth n links child shows.children small (sym is)

-- ---- one more child
-- a place that falls behind a child's entries too
pub behind-child : (x : LinkValue) (links : List (Option LinkValue)) (n left rest place : ℕ) (child : LinkValue) → ShowsInner x links → n < 16 → Some child ≡ get_or links n None → length (entries_of_children (take n links)) + left ≡ place → rest + length child.entries ≡ left
    → length (entries_of_children (take (n + 1) links)) + rest ≡ place
behind-child x links n left rest place child shows small is at less =
    omega (arith, length-joined-more links n None (omega (arith, shows.children.long, small)), ap (λ (y : Option LinkValue). length (content y)) is, at, less)

-- where there is no child, no entry is passed
pub behind-none : (x : LinkValue) (links : List (Option LinkValue)) (n left place : ℕ) → ShowsInner x links → n < 16 → None ≡ get_or links n None → length (entries_of_children (take n links)) + left ≡ place → length (entries_of_children (take (n + 1) links)) + left ≡ place
behind-none x links n left place shows small is at =
    omega (arith, length-joined-more links n None (omega (arith, shows.children.long, small)), ap (λ (y : Option LinkValue). length (content y)) is, at)
