-- The entries in a range of places are those of the children there.
use Rattle.std.specs.Prelude.{◌≡◌, ◌<◌, ◌≤◌, ◌+◌, ℕ, true, false, cond, List, [], ◌∷◌, Bool, Option, Some, None, ◌++◌, zero, suc, take, drop, length}
use Rattle.std.proofs.Common.{arith, refl, ap₂, ◌∙◌, ap, sym, get_or, append-nil, add-one, length-drop}
use Rattle.std.proofs.Math.Seq.{take-suc}
use Rattle.std.proofs.lemmas.Bool.Decides.{nat_tests}
use Rattle.std.proofs.lemmas.List.{drop_more, get_or-drop}
use Rattle.std.proofs.lemmas.List.Elements.{filter-append}
use Rattle.jf_path.specs.Nibbles.{nibble}
use Rattle.jf_hash.specs.Ranges.{lies_in, in_range}
use Rattle.jf_hash.specs.Slots.{Part}
use Rattle.jf_node.specs.Children.{HaveNibble, content, FitsAt, entries_of_children, FitFrom}
use Rattle.jf_node.specs.LinkValue.{LinkValue}
use Rattle.jf_node.proofs.ChildLaws.{joined-append}

-- ---- one child
lies : (start width n : ℕ) → start ≤ n → n < start + width → lies_in start width n ≡ true
lies start width n from below = grind (arith, nat_tests)

lies_before : (start width n : ℕ) → n < start → lies_in start width n ≡ false
lies_before start width n before = grind (arith, nat_tests)

lies_after : (start width n : ℕ) → start + width ≤ n → lies_in start width n ≡ false
lies_after start width n behind = grind (arith, nat_tests)

-- entries with one nibble are all in a range, or all outside it
all_or_none : (depth start width n : ℕ) (es : Part) → HaveNibble depth n es → in_range depth start width es ≡ cond (lies_in start width n) es []
all_or_none depth start width n [] have = elim (lies_in start width n) as (λ b. in_range {X = List ℕ} depth start width [] ≡ cond b [] []) [ true ↦ refl | false ↦ refl ]
all_or_none depth start width n (e ∷ es) have =
    ap₂ (λ m t. cond (lies_in start width m) (e ∷ t) t) have.0 (all_or_none depth start width n es have.1)
    ∙ elim (lies_in start width n) as (λ b. cond b (e ∷ cond b es []) (cond b es []) ≡ cond b (e ∷ es) []) [ true ↦ refl | false ↦ refl ]

child_in : (depth start width n : ℕ) (b : Bool) (x : Option LinkValue) → FitsAt depth n x → lies_in start width n ≡ b → in_range depth start width (content x) ≡ cond b (content x) []
child_in depth start width n true None fit is = refl
child_in depth start width n false None fit is = refl
child_in depth start width n b (Some x) fit is = all_or_none depth start width n x.entries fit.1 ∙ ap (λ c. cond c x.entries []) is

more_in : (depth start width : ℕ) (x : Option LinkValue) (more : List (Option LinkValue)) → in_range depth start width (entries_of_children (x ∷ more)) ≡ in_range depth start width (content x) ++ in_range depth start width (entries_of_children more)
more_in depth start width x more = filter-append (λ e. lies_in start width (nibble e.0 depth)) (content x) (entries_of_children more)

-- ---- all children
none_after : (depth start width n : ℕ) (links : List (Option LinkValue)) → FitFrom depth n links → start + width ≤ n → in_range depth start width (entries_of_children links) ≡ []
none_after depth start width n [] fit behind = refl
none_after depth start width n (x ∷ more) fit behind =
    more_in depth start width x more
    ∙ ap₂ (λ a b. a ++ b) (child_in depth start width n false x fit.0 (lies_after start width n behind)) (none_after depth start width (n + 1) more fit.1 (omega arith))

from_here : (depth start width n k : ℕ) (links : List (Option LinkValue)) → FitFrom depth n links → start ≤ n → n + k ≡ start + width → in_range depth start width (entries_of_children links) ≡ entries_of_children (take k links)
from_here depth start width n zero links fit from end = none_after depth start width n links fit (omega arith)
from_here depth start width n (suc k) [] fit from end = refl
from_here depth start width n (suc k) (x ∷ more) fit from end =
    more_in depth start width x more
    ∙ ap₂ (λ a b. a ++ b) (child_in depth start width n true x fit.0 (lies start width n from (omega arith))) (from_here depth start width (n + 1) k more fit.1 (omega arith) (omega arith))

none_taken : (width : ℕ) → entries_of_children (take width []) ≡ []
none_taken zero = refl
none_taken (suc width) = refl

further_on : (depth start width n k : ℕ) (links : List (Option LinkValue)) → FitFrom depth n links → start ≡ n + k → in_range depth start width (entries_of_children links) ≡ entries_of_children (take width (drop k links))
further_on depth start width n zero links fit is = from_here depth start width n width links fit (omega arith) (omega arith)
further_on depth start width n (suc k) [] fit is = sym (none_taken width)
further_on depth start width n (suc k) (x ∷ more) fit is =
    more_in depth start width x more
    ∙ ap₂ (λ a b. a ++ b) (child_in depth start width n false x fit.0 (lies_before start width n (omega arith))) (further_on depth start width (n + 1) k more fit.1 (omega arith))

-- the entries in a range are those of the children there
pub in_range-joined : (depth start width : ℕ) (links : List (Option LinkValue)) → FitFrom depth 0 links → in_range depth start width (entries_of_children links) ≡ entries_of_children (take width (drop start links))
in_range-joined depth start width links fit = further_on depth start width 0 start links fit (omega arith)

-- the entries in a range of one place are those of the child there
pub one_place : (depth n : ℕ) (links : List (Option LinkValue)) → FitFrom depth 0 links → n < length links → in_range depth n 1 (entries_of_children links) ≡ content (get_or links n None)
one_place depth n links fit small =
    in_range-joined depth n 1 links fit ∙ ap (λ xs. entries_of_children (take 1 xs)) (drop_more links n None small) ∙ append-nil (content (get_or links n None))

-- ---- the children from a place on, one by one
-- one more child
pub joined-more : (links : List (Option LinkValue)) (start i : ℕ) (child : Option LinkValue) → start + i < length links → child ≡ get_or links (start + i) None
    → entries_of_children (take (i + 1) (drop start links)) ≡ entries_of_children (take i (drop start links)) ++ content child
joined-more links start i child small is =
    let front = take i (drop start links) in
    ap (λ k. entries_of_children (take k (drop start links))) (add-one i) ∙ ap entries_of_children (take-suc (drop start links) i None (omega (arith, length-drop start links)))
    ∙ joined-append front (get_or (drop start links) i None ∷ []) ∙ ap (λ r. entries_of_children front ++ r) (append-nil (content (get_or (drop start links) i None)))
    ∙ ap (λ x. entries_of_children front ++ content x) (get_or-drop start links i None ∙ sym is)
