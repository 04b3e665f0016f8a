-- The entries and the depth of the child at a nibble, among sixteen children.
use Rattle.std.proofs.Common.{◌≡◌, ℕ, inl, inr, List, length, get_or, sym, ap, ◌∙◌, arith, Option, None, ◌+◌, Some, ◌<◌, subst, zero-add}
use Rattle.std.proofs.lemmas.Bool.{cases_lt}
use Rattle.std.proofs.lemmas.List.{get_or_past}
use Rattle.jf_hash.specs.Slots.{with_nibble}
use Rattle.jf_walk.proofs.PartLaws.{with_nibble-past}
use Rattle.jf_node.specs.LinkValue.{LinkValue}
use Rattle.jf_node.specs.Children.{content, entries_of_children, FitFrom, FitsAt}
use Rattle.jf_node.proofs.ChildLaws.{with_nibble-joined, FitFrom-at}
use Rattle.jf_diff.specs.OptionalNodes.{IsAtDepth}

-- a child has the entries with its nibble
pub child_part : (d n : ℕ) (links : List (Option LinkValue)) → length links ≡ 16 → FitFrom d 0 links → with_nibble d n (entries_of_children links) ≡ content (get_or links n None)
child_part d n links long fit = elim (cases_lt n 16) [
  | inl small ↦ with_nibble-joined d 0 n n links None fit (omega arith) (omega arith)
  | inr past ↦ with_nibble-past d n (entries_of_children links) past ∙ ap content (sym (get_or_past links n None (omega arith)))
]

child_depth : (d n : ℕ) (x : Option LinkValue) → FitsAt d n x → IsAtDepth (d + 1) x
child_depth d n None h = tt
child_depth d n (Some x) h = h.0

pub fits : (d k : ℕ) (links : List (Option LinkValue)) → length links ≡ 16 → FitFrom d 0 links → k < 16 → FitsAt d k (get_or links k None)
fits d k links long fit lt = subst (λ m. FitsAt d m (get_or links k None)) (zero-add k) (FitFrom-at d 0 k links fit (omega arith))

pub child_placed : (d n : ℕ) (links : List (Option LinkValue)) → length links ≡ 16 → FitFrom d 0 links → IsAtDepth (d + 1) (get_or links n None)
child_placed d n links long fit = elim (cases_lt n 16) [
  | inl small ↦ child_depth d n (get_or links n None) (fits d n links long fit small)
  | inr past ↦ subst (IsAtDepth (d + 1)) (sym (get_or_past links n None (omega arith))) tt
]
