-- Joining the contents of the sixteen children of a node.
use Rattle.std.proofs.Common.{◌≡◌, ℕ, suc, ◌+◌, ◌<◌, List, [], ◌∷◌, ◌++◌, length, get_or, sym, ap, ap₂, ◌∙◌, arith, zero-add, zero, drop, refl}
use Rattle.std.specs.List.{flat_map}
use Rattle.jf_hash.specs.Slots.{Part, with_nibble, from_nibble}
use Rattle.jf_hash.specs.Maps.{Batch}
use Rattle.jf_model.specs.Parts.{IsPartUnder}
use Rattle.jf_model.specs.Changes.{entries_after_batch}
use Rattle.jf_walk.proofs.PartLaws.{from_nibble-split, from_nibble-past, from_nibble-zero}
use Rattle.jf_walk.proofs.PartChanges.{IsPartUnder-applied, with_nibble-applied}

module _ {L : Type 0} (content : L → Part) (none : L) where
  joined-from : (d n : ℕ) (path : ℕ → ℕ) (es : Part) (links : List L) → IsPartUnder d path es → n + length links ≡ 16 → ((k : ℕ) → k < length links → content (get_or links k none) ≡ with_nibble d (n + k) es) → flat_map content links ≡ from_nibble d n es
  joined-from d n path es [] part long h = sym (from_nibble-past d n es (omega arith))
  joined-from d n path es (x ∷ links) part long h =
      let e : n + 0 ≡ n = omega arith in
      ap₂ (λ a b. a ++ b)
      (h 0 (omega arith) ∙ ap (λ k. with_nibble d k es) e)
      (joined-from d (n + 1) path es links part (omega arith) (λ k lt. h (suc k) (omega arith) ∙ ap (λ m. with_nibble d m es) (let e : n + suc k ≡ (n + 1) + k = omega arith in e)))
      ∙ sym (from_nibble-split d n path es part)

  -- if the child at each nibble has the part of that nibble, together they have the whole part
  pub joined_parts : (d : ℕ) (path : ℕ → ℕ) (es : Part) (links : List L) → IsPartUnder d path es → length links ≡ 16 → ((k : ℕ) → k < 16 → content (get_or links k none) ≡ with_nibble d k es) → flat_map content links ≡ es
  joined_parts d path es links part long h =
      joined-from d 0 path es links part (omega arith) (λ k lt. h k (omega arith) ∙ ap (λ m. with_nibble d m es) (sym (zero-add k))) ∙ from_nibble-zero d es

  -- if the first n places have no content, the union begins with the content of place n
  pub joined-first : (links : List L) (n : ℕ) → n < length links → ((k : ℕ) → k < n → content (get_or links k none) ≡ []) → flat_map content links ≡ content (get_or links n none) ++ flat_map content (drop (suc n) links)
  joined-first [] n short before = absurd (omega arith)
  joined-first (x ∷ links) zero short before = refl
  joined-first (x ∷ links) (suc n) short before =
      ap (λ es. es ++ flat_map content links) (before 0 (omega arith)) ∙ joined-first links n (omega arith) (λ k lt. before (suc k) (omega arith))

  -- if no place has content, the union is empty
  pub joined-none : (links : List L) → ((k : ℕ) → k < length links → content (get_or links k none) ≡ []) → flat_map content links ≡ []
  joined-none [] all = refl
  joined-none (x ∷ links) all = ap (λ es. es ++ flat_map content links) (all 0 (omega arith)) ∙ joined-none links (λ k lt. all (suc k) (omega arith))

  -- if two lists have the same content at each place, their unions are the same
  pub joined-same : (xs ys : List L) → length xs ≡ length ys → ((k : ℕ) → k < length xs → content (get_or xs k none) ≡ content (get_or ys k none)) → flat_map content xs ≡ flat_map content ys
  joined-same [] [] e h = refl
  joined-same [] (y ∷ ys) e h = absurd (omega arith)
  joined-same (x ∷ xs) [] e h = absurd (omega arith)
  joined-same (x ∷ xs) (y ∷ ys) e h = ap₂ (λ a b. a ++ b) (h 0 (omega arith)) (joined-same xs ys (omega arith) (λ k lt. h (suc k) (omega arith)))

  -- if each child has the part of its nibble after the batch's changes there, together they have the whole part after the batch
  pub joined-applied : (d : ℕ) (path : ℕ → ℕ) (es : Part) (bs : Batch) (links : List L) → IsPartUnder d path es → IsPartUnder d path bs → length links ≡ 16
      → ((k : ℕ) → k < 16 → content (get_or links k none) ≡ entries_after_batch (with_nibble d k es) (with_nibble d k bs)) → flat_map content links ≡ entries_after_batch es bs
  joined-applied d path es bs links part batch long each =
      joined_parts d path (entries_after_batch es bs) links (IsPartUnder-applied d path es bs part batch) long (λ k lt. each k lt ∙ sym (with_nibble-applied d k es bs part.sorted))
