-- The new children that several workers build, put in place.
use Rattle.std.proofs.Common.{ℕ, List, ◌≡◌, ◌+◌, ◌-◌, [], ap, ap₂, ◌∙◌, sym, subst, ◌<◌, ◌≤◌, length, length-set, get_or, get_or-set_other, get_or-set_same, arith, T, None, Option, set, take, drop, inl, inr, ◌⊎◌, eq-or-lt_of_le, zero-add}
use Rattle.std.specs.FinMap.{is_sorted}
use Rattle.jf_path.specs.Keys.{key_cmp}
use Rattle.jf_hash.specs.Maps.{Batch}
use Rattle.jf_hash.specs.Slots.{Part, with_nibble}
use Rattle.jf_split.specs.declared.piece.Piece.{Piece}
use Rattle.jf_model.specs.Changes.{entries_after_batch}
use Rattle.jf_model.proofs.ChangeLaws.{applied-none}
use Rattle.jf_walk.proofs.PartChanges.{with_nibble-applied}
use Rattle.jf_node.specs.LinkValue.{LinkValue}
use Rattle.jf_node.specs.Children.{FitFrom, FitsAt}
use Rattle.jf_node.proofs.ChildLaws.{FitFrom-set}
use Rattle.jf_update.specs.Made.{IsBuilt, AreBuilt}
use Rattle.jf_split.specs.Pieces.{ArePieces}
use Rattle.jf_update.specs.Wide.{IsPieceOf, IsPieceBuilt}
use Rattle.jf_update.proofs.PieceCuts.{same_or_not, pieces_whole}
use Rattle.jf_update.proofs.BuildLaws.{fits_part}
use Rattle.jf_update.proofs.RemainderLaws.{get_or-any}
use Rattle.jf_update.proofs.NodeUpdateLaws.{empty_applied}
use Rattle.jf_update.proofs.WideLaws.{place_in}

-- the child at nibble k is built from these entries
abbrev IsBuiltAt : ℕ → ℕ → Part → List (Option LinkValue) → ℕ → Type 0
IsBuiltAt d v es links k = IsBuilt (d + 1) v (with_nibble d k es) (get_or links k None)

-- what was built for the first n pieces is in place; es are the entries before the changes, and now those after them
pub record IsFilling (d v n : ℕ) (es now : Part) (ps : List Piece) (links : List (Option LinkValue)) : Type 0 where
  pub long : length links ≡ 16
  pub fit : FitFrom d 0 links
  pub each : (k : ℕ) → k < 16 → IsBuiltAt d v now links k ⊎ IsBuiltAt d v es links k
  pub done : (i : ℕ) (p : Piece) → i < n → IsBuiltAt d v now links (get_or ps i p).nibble

-- what is built of the changes of a piece, over the entries with its nibble
pub built_piece : (d v : ℕ) (es own : Part) (bs : Batch) (p : Piece) (y : Option LinkValue) → T (is_sorted key_cmp es) → IsPieceOf d bs p → own ≡ with_nibble d p.nibble es → IsBuilt (d + 1) v (entries_after_batch own (take (p.end - p.start) (drop p.start bs))) y → IsPieceBuilt d v (entries_after_batch es bs) p y
built_piece d v es own bs p y sorted piece is made = record { small = piece.small; built = subst (λ fs. IsBuilt (d + 1) v fs y) (ap₂ entries_after_batch is piece.exact ∙ sym (with_nibble-applied d p.nibble es bs sorted)) made }

pub filling_start : (d v : ℕ) (es now : Part) (ps : List Piece) (links : List (Option LinkValue)) → AreBuilt d v (entries_after_batch es []) links → IsFilling d v 0 es now ps links
filling_start d v es now ps links made = record {
  long = made.long;
  fit = made.fit;
  each = λ k lt. inr (subst (λ fs. IsBuiltAt d v fs links k) (applied-none es) (made.each k lt));
  done = λ i p lt. absurd (omega arith);
}

pub filling_more : (d v n : ℕ) (es now : Part) (ps : List Piece) (p : Piece) (y : Option LinkValue) (links more : List (Option LinkValue)) → IsFilling d v n es now ps links → n < length ps → p ≡ get_or ps n p → IsPieceBuilt d v now p y → more ≡ set links p.nibble y
    → IsFilling d v (n + 1) es now ps more
filling_more d v n es now ps p y links more h lt at out is =
    let m = p.nibble in
    let small = out.small in
    let in_links : m < length links = omega (arith, h.long, small) in
    let found : get_or more m None ≡ y = ap (λ ls. get_or ls m None) is ∙ get_or-set_same links m y None in_links in
    let here : IsBuiltAt d v now more m = subst (λ z. IsBuilt (d + 1) v (with_nibble d m now) z) (sym found) out.built in
    let there : (k : ℕ) → ¬ (k ≡ m) → get_or more k None ≡ get_or links k None = λ k other. ap (λ ls. get_or ls k None) is ∙ get_or-set_other links m k y None other in
    let moved : (fs : Part) (k : ℕ) → ¬ (k ≡ m) → IsBuiltAt d v fs links k → IsBuiltAt d v fs more k = λ fs k other. subst (λ z. IsBuilt (d + 1) v (with_nibble d k fs) z) (sym (there k other)) in
    record {
      long = ap length is ∙ length-set links m y ∙ h.long;
      fit = subst (FitFrom d 0) (sym is) (FitFrom-set d 0 m links y h.fit (subst (λ k. FitsAt d k y) (sym (zero-add m)) (fits_part d m now y out.built.entries out.built.placed)));
      each = λ k below. elim (same_or_not k m) [
        | inl same ↦ inl (subst (IsBuiltAt d v now more) (sym same) here)
        | inr other ↦ elim (h.each k below) [ inl new ↦ inl (moved now k other new) | inr old ↦ inr (moved es k other old) ]
      ];
      done = λ i q below. let le : i ≤ n = omega arith in elim (eq-or-lt_of_le le) [
        | inl last ↦ subst (λ (x : Piece). IsBuiltAt d v now more x.nibble) (at ∙ get_or-any ps n p q lt ∙ ap (λ j. get_or ps j q) (sym last)) here
        | inr before ↦ elim (same_or_not (get_or ps i q).nibble m) [
          | inl same ↦ subst (IsBuiltAt d v now more) (sym same) here
          | inr other ↦ moved now (get_or ps i q).nibble other (h.done i q before)
        ]
      ];
    }

-- once all are in place, all children are built
pub filling_done : (d v : ℕ) (es : Part) (bs : Batch) (ps : List Piece) (links : List (Option LinkValue)) → T (is_sorted key_cmp es) → ArePieces d bs ps → IsFilling d v (length ps) es (entries_after_batch es bs) ps links → AreBuilt d v (entries_after_batch es bs) links
filling_done d v es bs ps links sorted pieces h = record { long = h.long; fit = h.fit; each = all }
  where
    all : (k : ℕ) → k < 16 → IsBuiltAt d v (entries_after_batch es bs) links k
    all k lt = elim (pieces_whole d k bs ps pieces) [
      | inl has ↦ let x = place_in k ps (record { nibble = 0; start = 0; end = 0 }) has in subst (IsBuiltAt d v (entries_after_batch es bs) links) x.2 (h.done x.0 (record { nibble = 0; start = 0; end = 0 }) x.1)
      | inr none ↦ elim (h.each k lt) [
        | inl new ↦ new
        | inr old ↦
            subst (λ fs. IsBuilt (d + 1) v fs (get_or links k None)) (sym (with_nibble-applied d k es bs sorted ∙ empty_applied (with_nibble d k es) (with_nibble d k bs) (ap length none))) old
      ]
    ]
