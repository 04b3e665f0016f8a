-- The outcomes of pieces of changes, put in place.
use Rattle.std.proofs.Common.{ℕ, List, ◌≡◌, ◌+◌, [], ◌∷◌, refl, ap, ◌∙◌, sym, subst, zero, suc, ◌<◌, ◌≤◌, length, length-drop, length-set, get_or, get_or-set_other, get_or-set_same, arith, Bool, true, false, true≢false, ◌==◌, None, Option, drop, replicate, inl, inr, ◌⊎◌, eq-or-lt_of_le, zero-add, add-one}
use Rattle.std.proofs.lemmas.List.{get_or_past}
use Rattle.std.specs.List.{AllZip, remove}
use Rattle.jf_path.specs.Nibbles.{nibble}
use Rattle.jf_path.proofs.FilterLaws.{All-filter}
use Rattle.jf_hash.specs.Maps.{Batch}
use Rattle.jf_hash.specs.Slots.{Part, with_nibble}
use Rattle.jf_split.specs.declared.piece.Piece.{Piece}
use Rattle.jf_model.specs.Parts.{IsPartUnder}
use Rattle.jf_model.specs.Changes.{entries_after_batch}
use Rattle.jf_walk.proofs.PartLaws.{from_nibble-past, stepped, IsPartUnder-with_nibble}
use Rattle.jf_walk.proofs.PartChanges.{with_nibble-applied}
use Rattle.jf_walk.proofs.VersionLaws.{same_versioned}
use Rattle.jf_node.specs.LinkValue.{LinkValue, link_version_at}
use Rattle.jf_node.specs.Children.{content, entries_of_children, FitFrom, FitsAt}
use Rattle.jf_node.proofs.ChildLaws.{FitFrom-set}
use Rattle.jf_diff.proofs.ChildPlaces.{child_part, child_placed}
use Rattle.jf_update.specs.Outcomes.{AreParts, AreShort, IsNodeUpdate, IsOutcome, IsOutcomePlaced}
use Rattle.jf_update.specs.Wide.{IsPieceOutcome}
use Rattle.jf_split.specs.Pieces.{ArePieces}
use Rattle.jf_update.proofs.PieceCuts.{HasNibble, same_or_not, pieces_whole}
use Rattle.jf_update.specs.declared.outcome.NewChildren.{NewChildren}
use Rattle.jf_update.specs.declared.outcome.Outcome.{Outcome}
use Rattle.jf_update.specs.declared.outcome.Outcome.TheVariants.{Same, New}
use Rattle.jf_update.proofs.BuildLaws.{fits_part}
use Rattle.jf_update.proofs.RemainderLaws.{get_or-any}
use Rattle.jf_update.proofs.NodeUpdateLaws.{IsUpdating, empty_applied, no_change}

-- ---- outcomes put in place
-- the child at nibble k is updated
abbrev IsDone : ℕ → ℕ → List (Option LinkValue) → Batch → List (Option LinkValue) → List Bool → ℕ → Type 0
IsDone d v olds bs news changed k =
    IsNodeUpdate (d + 1) v (get_or olds k None) (with_nibble d k bs) (get_or news k None)
    × (get_or changed k false ≡ false → content (get_or news k None) ≡ content (get_or olds k None))
    × (get_or changed k false ≡ true → ¬ (content (get_or news k None) ≡ content (get_or olds k None)))

-- the child at nibble k is as it was
abbrev IsAsBefore : List (Option LinkValue) → List (Option LinkValue) → List Bool → ℕ → Type 0
IsAsBefore olds news changed k = (get_or news k None ≡ get_or olds k None) × (get_or changed k false ≡ false)

-- the outcomes of the first n pieces are put in place
pub record IsPlacing (d v n : ℕ) (olds : List (Option LinkValue)) (bs : Batch) (ps : List Piece) (news : List (Option LinkValue)) (changed : List Bool) : Type 0 where
  pub long : length news ≡ 16
  pub changes : length changed ≡ 16
  pub fit : FitFrom d 0 news
  pub each : (k : ℕ) → k < 16 → IsDone d v olds bs news changed k ⊎ IsAsBefore olds news changed k
  pub done : (i : ℕ) (p : Piece) → i < n → IsDone d v olds bs news changed (get_or ps i p).nibble

pub placing_start : (d v : ℕ) (olds news : List (Option LinkValue)) (bs : Batch) (ps : List Piece) (changed : List Bool) → length olds ≡ 16 → FitFrom d 0 olds → news ≡ olds → changed ≡ replicate 16 false → IsPlacing d v 0 olds bs ps news changed
placing_start d v olds news bs ps changed long fit is none = subst (λ ls. IsPlacing d v 0 olds bs ps ls changed) (sym is) (subst (λ ms. IsPlacing d v 0 olds bs ps olds ms) (sym none) record {
  long = long;
  changes = refl;
  fit = fit;
  each = λ k lt. inr (refl, no_change 16 k);
  done = λ i p lt. absurd (omega arith);
})

done_same : (d v : ℕ) (olds news : List (Option LinkValue)) (bs : Batch) (changed : List Bool) (k : ℕ) → length olds ≡ 16 → FitFrom d 0 olds → IsAsBefore olds news changed k → entries_after_batch (content (get_or olds k None)) (with_nibble d k bs) ≡ content (get_or olds k None) → IsDone d v olds bs news changed k
done_same d v olds news bs changed k long fit before is =
    let old = get_or olds k None in (
      subst (λ y. IsNodeUpdate (d + 1) v old (with_nibble d k bs) y) (sym before.0) record { entries = sym is; placed = child_placed d k olds long fit; versions = same_versioned v (d + 1) (content old) (λ p. link_version_at p old) },
      (λ off. ap content before.0),
      (λ on. absurd (true≢false (sym on ∙ before.1))),
    )

done_moved : (d v : ℕ) (olds news more : List (Option LinkValue)) (bs : Batch) (changed marks : List Bool) (k : ℕ) → get_or more k None ≡ get_or news k None → get_or marks k false ≡ get_or changed k false → IsDone d v olds bs news changed k → IsDone d v olds bs more marks k
done_moved d v olds news more bs changed marks k is on h = (
  subst (λ y. IsNodeUpdate (d + 1) v (get_or olds k None) (with_nibble d k bs) y) (sym is) h.0,
  (λ off. ap content is ∙ h.1 (sym on ∙ off)),
  (λ set e. h.2 (sym on ∙ set) (ap content (sym is) ∙ e)),
)

-- what one more outcome has to show: the child at its nibble is done, and no other is touched
placed_one : (d v n : ℕ) (olds news more : List (Option LinkValue)) (bs : Batch) (ps : List Piece) (changed marks : List Bool) (p : Piece) → IsPlacing d v n olds bs ps news changed → n < length ps → p ≡ get_or ps n p
    → length more ≡ 16 → length marks ≡ 16 → FitFrom d 0 more → IsDone d v olds bs more marks p.nibble
    → ((k : ℕ) → ¬ (k ≡ p.nibble) → get_or more k None ≡ get_or news k None) → ((k : ℕ) → ¬ (k ≡ p.nibble) → get_or marks k false ≡ get_or changed k false)
    → IsPlacing d v (n + 1) olds bs ps more marks
placed_one d v n olds news more bs ps changed marks p w lt at long changes fit here there on = record {
  long = long;
  changes = changes;
  fit = fit;
  each = λ k small. elim (same_or_not k p.nibble) [
    | inl is ↦ inl (subst (IsDone d v olds bs more marks) (sym is) here)
    | inr other ↦ elim (w.each k small) [
      | inl done ↦ inl (done_moved d v olds news more bs changed marks k (there k other) (on k other) done)
      | inr before ↦ inr (there k other ∙ before.0, on k other ∙ before.1)
    ]
  ];
  done = λ i q small. let le : i ≤ n = omega arith in elim (eq-or-lt_of_le le) [
    | inl last ↦ subst (λ (x : Piece). IsDone d v olds bs more marks x.nibble) (at ∙ get_or-any ps n p q lt ∙ ap (λ j. get_or ps j q) (sym last)) here
    | inr before ↦ elim (same_or_not (get_or ps i q).nibble p.nibble) [
      | inl is ↦ subst (IsDone d v olds bs more marks) (sym is) here
      | inr other ↦ done_moved d v olds news more bs changed marks (get_or ps i q).nibble (there _ other) (on _ other) (w.done i q before)
    ]
  ];
}

placed_outcome : (d v n : ℕ) (olds : List (Option LinkValue)) (w w' : NewChildren) (bs : Batch) (ps : List Piece) (p : Piece) (o : Outcome) → length olds ≡ 16 → FitFrom d 0 olds → AreParts d (entries_of_children olds) bs → IsPlacing d v n olds bs ps w.children w.changed → n < length ps → p ≡ get_or ps n p
    → p.nibble < 16 → IsOutcome (d + 1) v (get_or olds p.nibble None) (with_nibble d p.nibble bs) o → IsOutcomePlaced w p.nibble o w' → IsPlacing d v (n + 1) olds bs ps w'.children w'.changed
placed_outcome d v n olds w w' bs ps p Same long fit parts h lt at small out put =
    let there : (k : ℕ) → get_or w'.children k None ≡ get_or w.children k None = λ k. ap (λ ls. get_or ls k None) put.0 in
    let on : (k : ℕ) → get_or w'.changed k false ≡ get_or w.changed k false = λ k. ap (λ ms. get_or ms k false) put.1 in
    placed_one d v n olds w.children w'.children bs ps w.changed w'.changed p h lt at (ap length put.0 ∙ h.long) (ap length put.1 ∙ h.changes) (subst (FitFrom d 0) (sym put.0) h.fit)
    (elim (h.each p.nibble small) [
      | inl done ↦ done_moved d v olds w.children w'.children bs w.changed w'.changed p.nibble (there p.nibble) (on p.nibble) done
      | inr before ↦ done_same d v olds w'.children bs w'.changed p.nibble long fit (there p.nibble ∙ before.0, on p.nibble ∙ before.1) out
    ])
    (λ k other. there k) (λ k other. on k)
placed_outcome d v n olds w w' bs ps p (New y) long fit parts h lt at small out put =
    let m = p.nibble in
    let here : get_or w'.children m None ≡ y = ap (λ ls. get_or ls m None) put.0 ∙ get_or-set_same w.children m y None (omega (arith, h.long)) in
    let on : get_or w'.changed m false ≡ true = ap (λ ms. get_or ms m false) put.1 ∙ get_or-set_same w.changed m true false (omega (arith, h.changes)) in
    placed_one d v n olds w.children w'.children bs ps w.changed w'.changed p h lt at (ap length put.0 ∙ length-set w.children m y ∙ h.long) (ap length put.1 ∙ length-set w.changed m true ∙ h.changes)
    (subst (FitFrom d 0) (sym put.0) (FitFrom-set d 0 m w.children y h.fit (subst (λ k. FitsAt d k y) (sym (zero-add m))
    (fits_part d m (entries_after_batch (entries_of_children olds) bs) y (out.0.entries ∙ ap (λ es. entries_after_batch es (with_nibble d m bs)) (sym (child_part d m olds long fit)) ∙ sym (with_nibble-applied d m (entries_of_children olds) bs parts.entries.sorted)) out.0.placed)))) (
      subst (λ z. IsNodeUpdate (d + 1) v (get_or olds m None) (with_nibble d m bs) z) (sym here) out.0,
      (λ off. absurd (true≢false (sym on ∙ off))),
      (λ is e. out.1 (sym out.0.entries ∙ ap content (sym here) ∙ e)),
    )
    (λ k other. ap (λ ls. get_or ls k None) put.0 ∙ get_or-set_other w.children m k y None other)
    (λ k other. ap (λ ms. get_or ms k false) put.1 ∙ get_or-set_other w.changed m k true false other)

pub placing_more : (d v n : ℕ) (olds : List (Option LinkValue)) (w w' : NewChildren) (bs : Batch) (ps : List Piece) (p : Piece) (r : Outcome) → length olds ≡ 16 → FitFrom d 0 olds → AreParts d (entries_of_children olds) bs → IsPlacing d v n olds bs ps w.children w.changed → n < length ps → p ≡ get_or ps n p
    → IsPieceOutcome d v olds bs p r → IsOutcomePlaced w p.nibble r w' → IsPlacing d v (n + 1) olds bs ps w'.children w'.changed
placing_more d v n olds w w' bs ps p r long fit parts h lt at out put = placed_outcome d v n olds w w' bs ps p r long fit parts h lt at out.small out.outcome put

pub place_in : (k : ℕ) (ps : List Piece) (d : Piece) → HasNibble k ps → (i : ℕ) × (i < length ps) × ((get_or ps i d).nibble ≡ k)
place_in k [] d h = absurd h
place_in k (p ∷ ps) d (inl h) = (0, omega arith, h)
place_in k (p ∷ ps) d (inr h) = let more = place_in k ps d h in (suc more.0, (let lt = more.1 in omega arith), more.2)

drop_all : {X : Type 0} (xs : List X) → drop (length xs) xs ≡ []
drop_all [] = refl
drop_all (x ∷ xs) = drop_all xs

-- once all outcomes are in place, all children are updated
pub placing_done : (d v : ℕ) (olds : List (Option LinkValue)) (w : NewChildren) (bs : Batch) (ps : List Piece) → length olds ≡ 16 → FitFrom d 0 olds → ArePieces d bs ps → IsPlacing d v (length ps) olds bs ps w.children w.changed → IsUpdating d v 16 (length bs) olds bs w.children w.changed
placing_done d v olds w bs ps long fit pieces h = record {
  long = h.long;
  changes = h.changes;
  fit = h.fit;
  each = λ k lt. (all k lt).0;
  left = λ k past. get_or_past w.children k None (omega (arith, h.long)) ∙ sym (get_or_past olds k None (omega (arith, long)));
  unchanged = λ k past. get_or_past w.changed k false (omega (arith, h.changes));
  same = λ k lt. (all k lt).1;
  differ = λ k lt. (all k lt).2;
  within = omega arith;
  rest = drop_all bs ∙ sym (from_nibble-past d 16 bs (omega arith));
}
  where
    all : (k : ℕ) → k < 16 → IsDone d v olds bs w.children w.changed k
    all k lt = elim (pieces_whole d k bs ps pieces) [
      | inl has ↦ let x = place_in k ps (record { nibble = 0; start = 0; end = 0 }) has in subst (IsDone d v olds bs w.children w.changed) x.2 (h.done x.0 (record { nibble = 0; start = 0; end = 0 }) x.1)
      | inr none ↦ elim (h.each k lt) [
        | inl done ↦ done
        | inr before ↦ done_same d v olds w.children bs w.changed k long fit before (empty_applied (content (get_or olds k None)) (with_nibble d k bs) (ap length none))
      ]
    ]

pub zip_long : {X Y : Type 0} (R : X → Y → Type 0) (xs : List X) (ys : List Y) → AllZip R xs ys → length ys ≡ length xs
zip_long R [] [] h = refl
zip_long R [] (y ∷ ys) h = absurd h
zip_long R (x ∷ xs) [] h = absurd h
zip_long R (x ∷ xs) (y ∷ ys) h = ap suc (zip_long R xs ys h.1)

-- ---- a loop over pieces that takes the first outcome each time
rest_at : {X : Type 0} (xs : List X) (i : ℕ) (x : X) → i < length xs → x ≡ get_or xs i x → drop i xs ≡ x ∷ drop (suc i) xs
rest_at [] i x lt at = absurd (omega arith)
rest_at (y ∷ ys) zero x lt at = ap (λ z. z ∷ ys) (sym at)
rest_at (y ∷ ys) (suc i) x lt at = rest_at ys i x (omega arith) at

first_left : {X Y : Type 0} (R : X → Y → Type 0) (x : X) (xs : List X) (ys more : List Y) (y : Y) → AllZip R (x ∷ xs) ys → y ≡ get_or ys 0 y → more ≡ remove ys 0 → R x y × AllZip R xs more
first_left R x xs [] more y h is gone = absurd h
first_left R x xs (z ∷ ys) more y h is gone = (subst (R x) (sym is) h.0, subst (AllZip R xs) (sym gone) h.1)

pub next_left : {X Y : Type 0} (R : X → Y → Type 0) (ps : List X) (rs more : List Y) (i : ℕ) (p : X) (r : Y) → AllZip R (drop i ps) rs → i < length ps → p ≡ get_or ps i p → r ≡ get_or rs 0 r → more ≡ remove rs 0 → R p r × AllZip R (drop (i + 1) ps) more
next_left R ps rs more i p r h lt at is gone =
    first_left R p (drop (i + 1) ps) rs more r (subst (λ xs. AllZip R xs rs) (rest_at ps i p lt at ∙ ap (λ k. p ∷ drop k ps) (sym (add-one i))) h) is gone

-- what is asked of the changes of a piece, and of the entries with its nibble
pub parts_of_piece : (d n : ℕ) (es own : Part) (bs piece : Batch) → AreParts d es bs → piece ≡ with_nibble d n bs → own ≡ with_nibble d n es → AreParts (d + 1) own piece
parts_of_piece d n es own bs piece parts exact is = record {
  path = stepped d n parts.path;
  entries = subst (IsPartUnder (d + 1) (stepped d n parts.path)) (sym is) (IsPartUnder-with_nibble d n parts.path es parts.entries);
  batch = subst (IsPartUnder (d + 1) (stepped d n parts.path)) (sym exact) (IsPartUnder-with_nibble d n parts.path bs parts.batch);
  short = subst AreShort (sym exact) (All-filter _ (λ e. nibble e.0 d == n) bs parts.short);
}

pub some_left : {X Y : Type 0} (R : X → Y → Type 0) (ps : List X) (rs : List Y) (i : ℕ) → AllZip R (drop i ps) rs → i < length ps → 0 < length rs
some_left R ps rs i h lt = omega (arith, zip_long R (drop i ps) rs h, length-drop i ps)
