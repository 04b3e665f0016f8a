-- A node is updated by updating its children.
use Rattle.std.proofs.Common.{nat_lt, take_all, ◌≡◌, ℕ, ◌-◌, inl, inr, List, length, get_or, sym, ap, ◌∙◌, arith, Option, None, ◌+◌, Some, ◌<◌, subst, zero-add, ◌≤◌, Bool, true, false, drop, zero, suc, refl, replicate, set, length-drop, length-set, eq-or-lt_of_le, get_or-set_other, get_or-set_same, [], ◌∷◌, ◌++◌, ap₂, true≢false, take, Result, Ok, Err, IfOk, ◌==◌}
use Rattle.std.proofs.lemmas.Bool.Decides.{nat_tests}
use Rattle.std.proofs.lemmas.List.{set-get_or}
use Rattle.std.specs.List.{count_by}
use Rattle.jf_hash.specs.Ranges.{has_change}
use Rattle.jf_hash.proofs.Changes.{has_change-count, has_change-counted}
use Rattle.jf_path.specs.Nibbles.{nibble}
use Rattle.jf_path.proofs.FilterLaws.{All-filter}
use Rattle.jf_hash.specs.Slots.{with_nibble, from_nibble, Part}
use Rattle.jf_hash.specs.Maps.{Batch}
use Rattle.jf_model.specs.Parts.{IsPartUnder, IsPieceEnd}
use Rattle.jf_model.specs.Changes.{entries_after_batch}
use Rattle.jf_model.specs.NodeVersions.{VersionsFollow}
use Rattle.jf_model.proofs.ChangeLaws.{applied-none}
use Rattle.jf_walk.proofs.PartLaws.{from_nibble-zero, stepped, IsPartUnder-with_nibble}
use Rattle.jf_walk.proofs.PieceEnds.{cut_piece}
use Rattle.jf_walk.proofs.PartChanges.{with_nibble-applied, IsPartUnder-applied}
use Rattle.jf_walk.proofs.VersionLaws.{same_versioned, topped_versioned, built_versioned}
use Rattle.jf_node.specs.LinkValue.{LinkValue, link_version_at, version_among}
use Rattle.jf_node.specs.Children.{content, entries_of_children, FitFrom, FitsAt, SameElsewhere}
use Rattle.jf_node.specs.Shown.{ShowsInner}
use Rattle.jf_node.proofs.ChildLaws.{FitFrom-set}
use Rattle.jf_node.proofs.NodeVersions.{version-below}
use Rattle.jf_diff.specs.OptionalNodes.{IsAtDepth}
use Rattle.jf_diff.proofs.ChildPlaces.{child_part, child_placed, fits}
use Rattle.jf_update.specs.Made.{IsTopOver}
use Rattle.jf_update.specs.Outcomes.{IsNodeUpdate, AreNewChildren, IsOutcome, IsOutcomePlaced, IsLeafOutcome, AreParts, AreShort, AreOutcome}
use Rattle.jf_update.specs.declared.outcome.NewChildren.{NewChildren}
use Rattle.jf_update.specs.declared.outcome.Outcome.{Outcome}
use Rattle.jf_update.specs.declared.outcome.Outcome.TheVariants.{Same, New}
use Rattle.jf_update.proofs.BuildLaws.{drop_more, joined_parts, fits_part, same_piece}

-- ---- the children as far as nibble n
pub record IsUpdating (depth version n start : ℕ) (olds : List (Option LinkValue)) (bs : Batch) (news : List (Option LinkValue)) (changed : List Bool) : Type 0 where
  pub long : length news ≡ 16
  pub changes : length changed ≡ 16
  pub fit : FitFrom depth 0 news
  pub each : (k : ℕ) → k < n → IsNodeUpdate (depth + 1) version (get_or olds k None) (with_nibble depth k bs) (get_or news k None)
  pub left : (k : ℕ) → n ≤ k → get_or news k None ≡ get_or olds k None
  pub unchanged : (k : ℕ) → n ≤ k → get_or changed k false ≡ false
  pub same : (k : ℕ) → k < n → get_or changed k false ≡ false → content (get_or news k None) ≡ content (get_or olds k None)
  pub differ : (k : ℕ) → k < n → get_or changed k false ≡ true → ¬ (content (get_or news k None) ≡ content (get_or olds k None))
  pub within : start ≤ length bs
  pub rest : drop start bs ≡ from_nibble depth n bs

pub no_change : (n k : ℕ) → get_or (replicate n false) k false ≡ false
no_change zero k = refl
no_change (suc n) zero = refl
no_change (suc n) (suc k) = no_change n k

pub updating_start : (d v : ℕ) (olds news : List (Option LinkValue)) (bs : Batch) (changed : List Bool) → length olds ≡ 16 → FitFrom d 0 olds → news ≡ olds → changed ≡ replicate 16 false → IsUpdating d v 0 0 olds bs news changed
updating_start d v olds news bs changed long fit is none = subst (λ ls. IsUpdating d v 0 0 olds bs ls changed) (sym is) (subst (λ ms. IsUpdating d v 0 0 olds bs olds ms) (sym none) record {
  long = long;
  changes = refl;
  fit = fit;
  each = λ k lt. absurd (omega arith);
  left = λ k le. refl;
  unchanged = λ k le. no_change 16 k;
  same = λ k lt off. absurd (omega arith);
  differ = λ k lt on. absurd (omega arith);
  within = omega arith;
  rest = sym (from_nibble-zero d bs);
})

-- one more child is updated
updating_one : (d v n start r : ℕ) (path : ℕ → ℕ) (olds news news' : List (Option LinkValue)) (y : Option LinkValue) (bs : Batch) (changed changed' : List Bool) (change : Bool) → IsPartUnder d path bs → n < 16 → IsUpdating d v n start olds bs news changed → IsPieceEnd d n r (drop start bs)
    → IsNodeUpdate (d + 1) v (get_or olds n None) (with_nibble d n bs) y → FitsAt d n y → news' ≡ set news n y → changed' ≡ set changed n change
    → (change ≡ false → content y ≡ content (get_or olds n None))
    → (change ≡ true → ¬ (content y ≡ content (get_or olds n None)))
    → IsUpdating d v (n + 1) (start + r) olds bs news' changed'
updating_one d v n start r path olds news news' y bs changed changed' change part small w end updated fit is flagged same differ =
    let in_links : n < length news = omega (arith, w.long) in
    let in_changes : n < length changed = omega (arith, w.changes) in
    let here : get_or news' n None ≡ y = ap (λ ls. get_or ls n None) is ∙ get_or-set_same news n y None in_links in
    let there : (k : ℕ) → ¬ (k ≡ n) → get_or news' k None ≡ get_or news k None = λ k ne. ap (λ ls. get_or ls k None) is ∙ get_or-set_other news n k y None ne in
    let change_here : get_or changed' n false ≡ change = ap (λ ms. get_or ms n false) flagged ∙ get_or-set_same changed n change false in_changes in
    let change_there : (k : ℕ) → ¬ (k ≡ n) → get_or changed' k false ≡ get_or changed k false = λ k ne. ap (λ ms. get_or ms k false) flagged ∙ get_or-set_other changed n k change false ne in
    record {
      long = ap length is ∙ length-set news n y ∙ w.long;
      changes = ap length flagged ∙ length-set changed n change ∙ w.changes;
      fit = subst (FitFrom d 0) (sym is) (FitFrom-set d 0 n news y w.fit (subst (λ k. FitsAt d k y) (sym (zero-add n)) fit));
      each = λ k lt. let le : k ≤ n = omega arith in elim (eq-or-lt_of_le le) [
        | inl at ↦ subst (λ m. IsNodeUpdate (d + 1) v (get_or olds m None) (with_nibble d m bs) (get_or news' m None)) (sym at) (subst (λ z. IsNodeUpdate (d + 1) v (get_or olds n None) (with_nibble d n bs) z) (sym here) updated)
        | inr before ↦ subst (λ z. IsNodeUpdate (d + 1) v (get_or olds k None) (with_nibble d k bs) z) (sym (there k (λ e. omega arith))) (w.each k before)
      ];
      left = λ k le. there k (λ e. omega arith) ∙ w.left k (omega arith);
      unchanged = λ k le. change_there k (λ e. omega arith) ∙ w.unchanged k (omega arith);
      same = λ k lt off. let le : k ≤ n = omega arith in elim (eq-or-lt_of_le le) [
        | inl at ↦ subst (λ m. content (get_or news' m None) ≡ content (get_or olds m None)) (sym at) (ap content here ∙ same (sym change_here ∙ ap (λ m. get_or changed' m false) (sym at) ∙ off))
        | inr before ↦ ap content (there k (λ e. omega arith)) ∙ w.same k before (sym (change_there k (λ e. omega arith)) ∙ off)
      ];
      differ = λ k lt on. let le : k ≤ n = omega arith in elim (eq-or-lt_of_le le) [
        | inl at ↦ λ e. differ (sym change_here ∙ ap (λ m. get_or changed' m false) (sym at) ∙ on) (sym (ap content here) ∙ subst (λ m. content (get_or news' m None) ≡ content (get_or olds m None)) at e)
        | inr before ↦ λ e. w.differ k before (sym (change_there k (λ e. omega arith)) ∙ on) (ap content (sym (there k (λ at. omega arith))) ∙ e)
      ];
      within = omega (arith, w.within, end.within, length-drop start bs);
      rest = sym (drop_more start r bs) ∙ (cut_piece d n r path bs (drop start bs) part w.rest end).1;
    }

-- the entries of all children once each is updated
updated_parts : (d v : ℕ) (path : ℕ → ℕ) (olds news : List (Option LinkValue)) (bs : Batch) (changed : List Bool) → length olds ≡ 16 → FitFrom d 0 olds → IsPartUnder d path (entries_of_children olds) → IsPartUnder d path bs → AreNewChildren d v olds bs news changed → entries_of_children news ≡ entries_after_batch (entries_of_children olds) bs
updated_parts d v path olds news bs changed long fit part batch w =
    joined_parts d path (entries_after_batch (entries_of_children olds) bs) news (IsPartUnder-applied d path (entries_of_children olds) bs part batch) w.long
    (λ k lt. (w.each k lt).entries ∙ ap (λ es. entries_after_batch es (with_nibble d k bs)) (sym (child_part d k olds long fit)) ∙ sym (with_nibble-applied d k (entries_of_children olds) bs part.sorted))

pub updating_done : (d v start : ℕ) (olds news : List (Option LinkValue)) (bs : Batch) (changed : List Bool) → IsUpdating d v 16 start olds bs news changed → AreNewChildren d v olds bs news changed
updating_done d v start olds news bs changed w = record { long = w.long; fit = w.fit; each = w.each; same = w.same }

same_joined : (xs ys : List (Option LinkValue)) → length xs ≡ length ys → ((k : ℕ) → k < length xs → content (get_or xs k None) ≡ content (get_or ys k None)) → entries_of_children xs ≡ entries_of_children ys
same_joined [] [] e h = refl
same_joined [] (y ∷ ys) e h = absurd (omega arith)
same_joined (x ∷ xs) [] e h = absurd (omega arith)
same_joined (x ∷ xs) (y ∷ ys) e h = ap₂ (λ a b. a ++ b) (h 0 (omega arith)) (same_joined xs ys (omega arith) (λ k lt. h (suc k) (omega arith)))

-- ---- whether any changed
none_of_them : (changes : List Bool) → has_change changes ≡ false → (k : ℕ) → get_or changes k false ≡ false
none_of_them [] off k = refl
none_of_them (true ∷ changes) off k = absurd (true≢false off)
none_of_them (false ∷ changes) off zero = refl
none_of_them (false ∷ changes) off (suc k) = none_of_them changes off k

one_of_them : (changes : List Bool) → has_change changes ≡ true → (k : ℕ) × (k < length changes) × (get_or changes k false ≡ true)
one_of_them [] on = absurd (true≢false (sym on))
one_of_them (true ∷ changes) on = (0, omega arith, refl)
one_of_them (false ∷ changes) on = let more = one_of_them changes on in (suc more.0, (let lt = more.1 in omega arith), more.2)

positive : (n : ℕ) → true ≡ nat_lt 0 (suc n)
positive n = grind (arith, nat_tests)

-- whether a child changed, by how many did
pub told_change : (changes : List Bool) (n : ℕ) → length changes ≡ 16 → n ≡ count_by (λ bit. bit) (take 16 changes) → nat_lt 0 n ≡ has_change changes
told_change changes zero long is = sym (has_change-count changes (sym (is ∙ ap (count_by (λ bit. bit)) (take_all 16 changes (omega (arith, long))))))
told_change changes (suc n) long is = sym (positive n) ∙ sym (has_change-counted changes (λ none. absurd (omega (arith, is ∙ ap (count_by (λ bit. bit)) (take_all 16 changes (omega (arith, long))) ∙ none))))

-- if no child changed, the batch changes nothing
pub none_changed : (d v start : ℕ) (path : ℕ → ℕ) (olds news : List (Option LinkValue)) (bs : Batch) (changed : List Bool) → length olds ≡ 16 → FitFrom d 0 olds → IsPartUnder d path (entries_of_children olds) → IsPartUnder d path bs → IsUpdating d v 16 start olds bs news changed → has_change changed ≡ false → entries_after_batch (entries_of_children olds) bs ≡ entries_of_children olds
none_changed d v start path olds news bs changed long fit part batch w off =
    sym (updated_parts d v path olds news bs changed long fit part batch (updating_done d v start olds news bs changed w)) ∙ same_joined news olds (w.long ∙ sym long) (λ k lt. w.same k (omega (arith, w.long)) (none_of_them changed off k))

-- if a child changed, the batch changes something
pub some_changed : (d v start : ℕ) (path : ℕ → ℕ) (olds news : List (Option LinkValue)) (bs : Batch) (changed : List Bool) → length olds ≡ 16 → FitFrom d 0 olds → IsPartUnder d path (entries_of_children olds) → IsPartUnder d path bs → IsUpdating d v 16 start olds bs news changed → has_change changed ≡ true → ¬ (entries_after_batch (entries_of_children olds) bs ≡ entries_of_children olds)
some_changed d v start path olds news bs changed long fit part batch w on same =
    let x = one_of_them changed on in
    let is = updated_parts d v path olds news bs changed long fit part batch (updating_done d v start olds news bs changed w) in
    w.differ x.0 (omega (arith, x.1, w.changes)) x.2 (sym (child_part d x.0 news w.long w.fit) ∙ ap (with_nibble d x.0) (is ∙ same) ∙ child_part d x.0 olds long fit)

-- a child that didn't change has the same entries as before
pub same_elsewhere : (d v : ℕ) (olds news : List (Option LinkValue)) (es : Part) (bs : Batch) (changed : List Bool) → length olds ≡ 16 → FitFrom d 0 olds → es ≡ entries_of_children olds → AreNewChildren d v olds bs news changed → SameElsewhere changed d es (entries_of_children news)
same_elsewhere d v olds news es bs changed long fit is w i lt off =
    ap (with_nibble d i) is ∙ child_part d i olds long fit ∙ sym (w.same i lt off) ∙ sym (child_part d i news w.long w.fit)

-- ---- an outcome in its place
set_same : (changes : List Bool) (n : ℕ) → get_or changes n false ≡ false → changes ≡ set changes n false
set_same changes n is = sym (ap (set changes n) (sym is) ∙ set-get_or changes n false)

pub updating_more : (d v n start r : ℕ) (path : ℕ → ℕ) (olds : List (Option LinkValue)) (w w' : NewChildren) (p : Outcome) (bs piece : Batch) → length olds ≡ 16 → FitFrom d 0 olds → IsPartUnder d path (entries_of_children olds) → IsPartUnder d path bs → n < 16 → IsUpdating d v n start olds bs w.children w.changed → IsPieceEnd d n r (drop start bs)
    → piece ≡ take r (drop start bs) → IsOutcome (d + 1) v (get_or olds n None) piece p → IsOutcomePlaced w n p w' → IsUpdating d v (n + 1) (start + r) olds bs w'.children w'.changed
updating_more d v n start r path olds now next Same bs piece long fit part batch small w end is out put =
    let old = get_or olds n None in
    let at : with_nibble d n bs ≡ piece = sym (is ∙ (cut_piece d n r path bs (drop start bs) batch w.rest end).0) in
    let kept : get_or now.children n None ≡ old = w.left n (omega arith) in
    updating_one d v n start r path olds now.children next.children old bs now.changed next.changed false batch small w end
    record { entries = sym (ap (entries_after_batch (content old)) at ∙ out); placed = child_placed d n olds long fit; versions = same_versioned v (d + 1) (content old) (λ p. link_version_at p old) }
    (fits d n olds long fit small)
    (put.0 ∙ sym (ap (set now.children n) (sym kept) ∙ set-get_or now.children n None))
    (put.1 ∙ set_same now.changed n (w.unchanged n (omega arith)))
    (λ off. refl)
    (λ on. absurd (true≢false (sym on)))
updating_more d v n start r path olds now next (New y) bs piece long fit part batch small w end is out put =
    let old = get_or olds n None in
    let at : with_nibble d n bs ≡ piece = sym (is ∙ (cut_piece d n r path bs (drop start bs) batch w.rest end).0) in
    updating_one d v n start r path olds now.children next.children y bs now.changed next.changed true batch small w end
    (subst (λ b. IsNodeUpdate (d + 1) v old b y) (sym at) out.0)
    (fits_part d n (entries_after_batch (entries_of_children olds) bs) y
    (out.0.entries ∙ ap (λ es. entries_after_batch es piece) (sym (child_part d n olds long fit)) ∙ ap (entries_after_batch (with_nibble d n (entries_of_children olds))) (sym at) ∙ sym (with_nibble-applied d n (entries_of_children olds) bs part.sorted)) out.0.placed)
    put.0
    put.1
    (λ off. absurd (true≢false off))
    (λ on e. out.1 (sym out.0.entries ∙ e))

-- ---- a node over its updated children
pub worked_top : (d v : ℕ) (path : ℕ → ℕ) (x : LinkValue) (y : Option LinkValue) (olds news : List (Option LinkValue)) (bs : Batch) (changed : List Bool) → x.depth ≡ d → ShowsInner x olds
    → IsPartUnder d path x.entries → IsPartUnder d path bs → AreNewChildren d v olds bs news changed → ¬ (entries_after_batch (entries_of_children olds) bs ≡ entries_of_children olds) → IsTopOver d v news y → IsOutcome d v (Some x) bs (New y)
worked_top d v path x y olds news bs changed at shows part batch w differ t =
    let is = shows.entries in
    let long = shows.children.long in
    let fit : FitFrom d 0 olds = subst (λ k. FitFrom k 0 olds) at shows.children.fit in
    let several = shows.children.several in
    let part' : IsPartUnder d path (entries_of_children olds) = subst (IsPartUnder d path) is part in
    let made : entries_of_children news ≡ entries_after_batch (entries_of_children olds) bs = updated_parts d v path olds news bs changed long fit part' batch w in
    let other : ¬ (entries_after_batch x.entries bs ≡ x.entries) = λ e. differ (ap (λ es. entries_after_batch es bs) (sym is) ∙ e ∙ is) in
    let now : content y ≡ entries_after_batch x.entries bs = t.entries ∙ made ∙ ap (λ es. entries_after_batch es bs) (sym is) in (
      record {
        entries = now;
        placed = t.placed;
        versions = subst (λ es. VersionsFollow d v x.entries es (λ p. link_version_at p (Some x)) (λ p. link_version_at p y)) (sym t.entries)
            (topped_versioned d v x.entries (entries_of_children news) (λ n p. link_version_at p (get_or olds n None)) (λ n p. link_version_at p (get_or news n None)) (λ p. link_version_at p (Some x)) (λ p. link_version_at p y)
            (omega (arith, ap length is)) (λ e. other (sym now ∙ t.entries ∙ e))
            (λ n p lt. ap (version_among (n ∷ p)) shows.versions ∙ version-below n p x.version olds)
            (λ n lt. versioned_at n (with_nibble d n x.entries) (with_nibble d n (entries_of_children news)) (ap (with_nibble d n) is ∙ child_part d n olds long fit) (child_part d n news w.long w.fit) (w.each n lt).versions)
            t.versions);
      },
      other,
    )
  where
    versioned_at : (n : ℕ) (a b : Part) → a ≡ content (get_or olds n None) → b ≡ content (get_or news n None) → VersionsFollow (d + 1) v (content (get_or olds n None)) (content (get_or news n None)) (λ p. link_version_at p (get_or olds n None)) (λ p. link_version_at p (get_or news n None))
        → VersionsFollow (d + 1) v a b (λ p. link_version_at p (get_or olds n None)) (λ p. link_version_at p (get_or news n None))
    versioned_at n a b p q h =
        subst (λ es. VersionsFollow (d + 1) v es b (λ p. link_version_at p (get_or olds n None)) (λ p. link_version_at p (get_or news n None))) (sym p)
        (subst (λ es. VersionsFollow (d + 1) v (content (get_or olds n None)) es (λ p. link_version_at p (get_or olds n None)) (λ p. link_version_at p (get_or news n None))) (sym q) h)

-- the outcome over a leaf, or over a place without a node
pub leaf_outcome : (d v : ℕ) (x : Option LinkValue) (es : Part) (bs : Batch) (p : Outcome) → content x ≡ es → length es < 2 → IsLeafOutcome d v es bs p → IsOutcome d v x bs p
leaf_outcome d v x es bs Same is few out = ap (λ es. entries_after_batch es bs) is ∙ out ∙ sym is
leaf_outcome d v x es bs (New y) is few out =
    let now : content y ≡ entries_after_batch (content x) bs = out.0.entries ∙ ap (λ es. entries_after_batch es bs) (sym is) in (
      record {
        entries = now;
        placed = out.0.placed;
        versions = subst (λ fs. VersionsFollow d v (content x) fs (λ p. link_version_at p x) (λ p. link_version_at p y)) (sym out.0.entries)
            (built_versioned d v (content x) (entries_after_batch es bs) (λ p. link_version_at p x) (λ p. link_version_at p y) (subst (λ es. length es < 2) (sym is) few) (λ e. out.1 (e ∙ is)) out.0.versions);
      },
      (λ e. out.1 (ap (λ es. entries_after_batch es bs) (sym is) ∙ e ∙ is)),
    )

pub ok_outcome : {E : Type 0} (d v : ℕ) (x : Option LinkValue) (es : Part) (bs : Batch) (r : Result Outcome E) → content x ≡ es → length es < 2 → IfOk r (λ p. IsLeafOutcome d v es bs p) → IfOk r (λ p. IsOutcome d v x bs p)
ok_outcome d v x es bs (Ok p) is few out = leaf_outcome d v x es bs p is few out
ok_outcome d v x es bs (Err e) is few out = tt

-- ---- what is asked of the update of a child
pub child_parts : (d v n start r : ℕ) (olds news : List (Option LinkValue)) (o : Option LinkValue) (bs : Batch) (changed : List Bool) → length olds ≡ 16 → FitFrom d 0 olds → AreParts d (entries_of_children olds) bs → IsUpdating d v n start olds bs news changed → IsPieceEnd d n r (drop start bs) → o ≡ get_or olds n None
    → AreParts (d + 1) (content o) (take ((start + r) - start) (drop start bs))
child_parts d v n start r olds news o bs changed long fit parts w end is =
    let piece = same_piece start r bs ∙ (cut_piece d n r parts.path bs (drop start bs) parts.batch w.rest end).0 in
    record {
      path = stepped d n parts.path;
      entries = subst (IsPartUnder (d + 1) (stepped d n parts.path)) (child_part d n olds long fit ∙ ap content (sym is)) (IsPartUnder-with_nibble d n parts.path (entries_of_children olds) parts.entries);
      batch = subst (IsPartUnder (d + 1) (stepped d n parts.path)) (sym piece) (IsPartUnder-with_nibble d n parts.path bs parts.batch);
      short = subst AreShort (sym piece) (All-filter _ (λ e. nibble e.0 d == n) bs parts.short);
    }

pub empty_applied : (es : Part) (bs : Batch) → length bs ≡ 0 → entries_after_batch es bs ≡ es
empty_applied es [] e = applied-none es
empty_applied es (b ∷ bs) e = absurd (omega arith)

-- ---- from an inner node to its children and back
pub inner_parts : (d : ℕ) (old : Option LinkValue) (x : LinkValue) (olds : List (Option LinkValue)) (bs : Batch) → old ≡ Some x → ShowsInner x olds → AreParts d (content old) bs → AreParts d (entries_of_children olds) bs
inner_parts d old x olds bs is shows parts = subst (λ es. AreParts d es bs) (ap content is ∙ shows.entries) parts

pub depth_of : (d : ℕ) (old : Option LinkValue) (x : LinkValue) → old ≡ Some x → IsAtDepth d old → x.depth ≡ d
depth_of d old x is placed = subst (IsAtDepth d) is placed

pub inner_outcome : (d v : ℕ) (old : Option LinkValue) (x : LinkValue) (y : Option LinkValue) (olds : List (Option LinkValue)) (w : NewChildren) (bs : Batch) → old ≡ Some x → IsAtDepth d old → ShowsInner x olds
    → AreParts d (content old) bs → AreOutcome d v olds bs (Some w) → IsTopOver x.depth v w.children y → IsOutcome d v old bs (New y)
inner_outcome d v old x y olds w bs is placed shows parts out top =
    let at : x.depth ≡ d = depth_of d old x is placed in
    let parts' : AreParts d x.entries bs = subst (λ o. AreParts d (content o) bs) is parts in
    subst (λ o. IsOutcome d v o bs (New y)) (sym is)
    (worked_top d v parts'.path x y olds w.children bs w.changed at shows parts'.entries parts'.batch out.0 out.1 (subst (λ k. IsTopOver k v w.children y) at top))

pub inner_kept : (d v : ℕ) (old : Option LinkValue) (x : LinkValue) (olds : List (Option LinkValue)) (w : NewChildren) (bs : Batch) → old ≡ Some x → IsAtDepth d old → ShowsInner x olds
    → AreOutcome d v olds bs (Some w) → SameElsewhere w.changed x.depth x.entries (entries_of_children w.children)
inner_kept d v old x olds w bs is placed shows out =
    let at : x.depth ≡ d = depth_of d old x is placed in
    subst (λ k. SameElsewhere w.changed k x.entries (entries_of_children w.children)) (sym at) (same_elsewhere d v olds w.children x.entries bs w.changed shows.children.long (subst (λ k. FitFrom k 0 olds) at shows.children.fit) shows.entries out.0)

pub outcome_at : (d v : ℕ) (olds : List (Option LinkValue)) (bs : Batch) (o : Option NewChildren) (w : NewChildren) → o ≡ Some w → AreOutcome d v olds bs o → AreOutcome d v olds bs (Some w)
outcome_at d v olds bs o w is out = subst (AreOutcome d v olds bs) is out

pub inner_agree : (d v : ℕ) (old : Option LinkValue) (x : LinkValue) (olds : List (Option LinkValue)) (w : NewChildren) (bs : Batch) → old ≡ Some x → IsAtDepth d old → ShowsInner x olds
    → AreParts d (content old) bs → AreOutcome d v olds bs (Some w) → (path : ℕ → ℕ) × IsPartUnder x.depth path (entries_of_children w.children)
inner_agree d v old x olds w bs is placed shows parts out =
    let at : x.depth ≡ d = depth_of d old x is placed in
    let parts' = inner_parts d old x olds bs is shows parts in (
      parts'.path,
      subst (λ k. IsPartUnder k parts'.path (entries_of_children w.children)) (sym at)
          (subst (IsPartUnder d parts'.path) (sym (updated_parts d v parts'.path olds w.children bs w.changed shows.children.long (subst (λ k. FitFrom k 0 olds) at shows.children.fit) parts'.entries parts'.batch out.0)) (IsPartUnder-applied d parts'.path (entries_of_children olds) bs parts'.entries parts'.batch)),
    )
