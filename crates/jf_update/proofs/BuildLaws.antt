-- New nodes have exactly the entries that they are built from.
use denote.Ref.{Bor}
use Rattle.std.proofs.Common.{ℕ, List, ◌≡◌, ◌+◌, ◌-◌, [], ◌∷◌, ◌++◌, refl, ap, Option, ◌<◌, length, get_or, ◌∙◌, None, suc, drop, sym, subst, arith, Some, ◌≤◌, length-append, append-nil, ◌==◌, true, false, cond, zero, zero-add, ◌≢◌, inl, inr, set, take, length-drop, length-set, ap₂, eq-or-lt_of_le, get_or-set_other, get_or-set_same, replicate, take_all, IfSome}
use Rattle.std.proofs.lemmas.Bool.Decides.{nat_tests}
use Rattle.std.proofs.lemmas.List.{nil_from_length}
use Rattle.std.specs.List.{flat_map}
use Rattle.std.specs.Option.{option_copied}
use Rattle.jf_path.specs.Nibbles.{nibble}
use Rattle.jf_path.proofs.FilterLaws.{All-filter, length-filter_le}
use Rattle.jf_hash.specs.Maps.{Batch}
use Rattle.jf_hash.specs.Slots.{Part, with_nibble, from_nibble}
use Rattle.jf_model.specs.Parts.{IsPartUnder, IsPieceEnd}
use Rattle.jf_walk.proofs.Unions as union
use Rattle.jf_walk.proofs.ChildEntryLaws.{sub-none}
use Rattle.jf_walk.proofs.VersionLaws.{built_one, topped_built}
use Rattle.jf_walk.proofs.PieceEnds.{cut_piece}
use Rattle.jf_model.specs.Changes.{entries_after_batch}
use Rattle.jf_walk.proofs.PartChanges.{with_nibble-applied}
use Rattle.jf_walk.proofs.PartLaws.{stepped, IsPartUnder-with_nibble, from_nibble-zero}
use Rattle.jf_node.specs.LinkValue.{LinkValue, link_version_at}
use Rattle.jf_node.specs.Children.{content, entries_of_children, leaf_value, inner_value, moved_value, HaveNibble, FitsAt, FitFrom}
use Rattle.jf_node.specs.LinkFacts.{BeginAlike}
use Rattle.jf_node.proofs.NodeVersions.{version-below}
use Rattle.jf_node.proofs.ChildLaws.{FitFrom-set}
use Rattle.jf_diff.specs.OptionalNodes.{IsAtDepth}
use Rattle.jf_update.specs.Made.{IsBuilt, IsTopOver, AreBuilt}
use Rattle.jf_update.specs.Outcomes.{AreParts, AreShort}

-- ---- unions
joined-flat_map : (links : List (Option LinkValue)) → entries_of_children links ≡ flat_map content links
joined-flat_map [] = refl
joined-flat_map (x ∷ links) = ap (λ es. content x ++ es) (joined-flat_map links)

-- children that have the entries of each nibble have all entries
pub joined_parts : (d : ℕ) (path : ℕ → ℕ) (es : Part) (links : List (Option LinkValue)) → IsPartUnder d path es → length links ≡ 16 → ((k : ℕ) → k < 16 → content (get_or links k None) ≡ with_nibble d k es) → entries_of_children links ≡ es
joined_parts d path es links part long h = joined-flat_map links ∙ union.joined_parts content None d path es links part long h

-- the entries of all children begin with those of the first child
pub joined-first : (links : List (Option LinkValue)) (n : ℕ) → n < length links → ((k : ℕ) → k < n → get_or links k None ≡ None) → entries_of_children links ≡ content (get_or links n None) ++ entries_of_children (drop (suc n) links)
joined-first links n short before =
    joined-flat_map links ∙ union.joined-first content None links n short (λ k lt. ap content (before k lt)) ∙ ap (λ es. content (get_or links n None) ++ es) (sym (joined-flat_map (drop (suc n) links)))

pub joined-none : (links : List (Option LinkValue)) → ((k : ℕ) → k < length links → get_or links k None ≡ None) → entries_of_children links ≡ []
joined-none links all = joined-flat_map links ∙ union.joined-none content None links (λ k lt. ap content (all k lt))

-- the keys of a part begin with the same nibbles
pub part_agrees : {d : ℕ} {path : ℕ → ℕ} (es : Part) → IsPartUnder d path es → BeginAlike d es
part_agrees {path = path} es part = record { path = path; keys = part.agree }

-- ---- one node
pub built_none : (depth version : ℕ) → IsBuilt depth version [] None
built_none depth version = record { entries = refl; placed = tt; versions = λ p some. absurd (some (sub-none depth p)) }

pub built_leaf : (depth version : ℕ) (k v : List ℕ) (y : LinkValue) → y ≡ leaf_value version depth k v → IsBuilt depth version ((k, v) ∷ []) (Some y)
built_leaf depth version k v y is =
    subst (λ z. IsBuilt depth version ((k, v) ∷ []) (Some z)) (sym is) record { entries = refl; placed = refl; versions = built_one depth version ((k, v) ∷ []) (λ p. link_version_at p (Some (leaf_value version depth k v))) (omega arith) refl }

pub topped_inner : (depth version : ℕ) (links : List (Option LinkValue)) (y : LinkValue) → y ≡ inner_value version depth links → IsTopOver depth version links (Some y)
topped_inner depth version links y is =
    subst (λ z. IsTopOver depth version links (Some z)) (sym is) record { entries = refl; placed = refl; versions = record { top = λ some. refl; children = λ n p many. version-below n p version links } }

pub topped_none : (depth version : ℕ) (links : List (Option LinkValue)) → entries_of_children links ≡ [] → IsTopOver depth version links None
topped_none depth version links none = record { entries = sym none; placed = tt; versions = record { top = λ some. absurd (some none); children = λ n p many. absurd (let e = ap length none in omega arith) } }

pub topped_moved : (depth version : ℕ) (links : List (Option LinkValue)) (x y : LinkValue) (rest : Part) → entries_of_children links ≡ x.entries ++ rest → length (entries_of_children links) < 2 → 1 ≤ length x.entries → y ≡ moved_value version depth x → IsTopOver depth version links (Some y)
topped_moved depth version links x y rest is few some moved =
    let no_rest : rest ≡ [] = nil_from_length rest (let e = ap length is in omega (arith, length-append x.entries rest)) in
    subst (λ z. IsTopOver depth version links (Some z)) (sym moved) record {
      entries = sym (append-nil x.entries) ∙ ap (λ r. x.entries ++ r) (sym no_rest) ∙ sym is;
      placed = refl;
      versions = record { top = λ some. refl; children = λ n p many. absurd (omega arith) };
    }

-- ---- children
all-with_nibble : (d n : ℕ) (es : Part) → HaveNibble d n (with_nibble d n es)
all-with_nibble d n [] = tt
all-with_nibble d n (e ∷ es) =
    elim (nibble e.0 d == n) as (λ b. (nibble e.0 d == n) ≡ b → HaveNibble d n (cond b (e ∷ with_nibble d n es) (with_nibble d n es))) [
      | true ↦ λ is. (grind (arith, nat_tests), all-with_nibble d n es)
      | false ↦ λ is. all-with_nibble d n es
    ] refl

pub fits_part : (d n : ℕ) (es : Part) (y : Option LinkValue) → content y ≡ with_nibble d n es → IsAtDepth (d + 1) y → FitsAt d n y
fits_part d n es None is at = tt
fits_part d n es (Some y) is at = (at, subst (HaveNibble d n) (sym is) (all-with_nibble d n es))

-- ---- ranges of a slice
pub same_piece : {X : Type 0} (start r : ℕ) (xs : List X) → take ((start + r) - start) (drop start xs) ≡ take r (drop start xs)
same_piece start r xs = ap (λ k. take k (drop start xs)) (let e : (start + r) - start ≡ r = omega arith in e)

pub same_rest : {X : Type 0} (start : ℕ) (xs : List X) → take (length xs - start) (drop start xs) ≡ drop start xs
same_rest start xs = take_all (length xs - start) (drop start xs) (omega (arith, length-drop start xs))

pub end_in_rest : {X : Type 0} (d n r start : ℕ) (xs : List (List ℕ × X)) → IsPieceEnd d n r (take (length xs - start) (drop start xs)) → IsPieceEnd d n r (drop start xs)
end_in_rest d n r start xs h = subst (IsPieceEnd d n r) (same_rest start xs) h

-- ---- children one after another
-- the children that are built before nibble n: es are the entries after the batch bs
pub record IsBuilding (depth version n start : ℕ) (es : Part) (bs : Batch) (links : List (Option LinkValue)) : Type 0 where
  pub long : length links ≡ 16
  pub fit : FitFrom depth 0 links
  pub each : (k : ℕ) → k < n → IsBuilt (depth + 1) version (with_nibble depth k es) (get_or links k None)
  pub within : start ≤ length bs
  pub rest : drop start bs ≡ from_nibble depth n bs

drop_none : {X : Type 0} (b : ℕ) → drop {A = X} b [] ≡ []
drop_none zero = refl
drop_none (suc b) = refl

pub drop_more : {X : Type 0} (a b : ℕ) (xs : List X) → drop b (drop a xs) ≡ drop (a + b) xs
drop_more zero b xs = ap (λ k. drop k xs) (sym (zero-add b))
drop_more (suc a) b [] = drop_none b ∙ sym (drop_none (suc a + b))
drop_more (suc a) b (x ∷ xs) = drop_more a b xs ∙ ap (λ k. drop k (x ∷ xs)) (let e : suc (a + b) ≡ suc a + b = omega arith in e)

pub building_more : (d v n start r : ℕ) (path : ℕ → ℕ) (es : Part) (bs : Batch) (links : List (Option LinkValue)) (child : Option LinkValue) → IsPartUnder d path bs → n < 16 → IsBuilding d v n start es bs links → IsPieceEnd d n r (drop start bs)
    → IsBuilt (d + 1) v (with_nibble d n es) child → IsBuilding d v (n + 1) (start + r) es bs (set links n child)
building_more d v n start r path es bs links child part small b end made =
    let both = cut_piece d n r path bs (drop start bs) part b.rest end in
    let in_links : n < length links = omega (arith, b.long) in
    record {
      long = length-set links n child ∙ b.long;
      fit = FitFrom-set d 0 n links child b.fit (subst (λ k. FitsAt d k child) (sym (zero-add n)) (fits_part d n es child made.entries made.placed));
      each = λ k lt. let le : k ≤ n = omega arith in elim (eq-or-lt_of_le le) [
        | inl here ↦ subst (λ m. IsBuilt (d + 1) v (with_nibble d m es) (get_or (set links n child) m None)) (sym here) (rw get_or-set_same made)
        | inr before ↦ let ne : k ≢ n = omega arith in rw get_or-set_other (b.each k before)
      ];
      within = omega (arith, b.within, end.within, length-drop start bs);
      rest = sym (drop_more start r bs) ∙ both.1;
    }

pub building_done : (d v start : ℕ) (es : Part) (bs : Batch) (links : List (Option LinkValue)) → IsBuilding d v 16 start es bs links → AreBuilt d v es links
building_done d v start es bs links b = record { long = b.long; fit = b.fit; each = b.each }

pub joined_built : (d v : ℕ) (path : ℕ → ℕ) (es : Part) (links : List (Option LinkValue)) → IsPartUnder d path es → AreBuilt d v es links → entries_of_children links ≡ es
joined_built d v path es links part b = joined_parts d path es links part b.long (λ k lt. (b.each k lt).entries)

-- ---- what is asked of a piece
-- entries and changes below one nibble
pub piece_parts : (d n start r : ℕ) (es own : Part) (bs : Batch) → AreParts d es bs → drop start bs ≡ from_nibble d n bs → IsPieceEnd d n r (drop start bs) → own ≡ with_nibble d n es → AreParts (d + 1) own (take ((start + r) - start) (drop start bs))
piece_parts d n start r es own bs parts rest end is =
    let piece = same_piece start r bs ∙ (cut_piece d n r parts.path bs (drop start bs) parts.batch rest end).0 in
    record {
      path = stepped d n parts.path;
      entries = subst (IsPartUnder (d + 1) (stepped d n parts.path)) (sym is) (IsPartUnder-with_nibble d n parts.path es parts.entries);
      batch = subst (IsPartUnder (d + 1) (stepped d n parts.path)) (sym piece) (IsPartUnder-with_nibble d n parts.path bs parts.batch);
      short = subst AreShort (sym piece) (All-filter _ (λ e. nibble e.0 d == n) bs parts.short);
    }

-- the entries with one nibble, after the changes of this piece
pub piece_applied : (d n start r : ℕ) (es own : Part) (bs : Batch) → AreParts d es bs → drop start bs ≡ from_nibble d n bs → IsPieceEnd d n r (drop start bs) → own ≡ with_nibble d n es → entries_after_batch own (take ((start + r) - start) (drop start bs)) ≡ with_nibble d n (entries_after_batch es bs)
piece_applied d n start r es own bs parts rest end is =
    ap₂ entries_after_batch is (same_piece start r bs ∙ (cut_piece d n r parts.path bs (drop start bs) parts.batch rest end).0) ∙ sym (with_nibble-applied d n es bs parts.entries.sorted)

pub few_at : (d n : ℕ) (es own : Part) → length es < 2 → own ≡ with_nibble d n es → length own < 2
few_at d n es own few is = omega (arith, ap length is, length-filter_le (λ (e : List ℕ × List ℕ). nibble e.0 d == n) es)

-- ---- one entry, or none
pub built_kept : (depth version : ℕ) (es : Part) (x y : LinkValue) → es ≡ x.entries → length x.entries ≡ 1 → y ≡ moved_value version depth x → IsBuilt depth version es (Some y)
built_kept depth version es x y is one moved =
    subst (λ z. IsBuilt depth version es (Some z)) (sym moved) record { entries = sym is; placed = refl; versions = built_one depth version es (λ p. link_version_at p (Some (moved_value version depth x))) (omega (arith, ap length is)) refl }

pub built_put : (depth version : ℕ) (es : Part) (k v : List ℕ) (y : LinkValue) → es ≡ (k, v) ∷ [] → y ≡ leaf_value version depth k v → IsBuilt depth version es (Some y)
built_put depth version es k v y is at = subst (λ fs. IsBuilt depth version fs (Some y)) (sym is) (built_leaf depth version k v y at)

pub built_nothing : (depth version : ℕ) (es : Part) → es ≡ [] → IsBuilt depth version es None
built_nothing depth version es is = subst (λ fs. IsBuilt depth version fs None) (sym is) (built_none depth version)

fit_none : (d n k : ℕ) → FitFrom d n (replicate k None)
fit_none d n zero = tt
fit_none d n (suc k) = (tt, fit_none d (n + 1) k)

pub building_start : (d v : ℕ) (es : Part) (bs : Batch) (links : List (Option LinkValue)) → links ≡ replicate 16 None → IsBuilding d v 0 0 es bs links
building_start d v es bs links is = subst (IsBuilding d v 0 0 es bs) (sym is) record { long = refl; fit = fit_none d 0 16; each = λ k lt. absurd (omega arith); within = omega arith; rest = sym (from_nibble-zero d bs) }

-- a new node over new children
pub built_inner : (depth version : ℕ) (path : ℕ → ℕ) (es : Part) (y : LinkValue) (links : List (Option LinkValue)) → 2 ≤ length es → IsPartUnder depth path es → AreBuilt depth version es links → y ≡ inner_value version depth links → IsBuilt depth version es (Some y)
built_inner depth version path es y links many part made is =
    let all = joined_built depth version path es links part made in
    let t = topped_inner depth version links y is in
    record {
      entries = t.entries ∙ all;
      placed = t.placed;
      versions = topped_built depth version es (λ n p. link_version_at p (get_or links n None)) (λ p. link_version_at p (Some y)) many (λ n lt. (made.each n lt).versions)
          (record { top = λ some. t.versions.top (λ none. some (sym all ∙ none)); children = λ n p lots. t.versions.children n p (subst (λ fs. 2 ≤ length fs) (sym all) lots) });
    }

-- the entries of all children begin with those of the first child that is found
pub first_some : (links : List (Option LinkValue)) (n : ℕ) (r : Option (Bor LinkValue)) → option_copied r ≡ get_or links n None → n < length links → ((k : ℕ) → k < n → get_or links k None ≡ None)
    → IfSome r (λ x. (rest : Part) × (entries_of_children links ≡ x.now.entries ++ rest))
first_some links n None is short before = tt
first_some links n (Some x) is short before = (entries_of_children (drop (suc n) links), joined-first links n short before ∙ ap (λ y. content y ++ entries_of_children (drop (suc n) links)) (sym is))
