-- The nodes of entries take the versions that are given, in the order of their paths.
use Rattle.std.proofs.Common.{ℕ, zero, suc, List, [], ◌∷◌, ◌++◌, ◌≡◌, ◌+◌, ◌-◌, ◌<◌, ◌≤◌, ◌==◌, ◌≢◌, refl, ap, ap₂, sym, ◌∙◌, subst, arith, Option, Some, None, map, length, take, drop, get_or, set, replicate, cond, true, false, inl, inr, T, append_assoc, append-nil, length-append, length-drop, length-set, eq-or-lt_of_le, get_or-set_other, get_or-set_same, drop-cons, add-one, zero-add, true≢false}
use Rattle.std.proofs.lemmas.List.{take-map, drop-map, length-map}
use Rattle.std.specs.FinMap.{entries, is_sorted}
use Rattle.std.specs.FinMap as fin
use Rattle.std.specs.Cmp.Lexicographic.{slice_cmp}
use Rattle.std.specs.Ordering.{is_eq, nat_cmp}
use Rattle.std.specs.List.{AllByRecursion}
use Rattle.jf_path.specs.Keys.{key_cmp, IsKey}
use Rattle.jf_path.proofs.FilterLaws.{All-filter}
use Rattle.jf_path.specs.Nibbles.{nibble}
use Rattle.jf_path.specs.Limits.{max_value}
use Rattle.jf_hash.specs.Hashes.{V}
use Rattle.jf_hash.specs.Maps.{map_of_entries}
use Rattle.jf_hash.specs.Slots.{Part, with_nibble, from_nibble}
use Rattle.jf_hash.proofs.RootLaws.{entries-empty}
use Rattle.jf_model.specs.Nodes.{Path, nodes, nodes_below, has_one}
use Rattle.jf_model.specs.Parts.{IsPartUnder, IsPieceEnd}
use Rattle.jf_model.specs.Walk.{each_from}
use Rattle.jf_walk.proofs.NodeLists.{child_nodes, lower_nodes, nodes_below-suc}
use Rattle.jf_walk.proofs.PartLaws.{stepped, IsPartUnder-with_nibble, from_nibble-zero}
use Rattle.jf_walk.proofs.PieceEnds.{cut_piece}
use Rattle.jf_walk.proofs.WalkLaws.{each_push}
use Rattle.jf_node.specs.LinkValue.{LinkValue, version_among}
use Rattle.jf_node.specs.LinkFacts.{IsLinkIf}
use Rattle.jf_node.specs.Children.{content, entries_of_children, child_versions, versions_from, leaf_value, inner_value, FitsAt, FitFrom}
use Rattle.jf_node.specs.Snapshots.{snapshot_of, IsTopIf}
use Rattle.jf_node.proofs.ChildLaws.{FitFrom-set}
use Rattle.jf_node.proofs.NodeVersions.{has_one-true, has_two-true}
use Rattle.jf_node.proofs.SnapshotLaws.{entries-snapshot_of}
use Rattle.jf_update.specs.Restored.{AreShortEntries, IsNewestFirst, AreNodeVersions, by_path, IsRestored, part_nodes, nodes_at, nodes_under, link_versions, IsRestoredPart, AreRestored}
use Rattle.jf_update.proofs.BuildLaws.{joined_parts, fits_part, drop_more}

abbrev Listed : Type 0
Listed = List (Path × Part)

-- ---- versions by path
by_path-append : (xs ys : Listed) (vs : List ℕ) → length xs ≤ length vs → by_path (xs ++ ys) vs ≡ by_path xs vs ++ by_path ys (drop (length xs) vs)
by_path-append [] ys vs le = refl
by_path-append (x ∷ xs) ys [] le = absurd (omega arith)
by_path-append (x ∷ xs) ys (v ∷ vs) le = ap (λ t. (x.0, v) ∷ t) (by_path-append xs ys vs (omega arith))

by_path-deeper : (n : ℕ) (xs : Listed) (vs : List ℕ) → by_path (map (λ (x : Path × Part). (n ∷ x.0, x.1)) xs) vs ≡ map (λ (m : Path × ℕ). (n ∷ m.0, m.1)) (by_path xs vs)
by_path-deeper n [] vs = refl
by_path-deeper n (x ∷ xs) [] = refl
by_path-deeper n (x ∷ xs) (v ∷ vs) = ap (λ t. (n ∷ x.0, v) ∷ t) (by_path-deeper n xs vs)

-- no node has a greater version if none of the list is greater
by_path-newest : (top v : ℕ) (path : Path) (xs : Listed) (vs : List ℕ) → AllByRecursion (λ w. w ≤ top) vs → version_among path (by_path xs vs) ≡ Some v → v ≤ top
by_path-newest top v path [] vs all is = absurd (cc)
by_path-newest top v path (x ∷ xs) [] all is = absurd (cc)
by_path-newest top v path (x ∷ xs) (w ∷ vs) all is =
    elim (is_eq (slice_cmp nat_cmp path x.0)) as (λ b. cond b (Some w) (version_among path (by_path xs vs)) ≡ Some v → v ≤ top) [
      | true ↦ λ here. subst (λ u. u ≤ top) (some_is w v here) all.0
      | false ↦ λ later. by_path-newest top v path xs vs all.1 later
    ] is
  where
    some_is : (a b : ℕ) → Some a ≡ Some b → a ≡ b
    some_is a b e = cc

-- ---- lists of nodes
each-part : {X : Type 0} (count n k : ℕ) (g : ℕ → List X) → k < count → length (each_from k n g) + length (g (n + k)) ≤ length (each_from count n g)
each-part zero n k g lt = absurd (omega arith)
each-part (suc count) n zero g lt = omega (arith, length-append (g n) (each_from count (n + 1) g), ap (λ m. length (g m)) (let e : n + 0 ≡ n = omega arith in e))
each-part (suc count) n (suc k) g lt =
    omega (
      arith,
      each-part count (n + 1) k g (omega arith),
      length-append (g n) (each_from count (n + 1) g),
      length-append (g n) (each_from k (n + 1) g),
      ap (λ m. length (g m)) (let e : n + suc k ≡ (n + 1) + k = omega arith in e),
    )

pub part_nodes-none : (d : ℕ) → part_nodes d [] ≡ []
unfolding part_nodes
part_nodes-none d = refl

nodes_below-one : (l d : ℕ) (e : List ℕ × List ℕ) → nodes_below l d (e ∷ []) ≡ ([], e ∷ []) ∷ []
unfolding nodes_below
nodes_below-one zero d e = refl
nodes_below-one (suc l) d e = refl

pub part_nodes-one : (d : ℕ) (e : List ℕ × List ℕ) → part_nodes d (e ∷ []) ≡ ([], e ∷ []) ∷ []
unfolding part_nodes
part_nodes-one d e = nodes_below-one (64 - d) d e

nodes_at-child : (d : ℕ) (es : Part) (n : ℕ) → child_nodes (64 - (d + 1)) d es n ≡ nodes_at d es n
unfolding child_nodes nodes_at part_nodes
nodes_at-child d es n =
    let part = with_nibble d n es in
    let step : Path × Part → Path × Part = λ x. (n ∷ x.0, x.1) in
    let below = nodes_below (64 - (d + 1)) (d + 1) part in
    elim (has_one part) as (λ b. cond b (map step below) [] ≡ map step (cond b below [])) [ true ↦ refl | false ↦ refl ]

pub part_nodes-many : (d : ℕ) (es : Part) → d < 64 → 2 ≤ length es → part_nodes d es ≡ ([], es) ∷ nodes_under d es
unfolding part_nodes nodes_under lower_nodes
part_nodes-many d es deep many =
    let levels : 64 - d ≡ suc (64 - (d + 1)) = omega arith in
    let same : child_nodes (64 - (d + 1)) d es ≡ nodes_at d es = λ i n. nodes_at-child d es n i in
    ap (λ b. cond b (nodes_below (64 - d) d es) []) (has_one-true es (omega arith))
    ∙ ap (λ l. nodes_below l d es) levels
    ∙ nodes_below-suc (64 - (d + 1)) d es
    ∙ ap (λ b. ([], es) ∷ cond b (each_from 16 0 (child_nodes (64 - (d + 1)) d es)) []) (has_two-true es many)
    ∙ ap (λ g. ([], es) ∷ each_from 16 0 g) same

-- ---- versions of children
child_versions-link : (n : ℕ) (y : Option LinkValue) → child_versions n y ≡ map (λ (m : Path × ℕ). (n ∷ m.0, m.1)) (link_versions y)
child_versions-link n None = refl
child_versions-link n (Some y) = refl

versions_from-none : (n : ℕ) (links : List (Option LinkValue)) → ((k : ℕ) → get_or links k None ≡ None) → versions_from n links ≡ []
versions_from-none n [] none = refl
versions_from-none n (x ∷ links) none = ap₂ (λ y r. child_versions n y ++ r) (none 0) (versions_from-none (n + 1) links (λ k. none (suc k)))

versions_from-set : (n at : ℕ) (links : List (Option LinkValue)) (y : Option LinkValue) → at < length links → ((k : ℕ) → at ≤ k → get_or links k None ≡ None) → versions_from n (set links at y) ≡ versions_from n links ++ child_versions (n + at) y
versions_from-set n at [] y short none = absurd (omega arith)
versions_from-set n zero (x ∷ links) y short none =
    let rest = versions_from-none (n + 1) links (λ k. none (suc k) (omega arith)) in
    ap (λ r. child_versions n y ++ r) rest ∙ append-nil (child_versions n y) ∙ ap (λ m. child_versions m y) (let e : n ≡ n + 0 = omega arith in e)
    ∙ ap₂ (λ z r. (child_versions n z ++ r) ++ child_versions (n + 0) y) (sym (none 0 (omega arith))) (sym rest)
versions_from-set n (suc at) (x ∷ links) y short none =
    ap (λ r. child_versions n x ++ r) (versions_from-set (n + 1) at links y (omega arith) (λ k le. none (suc k) (omega arith)) ∙ ap (λ m. versions_from (n + 1) links ++ child_versions m y) (let e : (n + 1) + at ≡ n + suc at = omega arith in e))
    ∙ sym (append_assoc (child_versions n x) (versions_from (n + 1) links) (child_versions (n + suc at) y))

-- ---- one node after another
-- the children that are made before nibble n
pub record IsRestoring (depth n start from to : ℕ) (es : Part) (written : List ℕ) (links : List (Option LinkValue)) : Type 0 where
  pub long : length links ≡ 16
  pub fit : FitFrom depth 0 links
  pub each : (k : ℕ) → k < n → content (get_or links k None) ≡ with_nibble depth k es
  pub later : (k : ℕ) → n ≤ k → get_or links k None ≡ None
  pub within : start ≤ length es
  pub rest : drop start es ≡ from_nibble depth n es
  pub taken : to ≡ from + length (each_from n 0 (nodes_at depth es))
  pub enough : to ≤ length written
  pub versions : versions_from 0 links ≡ by_path (each_from n 0 (nodes_at depth es)) (drop from written)

nothing_fits : (d n k : ℕ) → FitFrom d n (replicate k None)
nothing_fits d n zero = tt
nothing_fits d n (suc k) = (tt, nothing_fits d (n + 1) k)

nothing_at : (k n : ℕ) → get_or (replicate {A = Option LinkValue} k None) n None ≡ None
nothing_at zero n = refl
nothing_at (suc k) zero = refl
nothing_at (suc k) (suc n) = nothing_at k n

pub restoring_start : (d from : ℕ) (es : Part) (written : List ℕ) (links : List (Option LinkValue)) → from ≤ length written → links ≡ replicate 16 None → IsRestoring d 0 0 from from es written links
restoring_start d from es written links le is =
    subst (IsRestoring d 0 0 from from es written) (sym is) record {
      long = refl;
      fit = nothing_fits d 0 16;
      each = λ k lt. absurd (omega arith);
      later = λ k le. nothing_at 16 k;
      within = omega arith;
      rest = sym (from_nibble-zero d es);
      taken = omega arith;
      enough = le;
      versions = refl;
    }

-- the list of all children before a nibble, with the next one
pub each-more : (d n : ℕ) (es : Part) → each_from (n + 1) 0 (nodes_at d es) ≡ each_from n 0 (nodes_at d es) ++ nodes_at d es n
each-more d n es = ap (λ k. each_from k 0 (nodes_at d es)) (add-one n) ∙ each_push n 0 (nodes_at d es) ∙ ap (λ m. each_from n 0 (nodes_at d es) ++ nodes_at d es m) (zero-add n)

nodes_at-part : (d n : ℕ) (es : Part) → nodes_at d es n ≡ map (λ (x : Path × Part). (n ∷ x.0, x.1)) (part_nodes (d + 1) (with_nibble d n es))
unfolding nodes_at
nodes_at-part d n es = refl

pub length-nodes_at : (d n : ℕ) (es : Part) → length (nodes_at d es n) ≡ length (part_nodes (d + 1) (with_nibble d n es))
length-nodes_at d n es = ap length (nodes_at-part d n es) ∙ length-map (part_nodes (d + 1) (with_nibble d n es)) (λ (x : Path × Part). (n ∷ x.0, x.1))

pub restoring_more : (d n start r from to to' : ℕ) (path : ℕ → ℕ) (es : Part) (written : List ℕ) (links : List (Option LinkValue)) (child : Option LinkValue) → IsPartUnder d path es → n < 16 → IsRestoring d n start from to es written links → IsPieceEnd d n r (drop start es)
    → IsRestoredPart (d + 1) (take r (drop start es)) written to to' child → IsRestoring d (n + 1) (start + r) from to' es written (set links n child)
restoring_more d n start r from to to' path es written links child part small b end made =
    let both = cut_piece d n r path es (drop start es) part b.rest end in
    let made_at : IsRestoredPart (d + 1) (with_nibble d n es) written to to' child = subst (λ fs. IsRestoredPart (d + 1) fs written to to' child) both.0 made in
    let in_links : n < length links = omega (arith, b.long) in
    let before : Listed = each_from n 0 (nodes_at d es) in
    let here : Listed = nodes_at d es n in
    let more : each_from (n + 1) 0 (nodes_at d es) ≡ before ++ here = each-more d n es in
    let one : child_versions n child ≡ by_path here (drop to written) =
    child_versions-link n child ∙ ap (map (λ (m : Path × ℕ). (n ∷ m.0, m.1))) made_at.versions
    ∙ sym (by_path-deeper n (part_nodes (d + 1) (with_nibble d n es)) (drop to written)) ∙ ap (λ xs. by_path xs (drop to written)) (sym (nodes_at-part d n es)) in
    let after : drop to written ≡ drop (length before) (drop from written) = ap (λ k. drop k written) b.taken ∙ sym (drop_more from (length before) written) in
    record {
      long = length-set links n child ∙ b.long;
      fit = FitFrom-set d 0 n links child b.fit (subst (λ k. FitsAt d k child) (sym (zero-add n)) (fits_part d n es child made_at.entries made_at.placed));
      each = λ k lt. let le : k ≤ n = omega arith in elim (eq-or-lt_of_le le) [
        | inl here ↦ subst (λ m. content (get_or (set links n child) m None) ≡ with_nibble d m es) (sym here) (rw get_or-set_same made_at.entries)
        | inr before ↦ let ne : k ≢ n = omega arith in rw get_or-set_other (b.each k before)
      ];
      later = λ k le. let ne : k ≢ n = omega arith in rw get_or-set_other (b.later k (omega arith));
      within = omega (arith, b.within, end.within, length-drop start es);
      rest = sym (drop_more start r es) ∙ both.1;
      taken = omega (arith, made_at.taken, b.taken, ap length more, length-append before here, length-nodes_at d n es);
      enough = made_at.enough b.enough;
      versions = versions_from-set 0 n links child in_links b.later ∙ ap₂ (λ xs m. xs ++ child_versions m child) b.versions (zero-add n)
          ∙ ap (λ ys. by_path before (drop from written) ++ ys) (one ∙ ap (by_path here) after)
          ∙ sym (by_path-append before here (drop from written) (omega (arith, b.taken, b.enough, length-drop from written)))
          ∙ ap (λ xs. by_path xs (drop from written)) (sym more);
    }

pub restoring_done : (d start from to : ℕ) (es : Part) (written : List ℕ) (links : List (Option LinkValue)) → IsRestoring d 16 start from to es written links → AreRestored d es written from to links
unfolding nodes_under
restoring_done d start from to es written links b = record { long = b.long; fit = b.fit; each = b.each; taken = b.taken; enough = b.enough; versions = b.versions }

-- too few versions for a child are too few for all children
pub restoring_short : (d n start r from to : ℕ) (path : ℕ → ℕ) (es : Part) (written : List ℕ) (links : List (Option LinkValue)) → IsPartUnder d path es → n < 16 → IsRestoring d n start from to es written links → IsPieceEnd d n r (drop start es)
    → length written < to + length (part_nodes (d + 1) (take r (drop start es))) → length written < from + length (nodes_under d es)
unfolding nodes_under
restoring_short d n start r from to path es written links part small b end few =
    let is = (cut_piece d n r path es (drop start es) part b.rest end).0 in
    let most : length (each_from n 0 (nodes_at d es)) + length (nodes_at d es n) ≤ length (each_from 16 0 (nodes_at d es)) =
    subst (λ m. length (each_from n 0 (nodes_at d es)) + length (nodes_at d es m) ≤ length (each_from 16 0 (nodes_at d es))) (zero-add n) (each-part 16 0 n (nodes_at d es) small) in
    omega (arith, most, b.taken, length-nodes_at d n es, ap (λ fs. length (part_nodes (d + 1) fs)) is)

-- ---- one node
cut_version : (from : ℕ) (written : List ℕ) (v : ℕ) → from < length written → v ≡ get_or written from 0 → drop from written ≡ v ∷ drop (from + 1) written
cut_version from written v short is = drop-cons written from 0 short ∙ ap₂ (λ w k. w ∷ drop k written) (sym is) (sym (add-one from))

pub restored_none : (d from : ℕ) (es : Part) (written : List ℕ) → length es < 1 → IsRestoredPart d es written from from None
restored_none d from [] written none = record { entries = refl; placed = tt; taken = omega (arith, ap length (part_nodes-none d)); enough = λ le. le; versions = ap (λ xs. by_path xs (drop from written)) (sym (part_nodes-none d)) }
restored_none d from (e ∷ es) written none = absurd (omega arith)

pub restored_leaf : (d from to v : ℕ) (es : Part) (written : List ℕ) (y : LinkValue) (e f : List ℕ × List ℕ) → 1 ≤ length es → length es < 2 → from < length written → v ≡ get_or written from 0 → to ≡ from + 1 → y ≡ leaf_value v d (get_or es 0 e).0 (get_or es 0 f).1
    → IsRestoredPart d es written from to (Some y)
restored_leaf d from to v [] written y e f some few short at next is = absurd (omega arith)
restored_leaf d from to v (x ∷ []) written y e f some few short at next is =
    subst (λ z. IsRestoredPart d (x ∷ []) written from to (Some z)) (sym is) record {
      entries = refl;
      placed = refl;
      taken = omega (arith, next, ap length (part_nodes-one d x));
      enough = λ le. omega (arith, next);
      versions = sym (ap₂ by_path (part_nodes-one d x) (cut_version from written v short at));
    }
restored_leaf d from to v (x ∷ z ∷ es) written y e f some few short at next is = absurd (omega arith)

pub joined_restored : (d from to : ℕ) (path : ℕ → ℕ) (es : Part) (written : List ℕ) (links : List (Option LinkValue)) → IsPartUnder d path es → AreRestored d es written from to links → entries_of_children links ≡ es
joined_restored d from to path es written links part made = joined_parts d path es links part made.long made.each

pub restored_inner : (d from to v : ℕ) (path : ℕ → ℕ) (es : Part) (written : List ℕ) (links : List (Option LinkValue)) (y : LinkValue) → IsPartUnder d path es → 2 ≤ length es → d < 64 → from < length written → v ≡ get_or written from 0
    → AreRestored d es written (from + 1) to links → y ≡ inner_value v d links → IsRestoredPart d es written from to (Some y)
restored_inner d from to v path es written links y part many deep short at made is =
    let all = part_nodes-many d es deep many in
    subst (λ z. IsRestoredPart d es written from to (Some z)) (sym is) record {
      entries = joined_restored d (from + 1) to path es written links part made;
      placed = refl;
      taken = omega (arith, made.taken, ap length all);
      enough = λ le. made.enough;
      versions = ap (λ t. ([], v) ∷ t) made.versions ∙ sym (ap₂ by_path all (cut_version from written v short at));
    }

-- there is a version too few for a node, or for its children
some_node : (l d : ℕ) (es : Part) → 1 ≤ length (nodes_below l d es)
unfolding nodes_below
some_node zero d es = omega arith
some_node (suc l) d es = omega arith

pub part_short : (d from : ℕ) (es : Part) (written : List ℕ) → 1 ≤ length es → length written ≤ from → length written < from + length (part_nodes d es)
unfolding part_nodes
part_short d from es written some few = omega (arith, few, ap (λ b. length (cond b (nodes_below (64 - d) d es) [])) (has_one-true es some), some_node (64 - d) d es)

pub under_short : (d from : ℕ) (es : Part) (written : List ℕ) → d < 64 → 2 ≤ length es → length written < (from + 1) + length (nodes_under d es) → length written < from + length (part_nodes d es)
under_short d from es written deep many few = omega (arith, few, ap length (part_nodes-many d es deep many))

-- ---- the top
pub some_entries : (es : Part) → false ≡ (length es == 0) → 1 ≤ length es
some_entries [] is = absurd (true≢false (sym is))
some_entries (e ∷ es) is = omega arith

some_top : (es : Part) → 1 ≤ length es → part_nodes 0 es ≡ nodes_below 64 0 es
unfolding part_nodes
some_top es some = ap (λ b. cond b (nodes_below 64 0 es) []) (has_one-true es some)

nodes-entries : (s : fin.FinMap key_cmp (List ℕ)) (es : Part) → entries s ≡ es → nodes s ≡ nodes_below 64 0 es
unfolding nodes
nodes-entries s es is = ap (nodes_below 64 0) is

pub nodes-sorted : (es : Part) → 1 ≤ length es → T (is_sorted key_cmp es) → nodes (map_of_entries es) ≡ part_nodes 0 es
nodes-sorted es some sorted = nodes-entries (map_of_entries es) es (fin.entries-from_sorted key_cmp es sorted) ∙ sym (some_top es some)

-- the version of the first node of a list
abbrev first_of : List (Path × ℕ) → ℕ
first_of [] = 0
first_of (m ∷ ms) = m.1

first_version : (v : ℕ) (es : Part) (more : Listed) (written : List ℕ) (x : LinkValue) → take 1 written ≡ v ∷ [] → x.versions ≡ by_path (([], es) ∷ more) written → x.versions ≡ ([], x.version) ∷ drop 1 x.versions → x.version ≡ v
first_version v es more [] x first is own = absurd (cc)
first_version v es more (w ∷ written) x first is own =
    let same : x.version ≡ w = ap first_of (sym own ∙ is) in
    let top : w ≡ v = cc in
    same ∙ top

begins_with_top : (l : ℕ) (es : Part) → (more : Listed) × (nodes_below (suc l) 0 es ≡ ([], es) ∷ more)
begins_with_top l es = (lower_nodes l 0 es, nodes_below-suc l 0 es)

pub top_restored : (v to : ℕ) (es : Part) (written : List ℕ) (top : Option LinkValue) → 1 ≤ length es → IsNewestFirst v written → IsRestoredPart 0 es written 0 to top → IsLinkIf top → IsTopIf v top
top_restored v to es written None some newest made link = tt
top_restored v to es written (Some x) some newest made link =
    let listed = begins_with_top 63 es in
    let is : x.versions ≡ by_path (nodes_below 64 0 es) written = made.versions ∙ ap (λ xs. by_path xs written) (some_top es some) in
    record {
      depth = made.placed;
      version = first_version v es listed.0 written x newest.first (is ∙ ap (λ xs. by_path xs written) listed.1) link.first;
      newest = λ path w at. by_path-newest v w path (nodes_below 64 0 es) written newest.newest (sym (ap (version_among path) is) ∙ at);
    }

pub snapshot_restored : (v to : ℕ) (es : Part) (written : List ℕ) (top : Option LinkValue) → 1 ≤ length es → T (is_sorted key_cmp es) → IsNewestFirst v written → to ≡ length written → IsRestoredPart 0 es written 0 to top → IsLinkIf top → IsRestored v es written (snapshot_of v top)
snapshot_restored v to es written None some sorted newest all made link = absurd (let e = ap length made.entries in omega arith)
snapshot_restored v to es written (Some x) some sorted newest all made link =
    let same : entries (snapshot_of v (Some x)).map ≡ es = entries-snapshot_of v (Some x) link ∙ made.entries in
    let listed : nodes (snapshot_of v (Some x)).map ≡ part_nodes 0 es = nodes-entries (snapshot_of v (Some x)).map es same ∙ sym (some_top es some) in
    record {
      version = refl;
      same = same;
      versions = made.versions ∙ ap (λ xs. by_path xs written) (sym listed);
      sound = record { each = omega (arith, all, made.taken, ap length listed); root = newest };
    }

pub nodes_none : (s : fin.FinMap key_cmp (List ℕ)) → entries s ≡ [] → nodes s ≡ ([], []) ∷ []
unfolding lower_nodes
nodes_none s is = nodes-entries s [] is ∙ nodes_below-suc 63 0 []

-- the empty map has one node
pub empty_restored : (v : ℕ) (written : List ℕ) → IsNewestFirst v written → length written ≡ 1 → IsRestored v [] written (snapshot_of v None)
empty_restored v [] newest one = absurd (omega arith)
empty_restored v (w ∷ []) newest one =
    let listed : nodes (snapshot_of v None).map ≡ ([], []) ∷ [] = nodes_none (snapshot_of v None).map entries-empty in
    let first : w ∷ [] ≡ v ∷ [] = newest.first in
    record {
      version = refl;
      same = entries-empty;
      versions = ap (λ ws. by_path (([], []) ∷ []) ws) (sym first) ∙ ap (λ xs. by_path xs (w ∷ [])) (sym listed);
      sound = record { each = sym (ap length listed); root = newest };
    }
empty_restored v (w ∷ u ∷ written) newest one = absurd (omega arith)

pub empty_refused : (v : ℕ) (written : List ℕ) → ¬ (length written ≡ 1) → ¬ (AreNodeVersions v (nodes (map_of_entries [])) written)
empty_refused v written other h = other (h.each ∙ ap length (nodes_none (map_of_entries []) (fin.entries-from_sorted key_cmp [] tt)))

pub count_refused : (v : ℕ) (es : Part) (written : List ℕ) → 1 ≤ length es → T (is_sorted key_cmp es) → ¬ (length written ≡ length (part_nodes 0 es)) → ¬ (AreNodeVersions v (nodes (map_of_entries es)) written)
count_refused v es written some sorted other h = other (h.each ∙ ap length (nodes-sorted es some sorted))

-- ---- what is asked of a piece
all_agree : (es : Part) → AllByRecursion (λ e. (i : ℕ) → i < 0 → nibble e.0 i ≡ 0) es
all_agree [] = tt
all_agree (e ∷ es) = ((λ i lt. absurd (omega arith)), all_agree es)

pub whole_part : (es : Part) → T (is_sorted key_cmp es) → AllByRecursion (λ e. IsKey e.0) es → IsPartUnder 0 (λ (i : ℕ). 0) es
whole_part es sorted keys = record { sorted = sorted; keys = keys; agree = all_agree es }

pub piece_restored : (d n start r : ℕ) (path : ℕ → ℕ) (es : Part) → IsPartUnder d path es → drop start es ≡ from_nibble d n es → IsPieceEnd d n r (drop start es) → IsPartUnder (d + 1) (stepped d n path) (take r (drop start es))
piece_restored d n start r path es part rest end =
    subst (IsPartUnder (d + 1) (stepped d n path)) (sym (cut_piece d n r path es (drop start es) part rest end).0) (IsPartUnder-with_nibble d n path es part)

pub piece_short : (d n start r : ℕ) (path : ℕ → ℕ) (es : Part) → IsPartUnder d path es → AreShortEntries es → drop start es ≡ from_nibble d n es → IsPieceEnd d n r (drop start es) → AreShortEntries (take r (drop start es))
piece_short d n start r path es part short rest end =
    subst AreShortEntries (sym (cut_piece d n r path es (drop start es) part rest end).0) (All-filter (λ e. length e.1 ≤ max_value) (λ e. nibble e.0 d == n) es short)

pub piece_hashes : (k start : ℕ) (es : Part) (hashes : List (List ℕ)) → hashes ≡ map (λ (e : List ℕ × List ℕ). V e.1) es → take k (drop start hashes) ≡ map (λ (e : List ℕ × List ℕ). V e.1) (take k (drop start es))
piece_hashes k start es hashes is =
    ap (λ hs. take k (drop start hs)) is ∙ ap (take k) (drop-map (λ (e : List ℕ × List ℕ). V e.1) start es) ∙ take-map (λ (e : List ℕ × List ℕ). V e.1) k (drop start es)
