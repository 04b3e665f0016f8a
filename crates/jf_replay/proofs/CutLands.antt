-- A standing at a version is the landing that made this version on the standing at the version before.
use Rattle.std.specs.Prelude.{IsTrue, slice_index_or}
use Rattle.std.proofs.Common.{◌≡◌, ℕ, zero, suc, ◌+◌, ◌-◌, ◌<◌, ◌≤◌, true, false, cond, ◌==◌, nat_le, List, [], ◌∷◌, ◌++◌, map, filter, drop, length, Contains, refl, sym, ap, ap₂, ◌∙◌, subst, arith, inl, inr, ◌⊎◌, Greater, nat_cmp, is_lt, true≢false}
use Rattle.std.proofs.lemmas.Option.{same_Some}
use Rattle.std.proofs.lemmas.Bool.{cases_lt}
use Rattle.std.proofs.lemmas.Bool.Decides.{nat_tests}
use Rattle.std.specs.Cmp.Lexicographic.{slice_cmp}
use Rattle.std.specs.FinMap.{find}
use Rattle.std.specs.List.{AllByRecursion}
use Rattle.std.specs.Ordering.{ordering_then}
use Rattle.std.specs.declared.cmp.Ordering.{Ordering}
use Rattle.jf_path.specs.declared.name.NodeName.{NodeName}
use Rattle.jf_path.specs.declared.node.PlainNode.{PlainNode}
use Rattle.jf_path.specs.Names.{name_cmp, are_rising}
use Rattle.jf_path.specs.NameLaws.{name_cmp_total}
use Rattle.jf_path.proofs.BoolLaws.{left_true, right_true, same_test}
use Rattle.jf_path.proofs.ListLaws.{All-of, All-weaker, Contains-map}
use Rattle.jf_path.proofs.FilterLaws.{filter-same, filter-Contains, filter-passes, Contains-filter}
use Rattle.jf_path.proofs.NumberLaws.{le_so, number_tells, other_number}
use Rattle.jf_codec.specs.declared.format.Format.{Format}
use Rattle.jf_standing.specs.Named.{NamedNode, not_stale, is_written, is_stale, written_nodes_at, stale_nodes_at}
use Rattle.jf_standing.specs.Standing.{Standing, is_named, marked_node, unmarked_node, with_commit}
use Rattle.jf_standing.specs.Building.{apart}
use Rattle.jf_standing.specs.Sound.{IsSound}
use Rattle.jf_standing.specs.Taking.{Continues}
use Rattle.jf_standing.proofs.Lists.{All-each_element, map-which}
use Rattle.jf_standing.proofs.Names.{named-tells, named-so, are_rising-sorted, same_name-exact}
use Rattle.jf_standing.proofs.Ordered.{Contains-find}
use Rattle.jf_standing.proofs.Sinces.{version-low, version-before, since-high}
use Rattle.jf_standing.proofs.Checkpoints.{apart_names}
use Rattle.jf_replay.specs.Cuts.{is_written_by, named_by, nodes_by, standing_by, without_since, landing_making}
use Rattle.jf_replay.proofs.Numbered.{IsNumbered}

-- ---- names that rise
lower_version : (v w : ℕ) (r : Ordering) → is_lt (ordering_then (nat_cmp v w) r) ≡ true → v ≤ w
lower_version v w r is = elim (cases_lt w v) [
  | inl lt ↦ absurd (true≢false (sym is ∙ ap (λ o. is_lt (ordering_then o r)) (greater v w lt)))
  | inr le ↦ le
]
  where
    greater : (v w : ℕ) → w < v → nat_cmp v w ≡ Greater
    greater v w lt = grind (arith, nat_tests)

-- if names rise, so do their versions
pub rising-versions : (n : NamedNode) (ns : List NamedNode) → IsTrue (are_rising (map (λ n. n.0) (n ∷ ns))) → AllByRecursion (λ m. n.0.version ≤ m.0.version) ns
rising-versions n [] h = tt
rising-versions n (m ∷ ns) h =
    let le = lower_version n.0.version m.0.version (slice_cmp nat_cmp n.0.path m.0.path) (left_true (is_lt (name_cmp n.0 m.0)) _ h) in
    (le, All-weaker _ _ (λ k later. omega arith) ns (rising-versions m ns (right_true (is_lt (name_cmp n.0 m.0)) _ h)))

pub later_rise : (n : NamedNode) (ns : List NamedNode) → IsTrue (are_rising (map (λ n. n.0) (n ∷ ns))) → IsTrue (are_rising (map (λ n. n.0) ns))
later_rise n [] h = refl
later_rise n (m ∷ ns) h = right_true (is_lt (name_cmp n.0 m.0)) _ h

-- nodes whose names rise are equal if they have the same name
pub rising-one_name : (ns : List NamedNode) (m n : NamedNode) → IsTrue (are_rising (map (λ n. n.0) ns)) → Contains ns m → Contains ns n → m.0 ≡ n.0 → m ≡ n
rising-one_name ns m n rises has_m has_n same =
    let sorted = are_rising-sorted (map apart ns) (subst (λ xs. IsTrue (are_rising xs)) (sym (apart_names ns)) rises) in
    let found = λ (k : NamedNode) (has : Contains ns k). Contains-find name_cmp name_cmp_total same_name-exact (map apart ns) (apart k) sorted (Contains-map apart ns k has) in
    let rest = same_Some _ _ (sym (found m has_m) ∙ ap (λ k. find name_cmp k (map apart ns)) same ∙ found n has_n) in
    λ i. (same i, (rest i).0, (rest i).1)

-- the nodes written at w or before are those written before w, and then those written at w
none_before : (w : ℕ) (ns : List NamedNode) → AllByRecursion (λ n. w ≤ n.0.version) ns → 1 ≤ w → filter (is_written_by (w - 1)) ns ≡ []
none_before w [] all some = refl
none_before w (n ∷ ns) all some = ap (λ b. cond b (n ∷ filter (is_written_by (w - 1)) ns) (filter (is_written_by (w - 1)) ns)) (not_yet n.0.version all.0) ∙ none_before w ns all.1 some
  where
    not_yet : (v : ℕ) → w ≤ v → nat_le v (w - 1) ≡ false
    not_yet v le = grind (arith, nat_tests)

pub split-written : (w : ℕ) (ns : List NamedNode) → 1 ≤ w → IsTrue (are_rising (map (λ n. n.0) ns)) → filter (is_written_by w) ns ≡ filter (is_written_by (w - 1)) ns ++ written_nodes_at w ns
split-written w [] some rises = refl
split-written w (n ∷ ns) some rises = elim (cases_lt n.0.version w) [
  | inl lt ↦
      ap (λ b. cond b (n ∷ filter (is_written_by w) ns) (filter (is_written_by w) ns)) (le_so n.0.version w (omega arith))
      ∙ ap (λ t. n ∷ t) (split-written w ns some (later_rise n ns rises))
      ∙ sym (ap₂ (λ a b. cond a (n ∷ filter (is_written_by (w - 1)) ns) (filter (is_written_by (w - 1)) ns) ++ cond b (n ∷ written_nodes_at w ns) (written_nodes_at w ns)) (le_so n.0.version (w - 1) (omega arith)) (other_number n.0.version w (λ is. omega arith)))
  | inr ge ↦
      let all : AllByRecursion (λ n. w ≤ n.0.version) (n ∷ ns) = (ge, All-weaker _ _ (λ k later. omega arith) ns (rising-versions n ns rises)) in
      filter-same (is_written_by w) (is_written w) (n ∷ ns) (All-weaker _ _ (λ k le. at_or_after k.0.version le) (n ∷ ns) all)
      ∙ ap (λ t. t ++ written_nodes_at w (n ∷ ns)) (sym (none_before w (n ∷ ns) all some))
]
  where
    at_or_after : (v : ℕ) → w ≤ v → nat_le v w ≡ (v == w)
    at_or_after v le = grind (arith, nat_tests)

-- ---- the landing that made a version
stale-named : (w : ℕ) (ns : List NamedNode) (n : NamedNode) → IsTrue (are_rising (map (λ n. n.0) ns)) → Contains ns n → is_named n.0 (map (λ (k : NamedNode). k.0) (stale_nodes_at w ns)) ≡ is_stale w n
stale-named w ns n rises has = same_test (is_named n.0 (map (λ (k : NamedNode). k.0) (stale_nodes_at w ns))) (is_stale w n)
    (λ is.
    let k = map-which (λ (k : NamedNode). k.0) (stale_nodes_at w ns) n.0 (named-tells n.0 (map (λ (k : NamedNode). k.0) (stale_nodes_at w ns)) is) in
    ap (is_stale w) (sym (rising-one_name ns k.0 n rises (filter-Contains (is_stale w) ns k.0 k.1) has k.2)) ∙ filter-passes (is_stale w) ns k.0 k.1)
    (λ is. named-so n.0 (map (λ (k : NamedNode). k.0) (stale_nodes_at w ns)) (Contains-map (λ (k : NamedNode). k.0) (stale_nodes_at w ns) n (Contains-filter (is_stale w) ns n has is)))

drop-first : (i : ℕ) (xs : List (List ℕ)) → i < length xs → slice_index_or xs i [] ∷ drop (i + 1) xs ≡ drop i xs
drop-first i [] lt = absurd (omega arith)
drop-first zero (y ∷ ys) lt = refl
drop-first (suc i) (y ∷ ys) lt = ap (λ k. slice_index_or ys i [] ∷ drop k (y ∷ ys)) (let e : suc i + 1 ≡ suc (i + 1) = omega arith in e) ∙ drop-first i ys (omega arith)

module _ (s : Standing) (w : ℕ) (late : s.floor < w) (rises : IsTrue (are_rising (map (λ n. n.0) s.nodes))) (numbered : AllByRecursion (IsNumbered s.floor s.head) s.nodes) where
  marked_by : (n : NamedNode) → Contains s.nodes n → marked_node (landing_making w s) (named_by (w - 1) n) ≡ named_by w n
  marked_by n has =
      ap (λ b. cond b (n.0, n.1, w) (named_by (w - 1) n)) (stale-named w s.nodes n rises has)
      ∙ (elim (is_stale w n) as (λ b. is_stale w n ≡ b → cond b (n.0, n.1, w) (named_by (w - 1) n) ≡ named_by w n) [
        | true ↦ λ is. ap (λ v. (n.0, n.1, v)) (at n.2 (number_tells n.2 w is))
        | false ↦ λ is. ap (λ v. (n.0, n.1, v)) (apart_from n.2 is)
      ] refl)
    where
      at : (v : ℕ) → v ≡ w → w ≡ cond (nat_le v w) v not_stale
      at v is = sym is ∙ ap (λ b. cond b v not_stale) (sym (le_so v w (omega arith)))

      apart_from : (v : ℕ) → (v == w) ≡ false → cond (nat_le v (w - 1)) v not_stale ≡ cond (nat_le v w) v not_stale
      apart_from v is = ap (λ b. cond b v not_stale) (same v is)
        where
          same : (v : ℕ) → (v == w) ≡ false → nat_le v (w - 1) ≡ nat_le v w
          same v is = grind (arith, nat_tests)

  fresh_by : (n : NamedNode) → Contains s.nodes n → is_written w n ≡ true → unmarked_node (without_since n) ≡ named_by w n
  fresh_by n has is = ap (λ b. (n.0, n.1, cond b n.2 not_stale)) (later n.0.version n.2 (number_tells n.0.version w is) (All-of _ s.nodes n numbered has).later)
    where
      later : (v x : ℕ) → v ≡ w → v < x → false ≡ nat_le x w
      later v x is lt = grind (arith, nat_tests)

  map-each : {X Y : Type 0} (f g : X → Y) (xs : List X) → AllByRecursion (λ x. f x ≡ g x) xs → map f xs ≡ map g xs
  map-each f g [] h = refl
  map-each f g (x ∷ xs) h = ap₂ (λ y t. y ∷ t) h.0 (map-each f g xs h.1)

  map-map : {X Y Z : Type 0} (f : X → Y) (g : Y → Z) (xs : List X) → map g (map f xs) ≡ map (λ x. g (f x)) xs
  map-map f g [] = refl
  map-map f g (x ∷ xs) = ap (λ t. g (f x) ∷ t) (map-map f g xs)

  map-join : {X Y : Type 0} (f : X → Y) (xs ys : List X) → map f (xs ++ ys) ≡ map f xs ++ map f ys
  map-join f [] ys = refl
  map-join f (x ∷ xs) ys = ap (λ t. f x ∷ t) (map-join f xs ys)

  landed_nodes : (with_commit (landing_making w s) (standing_by (w - 1) s)).nodes ≡ nodes_by w s.nodes
  landed_nodes =
      ap₂ (λ a b. a ++ b)
      (map-map (named_by (w - 1)) (marked_node (landing_making w s)) (filter (is_written_by (w - 1)) s.nodes)
      ∙ map-each (λ n. marked_node (landing_making w s) (named_by (w - 1) n)) (named_by w) (filter (is_written_by (w - 1)) s.nodes) (All-each_element _ (filter (is_written_by (w - 1)) s.nodes) (λ n has. marked_by n (filter-Contains (is_written_by (w - 1)) s.nodes n has))))
      (map-map without_since unmarked_node (written_nodes_at w s.nodes)
      ∙ map-each (λ n. unmarked_node (without_since n)) (named_by w) (written_nodes_at w s.nodes) (All-each_element _ (written_nodes_at w s.nodes) (λ n has. fresh_by n (filter-Contains (is_written w) s.nodes n has) (filter-passes (is_written w) s.nodes n has))))
      ∙ sym (ap (map (named_by w)) (split-written w s.nodes (omega arith) rises) ∙ map-join (named_by w) (filter (is_written_by (w - 1)) s.nodes) (written_nodes_at w s.nodes))

  -- the landing that made a version leads to it
  pub standing-landed : w ≤ s.head → s.head < length s.roots + w → with_commit (landing_making w s) (standing_by (w - 1) s) ≡ standing_by w s
  standing-landed high long =
      let roots : slice_index_or s.roots (s.head - w) [] ∷ drop (s.head - (w - 1)) s.roots ≡ drop (s.head - w) s.roots =
      ap (λ k. slice_index_or s.roots (s.head - w) [] ∷ drop k s.roots) (let e : s.head - (w - 1) ≡ s.head - w + 1 = omega arith in e) ∙ drop-first (s.head - w) s.roots (omega arith) in
      λ i. record { base = s.base; floor = s.floor; head = w; roots = roots i; nodes = landed_nodes i }

  -- and continues from the version before
  pub landing-continues : Continues (standing_by (w - 1) s) (landing_making w s)
  landing-continues = record {
    next = omega arith;
    fresh_own = All-each_element _ (map without_since (written_nodes_at w s.nodes)) (λ x has.
        let n = map-which without_since (written_nodes_at w s.nodes) x has in
        ap (λ (y : NodeName × PlainNode). y.0.version) (sym n.2) ∙ number_tells n.0.0.version w (filter-passes (is_written w) s.nodes n.0 n.1));
    stale_known = All-each_element _ (map (λ (n : NamedNode). n.0) (stale_nodes_at w s.nodes)) (λ name has.
        let n = map-which (λ (n : NamedNode). n.0) (stale_nodes_at w s.nodes) name has in
        let stood = filter-Contains (is_stale w) s.nodes n.0 n.1 in
        let since = number_tells n.0.2 w (filter-passes (is_stale w) s.nodes n.0 n.1) in
        let before = (All-of _ s.nodes n.0 numbered stood).later in
        let kept = Contains-map (named_by (w - 1)) (filter (is_written_by (w - 1)) s.nodes) n.0 (Contains-filter (is_written_by (w - 1)) s.nodes n.0 stood (le_so n.0.0.version (w - 1) (omega arith))) in
        named-so name (map (λ (n : NamedNode). n.0) (nodes_by (w - 1) s.nodes)) (subst (Contains (map (λ (n : NamedNode). n.0) (nodes_by (w - 1) s.nodes))) n.2 (Contains-map (λ (n : NamedNode). n.0) (nodes_by (w - 1) s.nodes) (named_by (w - 1) n.0) kept)));
  }

-- a standing at its head is the whole standing
pub standing-head : (s : Standing) → AllByRecursion (IsNumbered s.floor s.head) s.nodes → standing_by s.head s ≡ s
standing-head s numbered =
    let roots : drop (s.head - s.head) s.roots ≡ s.roots = ap (λ k. drop k s.roots) (let e : s.head - s.head ≡ 0 = omega arith in e) in
    let nodes = whole s.nodes numbered in
    λ i. record { base = s.base; floor = s.floor; head = s.head; roots = roots i; nodes = nodes i }
  where
    since : (n : NamedNode) → (n.2 ≡ not_stale) ⊎ (n.2 ≤ s.head) → cond (nat_le n.2 s.head) n.2 not_stale ≡ n.2
    since n gone = elim (nat_le n.2 s.head) as (λ b. nat_le n.2 s.head ≡ b → cond b n.2 not_stale ≡ n.2) [
      | true ↦ λ is. refl
      | false ↦ λ is. elim gone [ inl none ↦ sym none | inr late ↦ absurd (true≢false (sym (le_so n.2 s.head late) ∙ is)) ]
    ] refl

    whole : (ns : List NamedNode) → AllByRecursion (IsNumbered s.floor s.head) ns → nodes_by s.head ns ≡ ns
    whole [] h = refl
    whole (n ∷ ns) h =
        ap (λ b. map (named_by s.head) (cond b (n ∷ filter (is_written_by s.head) ns) (filter (is_written_by s.head) ns))) (le_so n.0.version s.head h.0.written)
        ∙ ap₂ (λ v t. (n.0, n.1, v) ∷ t) (since n h.0.gone) (whole ns h.1)

-- the nodes of a sound standing are numbered
pub sound-numbered : (fmt : Format) (s : Standing) → IsSound fmt s → AllByRecursion (IsNumbered s.floor s.head) s.nodes
sound-numbered fmt s sound = All-each_element _ s.nodes (λ n has. record {
  written = version-low fmt s sound n has;
  later = version-before fmt s sound n has;
  kept = since-high fmt s sound n has;
  gone = elim (All-of _ s.nodes n sound.gone has) [ inl none ↦ inl none | inr late ↦ inr late.1 ];
})
