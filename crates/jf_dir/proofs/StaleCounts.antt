-- How many nodes went stale at each version: after a landing, and under a later floor.
use Rattle.std.specs.Prelude.{slice_index_or}
use Rattle.std.proofs.Common.{◌≡◌, ℕ, zero, suc, ◌+◌, ◌-◌, ◌<◌, ◌≤◌, true, false, ◌&&◌, ◌==◌, not, cond, nat_lt, List, [], ◌∷◌, ◌++◌, map, filter, take, drop, length, Contains, refl, sym, ap, ap₂, ◌∙◌, subst, arith, inl, inr}
use Rattle.std.proofs.lemmas.Bool.Decides.{nat_tests}
use Rattle.std.proofs.lemmas.List.{length-map, drop-map, take-map, map-append}
use Rattle.std.proofs.lemmas.List.Filters.{length-filter_both}
use Rattle.std.proofs.lemmas.List.Sums.{sum_by-cons, sum_by-append}
use Rattle.std.specs.List.{AllByRecursion, sum}
use Rattle.jf_path.specs.declared.name.NodeName.{NodeName}
use Rattle.jf_path.specs.declared.node.PlainNode.{PlainNode}
use Rattle.jf_path.proofs.BoolLaws.{left_true, same_test}
use Rattle.jf_path.proofs.FilterLaws.{Contains-filter, filter-alike, filter-filter, filter-passes, filter-same, filter_all}
use Rattle.jf_path.proofs.ListLaws.{All-by_place, All-of, All-weaker, Contains-map, map_alike}
use Rattle.jf_path.proofs.NumberLaws.{lt_so, other_number, same_number}
use Rattle.jf_hash.specs.Maps.{Map, IsMap}
use Rattle.jf_codec.specs.declared.format.Format.TheVariants as format
use Rattle.jf_payload.specs.declared.records.Commit.{Commit}
use Rattle.jf_standing.specs.Named.{NamedNode, not_stale, is_stale, stale_nodes_at}
use Rattle.jf_standing.specs.Standing.{Standing, with_floor, is_named, marked_node, unmarked_node}
use Rattle.jf_standing.specs.Sound.{IsSound}
use Rattle.jf_standing.specs.Landing.{head_map, landing_of, stale_names}
use Rattle.jf_standing.specs.Building.{landed_on, up_from}
use Rattle.jf_standing.specs.Next.{IsReadStanding}
use Rattle.jf_standing.proofs.Lands.{continues}
use Rattle.jf_standing.proofs.Lists.{All-each_element, map-which}
use Rattle.jf_standing.proofs.Marks.{filter-nodes_after_commit, filter-unchanged, marked-name}
use Rattle.jf_standing.proofs.Names.{named-in_order, named-so, named-tells, same_names}
use Rattle.jf_standing.proofs.Rising.{rising-filter}
use Rattle.jf_standing.proofs.Sinces.{alive-tells, since-high}
use Rattle.jf_standing.proofs.Written.{names-stale}
use Rattle.jf_dir.specs.Holding.{stale_counts}

-- ---- versions one after another
up_from-last : (w n : ℕ) → up_from w (suc n) ≡ up_from w n ++ (w + n) ∷ []
up_from-last w zero = ap (λ v. v ∷ []) (let e : w ≡ w + 0 = omega arith in e)
up_from-last w (suc n) = ap (λ vs. w ∷ vs) (up_from-last (w + 1) n ∙ ap (λ v. up_from (w + 1) n ++ v ∷ []) (let e : w + 1 + n ≡ w + suc n = omega arith in e))

up_from-low : (w n low : ℕ) → low ≤ w → AllByRecursion (λ v. low ≤ v) (up_from w n)
up_from-low w zero low h = tt
up_from-low w (suc n) low h = (h, up_from-low (w + 1) n low (omega arith))

up_from-high : (w n high : ℕ) → w + n ≤ high → AllByRecursion (λ v. v < high) (up_from w n)
up_from-high w zero high h = tt
up_from-high w (suc n) high h = (omega arith, up_from-high (w + 1) n high (omega arith))

up_from-drop : (w n k : ℕ) → k ≤ n → drop k (up_from w n) ≡ up_from (w + k) (n - k)
up_from-drop w n zero h = ap₂ up_from (let e : w ≡ w + 0 = omega arith in e) (let e : n ≡ n - 0 = omega arith in e)
up_from-drop w zero (suc k) h = absurd (omega arith)
up_from-drop w (suc n) (suc k) h = up_from-drop (w + 1) n k (omega arith) ∙ ap₂ up_from (let e : w + 1 + k ≡ w + suc k = omega arith in e) (let e : n - k ≡ suc n - suc k = omega arith in e)

up_from-take : (w n k : ℕ) → k ≤ n → take k (up_from w n) ≡ up_from w k
up_from-take w n zero h = refl
up_from-take w zero (suc k) h = absurd (omega arith)
up_from-take w (suc n) (suc k) h = ap (λ vs. w ∷ vs) (up_from-take (w + 1) n k (omega arith))

-- the numbers of nodes that went stale at versions agree if they do at each of these
counts-alike : (xs ys : List NamedNode) (vs : List ℕ) → AllByRecursion (λ v. length (stale_nodes_at v xs) ≡ length (stale_nodes_at v ys)) vs → map (λ v. length (stale_nodes_at v xs)) vs ≡ map (λ v. length (stale_nodes_at v ys)) vs
counts-alike xs ys = map_alike (λ v. length (stale_nodes_at v xs)) (λ v. length (stale_nodes_at v ys))

-- ---- a landing
module _ (s : Standing) (m : Map) (read : IsReadStanding s) (sound : IsSound format.Two s) (keys : IsMap (head_map s)) (own_keys : IsMap m) (last : s.head + 1 < not_stale) where
  abbrev landing : Commit
  landing = landing_of format.Two s m

  abbrev after : List NamedNode
  after = (landed_on format.Two m s).nodes

  -- no node that the landing writes is stale
  own-none : (w : ℕ) → w ≤ s.head + 1 → (xs : List (NodeName × PlainNode)) → AllByRecursion (λ x. is_stale w (unmarked_node x) ≡ false) xs
  own-none w low [] = tt
  own-none w low (x ∷ xs) = (other_number not_stale w (λ same. omega arith), own-none w low xs)

  -- at earlier versions the same nodes went stale as before
  stale-stays : (w : ℕ) → w ≤ s.head → (n : NamedNode) → Contains s.nodes n → is_stale w (marked_node landing n) ≡ is_stale w n
  stale-stays w low n has = elim (is_named n.0 landing.stale) as (λ b. is_named n.0 landing.stale ≡ b → is_stale w (cond b (n.0, n.1, landing.version) n) ≡ is_stale w n) [
    | true ↦ λ named.
        let alive = (alive-tells s.head n (left_true _ _ (sym (names-stale format.Two s m sound keys n has) ∙ named))).1 in
        other_number (s.head + 1) w (λ same. omega arith) ∙ sym (other_number n.2 w (λ same. omega arith))
    | false ↦ λ free. refl
  ] refl

  count-stays : (w : ℕ) → w ≤ s.head → length (stale_nodes_at w after) ≡ length (stale_nodes_at w s.nodes)
  count-stays w low =
      ap length (filter-unchanged (is_stale w) landing s.nodes (own-none w (omega arith) landing.fresh) (All-each_element _ s.nodes (stale-stays w low)))
      ∙ length-map (stale_nodes_at w s.nodes) (marked_node landing)

  -- at its own version just those that the landing names
  stale-own : (n : NamedNode) → Contains s.nodes n → is_stale (s.head + 1) (marked_node landing n) ≡ is_named n.0 landing.stale
  stale-own n has = elim (is_named n.0 landing.stale) as (λ b. is_stale (s.head + 1) (cond b (n.0, n.1, landing.version) n) ≡ b) [
    | true ↦ same_number (s.head + 1) (s.head + 1) refl
    | false ↦ elim (All-of _ s.nodes n sound.gone has) [ inl none ↦ other_number n.2 (s.head + 1) (λ same. omega arith) | inr late ↦ let up = late.1 in other_number n.2 (s.head + 1) (λ same. omega arith) ]
  ]

  abbrev named_nodes : List NamedNode
  named_nodes = filter (λ n. is_named n.0 landing.stale) s.nodes

  named-both : (q : NodeName) → is_named q (map (λ (n : NamedNode). n.0) named_nodes) ≡ is_named q (stale_names s m)
  named-both q = same_test (is_named q (map (λ (n : NamedNode). n.0) named_nodes)) (is_named q (stale_names s m))
      (λ is.
      let n = map-which (λ (k : NamedNode). k.0) named_nodes q (named-tells q (map (λ (k : NamedNode). k.0) named_nodes) is) in
      sym (named-in_order q (stale_names s m)) ∙ ap (λ k. is_named k landing.stale) (sym n.2) ∙ filter-passes (λ (k : NamedNode). is_named k.0 landing.stale) s.nodes n.0 n.1)
      (λ is.
      let there : is_named q landing.stale ≡ true = named-in_order q (stale_names s m) ∙ is in
      let known = (continues format.Two s m sound keys own_keys last).stale_known in
      let n = map-which (λ (k : NamedNode). k.0) s.nodes q (named-tells q (map (λ (k : NamedNode). k.0) s.nodes) (All-of _ landing.stale q known (named-tells q landing.stale there))) in
      named-so q (map (λ (k : NamedNode). k.0) named_nodes) (subst (Contains (map (λ (k : NamedNode). k.0) named_nodes)) n.2
      (Contains-map (λ (k : NamedNode). k.0) named_nodes n.0 (Contains-filter (λ (k : NamedNode). is_named k.0 landing.stale) s.nodes n.0 n.1 (ap (λ k. is_named k landing.stale) n.2 ∙ there)))))

  names-marked : (ns : List NamedNode) → map (λ (n : NamedNode). n.0) (map (marked_node landing) ns) ≡ map (λ n. n.0) ns
  names-marked [] = refl
  names-marked (n ∷ ns) = ap₂ (λ k ks. k ∷ ks) (marked-name landing n) (names-marked ns)

  -- the nodes that went stale at the landing's version have just the names that it marks stale
  names-own : map (λ (n : NamedNode). n.0) (stale_nodes_at (s.head + 1) after) ≡ landing.stale
  names-own =
      ap (map (λ (n : NamedNode). n.0)) (filter-nodes_after_commit (is_stale (s.head + 1)) landing s.nodes (own-none (s.head + 1) (omega arith) landing.fresh)
      ∙ ap (map (marked_node landing)) (filter-same (λ n. is_stale (s.head + 1) (marked_node landing n)) (λ n. is_named n.0 landing.stale) s.nodes (All-each_element _ s.nodes stale-own)))
      ∙ names-marked named_nodes
      ∙ same_names (map (λ (n : NamedNode). n.0) named_nodes) (stale_names s m) (rising-filter (λ n. is_named n.0 landing.stale) s.nodes read.rises) named-both

  count-own : length (stale_nodes_at (s.head + 1) after) ≡ length landing.stale
  count-own = sym (length-map (stale_nodes_at (s.head + 1) after) (λ (n : NamedNode). n.0)) ∙ ap length names-own

  pub counts-landed : stale_counts (landed_on format.Two m s) ≡ stale_counts s ++ length landing.stale ∷ []
  counts-landed =
      let low = sound.floor_low in
      let k = s.head - s.floor in
      let own : s.floor + 1 + k ≡ s.head + 1 = omega arith in
      ap (λ n. map (λ w. length (stale_nodes_at w after)) (up_from (s.floor + 1) n)) (let e : s.head + 1 - s.floor ≡ suc k = omega arith in e)
      ∙ ap (map (λ w. length (stale_nodes_at w after))) (up_from-last (s.floor + 1) k)
      ∙ map-append (λ w. length (stale_nodes_at w after)) (up_from (s.floor + 1) k) ((s.floor + 1 + k) ∷ [])
      ∙ ap₂ (λ cs c. cs ++ c ∷ [])
      (counts-alike after s.nodes (up_from (s.floor + 1) k) (All-weaker (λ v. v < s.head + 1) _ (λ v high. count-stays v (omega arith)) (up_from (s.floor + 1) k) (up_from-high (s.floor + 1) k (s.head + 1) (omega arith))))
      (ap (λ w. length (stale_nodes_at w after)) own ∙ count-own)

-- ---- a later floor
module _ (floor : ℕ) (ns : List NamedNode) where
  above_both : (w k : ℕ) → floor < w → (nat_lt floor k && (k == w)) ≡ (k == w)
  above_both w k low = grind (arith, nat_tests)

  stale-floored : (w : ℕ) → floor < w → length (stale_nodes_at w (filter (λ n. nat_lt floor n.2) ns)) ≡ length (stale_nodes_at w ns)
  stale-floored w low = ap length (filter-filter (λ n. nat_lt floor n.2) (is_stale w) ns ∙ filter-alike (λ n. nat_lt floor n.2 && (n.2 == w)) (is_stale w) ns (λ n. above_both w n.2 low))

pub counts-floored : (s : Standing) (floor : ℕ) → s.floor ≤ floor → floor ≤ s.head → stale_counts (with_floor floor s) ≡ drop (floor - s.floor) (stale_counts s)
counts-floored s floor low high =
    let k = floor - s.floor in
    counts-alike (with_floor floor s).nodes s.nodes (up_from (floor + 1) (s.head - floor)) (All-weaker (λ v. floor + 1 ≤ v) _ (λ v up. stale-floored floor s.nodes v (omega arith)) (up_from (floor + 1) (s.head - floor)) (up_from-low (floor + 1) (s.head - floor) (floor + 1) (omega arith)))
    ∙ ap₂ (λ v n. map (λ w. length (stale_nodes_at w s.nodes)) (up_from v n)) (let e : floor + 1 ≡ s.floor + 1 + k = omega arith in e) (let e : s.head - floor ≡ s.head - s.floor - k = omega arith in e)
    ∙ ap (map (λ w. length (stale_nodes_at w s.nodes))) (sym (up_from-drop (s.floor + 1) (s.head - s.floor) k (omega arith)))
    ∙ sym (drop-map (λ w. length (stale_nodes_at w s.nodes)) k (up_from (s.floor + 1) (s.head - s.floor)))

-- ---- the nodes that a later floor drops
later_both : (b k : ℕ) → (nat_lt b k && nat_lt (b + 1) k) ≡ nat_lt (b + 1) k
later_both b k = grind (arith, nat_tests)

just_both : (b k : ℕ) → (nat_lt b k && not (nat_lt (b + 1) k)) ≡ (k == (b + 1))
just_both b k = grind (arith, nat_tests)

-- one version more
dropped-one : (b : ℕ) (ns : List NamedNode) → length (filter (λ n. nat_lt (b + 1) n.2) ns) + length (stale_nodes_at (b + 1) ns) ≡ length (filter (λ n. nat_lt b n.2) ns)
dropped-one b ns =
    let kept = filter (λ (n : NamedNode). nat_lt b n.2) ns in
    ap₂ (λ i j. i + j)
    (ap length (sym (filter-filter (λ n. nat_lt b n.2) (λ n. nat_lt (b + 1) n.2) ns ∙ filter-alike (λ n. nat_lt b n.2 && nat_lt (b + 1) n.2) (λ n. nat_lt (b + 1) n.2) ns (λ n. later_both b n.2))))
    (ap length (sym (filter-filter (λ n. nat_lt b n.2) (λ n. not (nat_lt (b + 1) n.2)) ns ∙ filter-alike (λ n. nat_lt b n.2 && not (nat_lt (b + 1) n.2)) (is_stale (b + 1)) ns (λ n. just_both b n.2))))
    ∙ length-filter_both (λ n. nat_lt (b + 1) n.2) (λ n. not (nat_lt (b + 1) n.2)) (λ n. refl) kept

dropped : (b k : ℕ) (ns : List NamedNode) → length (filter (λ n. nat_lt (b + k) n.2) ns) + sum (map (λ w. length (stale_nodes_at w ns)) (up_from (b + 1) k)) ≡ length (filter (λ n. nat_lt b n.2) ns)
dropped b zero ns =
    (let e : length (filter (λ n. nat_lt (b + 0) n.2) ns) + 0 ≡ length (filter (λ n. nat_lt (b + 0) n.2) ns) = omega arith in e)
    ∙ ap (λ v. length (filter (λ n. nat_lt v n.2) ns)) (let e : b + 0 ≡ b = omega arith in e)
dropped b (suc k) ns =
    let rest = dropped b k ns in
    let one = dropped-one (b + k) ns in
    let more : sum (map (λ w. length (stale_nodes_at w ns)) (up_from (b + 1) (suc k))) ≡ sum (map (λ w. length (stale_nodes_at w ns)) (up_from (b + 1) k)) + length (stale_nodes_at (b + 1 + k) ns) =
    ap (λ vs. sum (map (λ w. length (stale_nodes_at w ns)) vs)) (up_from-last (b + 1) k)
    ∙ ap sum (map-append (λ w. length (stale_nodes_at w ns)) (up_from (b + 1) k) ((b + 1 + k) ∷ []))
    ∙ sum_by-append (λ x. x) (map (λ w. length (stale_nodes_at w ns)) (up_from (b + 1) k)) (length (stale_nodes_at (b + 1 + k) ns) ∷ [])
    ∙ ap (λ n. sum (map (λ w. length (stale_nodes_at w ns)) (up_from (b + 1) k)) + n) (let e : 0 + length (stale_nodes_at (b + 1 + k) ns) ≡ length (stale_nodes_at (b + 1 + k) ns) = omega arith in e) in
    let here = ap (λ v. length (stale_nodes_at v ns)) (let e : b + 1 + k ≡ b + k + 1 = omega arith in e) in
    let there = ap (λ v. length (filter (λ n. nat_lt v n.2) ns)) (let e : b + suc k ≡ b + k + 1 = omega arith in e) in
    omega arith

-- a later floor drops as many nodes as went stale up to it
pub count-floored : (s : Standing) (floor : ℕ) → IsSound format.Two s → s.floor ≤ floor → floor ≤ s.head → length (with_floor floor s).nodes + sum (take (floor - s.floor) (stale_counts s)) ≡ length s.nodes
count-floored s floor sound low high =
    let k = floor - s.floor in
    ap₂ (λ v cs. length (filter (λ n. nat_lt v n.2) s.nodes) + sum cs) (let e : floor ≡ s.floor + k = omega arith in e)
    (take-map (λ w. length (stale_nodes_at w s.nodes)) k (up_from (s.floor + 1) (s.head - s.floor)) ∙ ap (map (λ w. length (stale_nodes_at w s.nodes))) (up_from-take (s.floor + 1) (s.head - s.floor) k (omega arith)))
    ∙ dropped s.floor k s.nodes
    ∙ ap length (filter_all (λ n. nat_lt s.floor n.2) s.nodes (All-by_place _ s.nodes (All-each_element _ s.nodes (λ n has. lt_so s.floor n.2 (since-high format.Two s sound n has)))))

-- ---- counts that are dropped one after another
pub sum-front : (xs : List ℕ) (k n : ℕ) → k ≤ n → sum (take k xs) ≤ sum (take n xs)
sum-front xs zero n h = omega arith
sum-front [] (suc k) zero h = absurd (omega arith)
sum-front [] (suc k) (suc n) h = omega arith
sum-front (x ∷ xs) (suc k) zero h = absurd (omega arith)
sum-front (x ∷ xs) (suc k) (suc n) h = omega (arith, sum_by-cons (λ y. y) x (take k xs), sum_by-cons (λ y. y) x (take n xs), sum-front xs k n (omega arith))

suc-plus_one : (j : ℕ) → suc j + 1 ≡ suc (j + 1)
suc-plus_one j = omega arith

pub sum-next : (xs : List ℕ) (k x : ℕ) (rest : List ℕ) → drop k xs ≡ x ∷ rest → sum (take (k + 1) xs) ≡ sum (take k xs) + x
sum-next [] zero x rest is = absurd (let e = ap length is in omega arith)
sum-next [] (suc k) x rest is = absurd (let e = ap length is in omega arith)
sum-next (y ∷ ys) zero x rest is = let same : y ≡ x = ap (λ (zs : List ℕ). slice_index_or zs 0 0) is in omega (arith, sum_by-cons (λ z. z) y [], same)
sum-next (y ∷ ys) (suc k) x rest is =
    ap (λ n. sum (take n (y ∷ ys))) (suc-plus_one k)
    ∙ omega (arith, sum_by-cons (λ z. z) y (take (k + 1) ys), sum_by-cons (λ z. z) y (take k ys), sum-next ys k x rest is)

pub sum-none : (xs : List ℕ) (k : ℕ) → length (drop k xs) ≡ 0 → sum (take (k + 1) xs) ≡ sum (take k xs)
sum-none [] zero none = refl
sum-none [] (suc k) none = ap (λ n. sum (take n [])) (suc-plus_one k)
sum-none (y ∷ ys) zero none = absurd (omega arith)
sum-none (y ∷ ys) (suc k) none =
    ap (λ n. sum (take n (y ∷ ys))) (suc-plus_one k)
    ∙ omega (arith, sum_by-cons (λ z. z) y (take (k + 1) ys), sum_by-cons (λ z. z) y (take k ys), sum-none ys k none)
