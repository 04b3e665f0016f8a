-- After a landing of a map on a sound standing, a node stands at exactly each path of the new map.
use Rattle.std.specs.Prelude.{bytes_eq}
use Rattle.std.proofs.Common.{◌≡◌, ℕ, zero, suc, ◌≤◌, Bool, true, false, refl, sym, arith, true≢false, ◌-◌, ap, ◌∙◌, is_eq, ◌+◌, List, [], ◌∷◌, map, ◌<◌, ◌&&◌, cond, inl, inr, Contains, ap₂, subst}
use Rattle.std.proofs.lemmas.Slice.Eq.{bytes_eq-Decides}
use Rattle.std.specs.Cmp.{tied_itself}
use Rattle.std.specs.Cmp.Lexicographic.{nat_list_cmp_total}
use Rattle.std.specs.FinMap.{entries}
use Rattle.std.specs.List.{count_by, AllByRecursion}
use Rattle.std.specs.Ordering.{eq_by_cmp}
use Rattle.jf_path.specs.Keys.{key_cmp}
use Rattle.jf_path.proofs.OrderLaws.{Equal-from_is_eq}
use Rattle.jf_path.proofs.ListLaws.{All-of}
use Rattle.jf_path.proofs.BoolLaws.{same_test}
use Rattle.jf_path.proofs.NumberLaws.{same_number, other_number}
use Rattle.jf_hash.specs.Maps.{Map, IsMap}
use Rattle.jf_hash.specs.Slots.{Part}
use Rattle.jf_hash.proofs.KeyOrder.{same_key-exact}
use Rattle.jf_model.specs.Nodes.{Path, under, is_fresh, fresh, is_node}
use Rattle.jf_codec.specs.declared.format.Format.{Format}
use Rattle.jf_payload.specs.declared.records.Commit.{Commit}
use Rattle.jf_walk.proofs.FreshOrder.{sorted-fresh}
use Rattle.jf_standing.specs.Standing.{Standing, marked_node, unmarked_node, is_named}
use Rattle.jf_standing.specs.Landing.{written_node, head_map, landing_of}
use Rattle.jf_standing.specs.Named.{not_stale, NamedNode, is_written, is_at, written_nodes_at, is_stale, is_alive, stale_nodes_at, alive_nodes_at}
use Rattle.jf_standing.specs.Sound.{IsSound, StandAt}
use Rattle.jf_standing.proofs.Lists.{one, All-each_element, one-true}
use Rattle.jf_standing.proofs.Counts.{count-same, count-some, count-which, count-none, count-append, count-filter, count-map}
use Rattle.jf_standing.proofs.Ordered.{count-sorted}
use Rattle.jf_standing.proofs.Freshness.{fresh-listed, listed-fresh, fresh-node}
use Rattle.jf_standing.proofs.Sinces.{version-low, version-before}
use Rattle.jf_standing.proofs.Marks.{marked-name, nodes_after_commit, alive-nodes_after_commit}
use Rattle.jf_standing.proofs.Stands.{stands, step-stands}
use Rattle.jf_standing.proofs.Unmoved.{at-tells}
use Rattle.jf_standing.proofs.Written.{names-stale, alive-still}
use Rattle.jf_standing.proofs.Found.{nodes_after_commit-cases}

-- ---- counts of paths that are written
pub count_is : (b : Bool) (n : ℕ) → n ≤ 1 → (b ≡ true → 1 ≤ n) → (1 ≤ n → b ≡ true) → n ≡ one b
count_is true n few up down = let some = up refl in omega arith
count_is false zero few up down = refl
count_is false (suc n) few up down = absurd (true≢false (sym (down (omega arith))))

pub same_path : (p q : Path) → bytes_eq q p ≡ eq_by_cmp key_cmp p q
same_path p q = same_test (bytes_eq q p) (eq_by_cmp key_cmp p q)
    (λ is. ap (λ r. is_eq (key_cmp p r)) ((bytes_eq-Decides q p).0 is) ∙ ap is_eq (tied_itself nat_list_cmp_total p))
    (λ is. (bytes_eq-Decides q p).1 (sym (same_key-exact p q (Equal-from_is_eq _ is))))

-- a landing writes one node at each path that is fresh
listed-count : (old new : Map) (p : Path) → IsMap new → count_by (λ (x : Path × Part). bytes_eq x.0 p) (fresh old new) ≡ one (is_fresh (entries old) (entries new) p)
listed-count old new p sound = count_is (is_fresh (entries old) (entries new) p) (count_by (λ (x : Path × Part). bytes_eq x.0 p) (fresh old new))
    (let sorted = count-sorted key_cmp nat_list_cmp_total same_key-exact p (fresh old new) (sorted-fresh old new) in
    omega (arith, sorted, count-same (λ (x : Path × Part). bytes_eq x.0 p) (λ (x : Path × Part). eq_by_cmp key_cmp p x.0) (fresh old new) (All-each_element _ (fresh old new) (λ x has. same_path p x.0))))
    (λ is. count-some (λ (x : Path × Part). bytes_eq x.0 p) (fresh old new) (p, under 0 p (entries new)) (fresh-listed old new p sound is) ((bytes_eq-Decides p p).1 refl))
    (λ some. let x = count-which (λ (x : Path × Part). bytes_eq x.0 p) (fresh old new) some in sym (ap (λ q. is_fresh (entries old) (entries new) q) ((bytes_eq-Decides x.0.0 p).0 x.2)) ∙ (listed-fresh old new x.0 x.1).0)

own_written : (fmt : Format) (s : Standing) (m : Map) (xs : List (Path × Part)) → AllByRecursion (λ x. x.0.version ≡ s.head + 1) (map (written_node fmt s m) xs)
own_written fmt s m [] = tt
own_written fmt s m (x ∷ xs) = (refl, own_written fmt s m xs)

pub fresh-own : (fmt : Format) (s : Standing) (m : Map) → AllByRecursion (λ x. x.0.version ≡ s.head + 1) (landing_of fmt s m).fresh
fresh-own fmt s m = own_written fmt s m (fresh (head_map s) m)

module _ (fmt : Format) (s : Standing) (m : Map) (sound : IsSound fmt s) (keys : IsMap (head_map s)) (own_keys : IsMap m) (last : s.head + 1 < not_stale) where
  abbrev pub landing : Commit
  landing = landing_of fmt s m

  -- ---- paths
  pub placed-fresh : StandAt (is_fresh (entries (head_map s)) (entries m)) (written_nodes_at (s.head + 1) (nodes_after_commit landing s.nodes))
  placed-fresh p =
      let test : NamedNode → Bool = λ n. is_written (s.head + 1) n && is_at p n in
      let old : count_by test (map (marked_node landing) s.nodes) ≡ 0 = count-map test (marked_node landing) s.nodes ∙ count-none (λ n. test (marked_node landing n)) s.nodes (All-each_element _ s.nodes (λ n has.
      ap (λ b. b && is_at p (marked_node landing n)) (other_number (marked_node landing n).0.version (s.head + 1) (λ is. let low = version-low fmt s sound n has in let v = ap (λ k. k.version) (marked-name landing n) in omega arith)))) in
      let new : count_by test (map unmarked_node landing.fresh) ≡ one (is_fresh (entries (head_map s)) (entries m) p) =
      count-map test unmarked_node landing.fresh
      ∙ count-map (λ x. test (unmarked_node x)) (written_node fmt s m) (fresh (head_map s) m)
      ∙ count-same (λ x. test (unmarked_node (written_node fmt s m x))) (λ (x : Path × Part). bytes_eq x.0 p) (fresh (head_map s) m) (All-each_element _ (fresh (head_map s) m) (λ x has. ap (λ b. b && bytes_eq x.0 p) (same_number (s.head + 1) (s.head + 1) refl)))
      ∙ listed-count (head_map s) m p own_keys in
      omega (arith, old, new, count-filter (is_at p) (is_written (s.head + 1)) (nodes_after_commit landing s.nodes), count-append test (map (marked_node landing) s.nodes) (map unmarked_node landing.fresh))

  stale_marked : (n : NamedNode) → Contains s.nodes n → is_stale (s.head + 1) (marked_node landing n) ≡ is_named n.0 landing.stale
  stale_marked n has = elim (is_named n.0 landing.stale) as (λ b. is_stale (s.head + 1) (cond b (n.0, n.1, s.head + 1) n) ≡ b) [
    | true ↦ same_number (s.head + 1) (s.head + 1) refl
    | false ↦ other_number n.2 (s.head + 1) (elim (All-of _ s.nodes n sound.gone has) [ inl none ↦ (λ is. omega arith) | inr late ↦ (λ is. let up = late.1 in omega arith) ])
  ]

  pub placed-stale : StandAt (is_fresh (entries m) (entries (head_map s))) (stale_nodes_at (s.head + 1) (nodes_after_commit landing s.nodes))
  placed-stale p =
      let test : NamedNode → Bool = λ n. is_stale (s.head + 1) n && is_at p n in
      let gone = is_fresh (entries m) (entries (head_map s)) p in
      let new : count_by test (map unmarked_node landing.fresh) ≡ 0 = count-map test unmarked_node landing.fresh ∙ count-none (λ x. test (unmarked_node x)) landing.fresh (All-each_element _ landing.fresh (λ x has. ap (λ b. b && is_at p (unmarked_node x)) (other_number not_stale (s.head + 1) (λ is. omega arith)))) in
      let old : count_by test (map (marked_node landing) s.nodes) ≡ count_by (λ n. gone && (is_alive s.head n && is_at p n)) s.nodes =
      count-map test (marked_node landing) s.nodes
      ∙ count-same (λ n. test (marked_node landing n)) (λ n. gone && (is_alive s.head n && is_at p n)) s.nodes (All-each_element _ s.nodes (λ n has.
      ap₂ (λ a b. a && b) (stale_marked n has ∙ names-stale fmt s m sound keys n has) (ap (λ k. bytes_eq k.path p) (marked-name landing n))
      ∙ swapped (is_alive s.head n) (is_at p n) (is_fresh (entries m) (entries (head_map s)) n.0.path) gone (λ at. ap (λ q. is_fresh (entries m) (entries (head_map s)) q) (at-tells p n at)))) in
      let there = stands fmt s sound s.head sound.floor_low (omega arith) p in
      let all = count-filter (is_at p) (is_alive s.head) s.nodes in
      let counted : count_by (λ n. gone && (is_alive s.head n && is_at p n)) s.nodes ≡ one gone = under_test gone (λ n. is_alive s.head n && is_at p n) s.nodes (λ is. sym all ∙ there ∙ one-true _ (fresh-node (entries m) (entries (head_map s)) p is)) in
      omega (arith, old, new, counted, count-filter (is_at p) (is_stale (s.head + 1)) (nodes_after_commit landing s.nodes), count-append test (map (marked_node landing) s.nodes) (map unmarked_node landing.fresh))
    where
      swapped : (a b x y : Bool) → (b ≡ true → x ≡ y) → ((a && x) && b) ≡ (y && (a && b))
      swapped true true x y same = (let e = same refl in elim x as (λ z. (z && true) ≡ z) [ true ↦ refl | false ↦ refl ]) ∙ same refl ∙ (elim y as (λ z. z ≡ (z && true)) [ true ↦ refl | false ↦ refl ])
      swapped true false x y same = (elim x as (λ z. (z && false) ≡ false) [ true ↦ refl | false ↦ refl ]) ∙ (elim y as (λ z. false ≡ (z && false)) [ true ↦ refl | false ↦ refl ])
      swapped false b x y same = elim y as (λ z. false ≡ (z && false)) [ true ↦ refl | false ↦ refl ]

      under_test : (b : Bool) (test : NamedNode → Bool) (ns : List NamedNode) → (b ≡ true → count_by test ns ≡ 1) → count_by (λ n. b && test n) ns ≡ one b
      under_test true test ns is = is refl
      under_test false test ns is = count-none (λ n. false) ns (All-each_element _ ns (λ n has. refl))

  after_before : AllByRecursion (λ n. n.0.version < n.2) (nodes_after_commit landing s.nodes)
  after_before = All-each_element _ (nodes_after_commit landing s.nodes) (λ n has. nodes_after_commit-cases landing s.nodes n has
      (λ k stood same. subst (λ (z : NamedNode). z.0.version < z.2) same (marked_before k stood))
      (λ x own same. subst (λ (z : NamedNode). z.0.version < z.2) same (let v = All-of (λ x. x.0.version ≡ s.head + 1) landing.fresh x (fresh-own fmt s m) own in omega arith)))
    where
      marked_before : (k : NamedNode) → Contains s.nodes k → (marked_node landing k).0.version < (marked_node landing k).2
      marked_before k stood = elim (is_named k.0 landing.stale) as (λ b. (cond b (k.0, k.1, s.head + 1) k).0.version < (cond b (k.0, k.1, s.head + 1) k).2) [
        | true ↦ let low = version-low fmt s sound k stood in omega arith
        | false ↦ version-before fmt s sound k stood
      ]

  pub still : (w : ℕ) → w ≤ s.head → AllByRecursion (λ n. is_alive w (marked_node landing n) ≡ is_alive w n) s.nodes
  still w low = All-each_element _ s.nodes (λ n has. alive-still fmt s m sound keys w low n has)

  -- at the head before, the nodes stand as they did
  stood_before : StandAt (λ p. is_node 0 p (entries (head_map s))) (alive_nodes_at (s.head + 1 - 1) (nodes_after_commit landing s.nodes))
  stood_before = subst (λ w. StandAt (λ p. is_node 0 p (entries (head_map s))) (alive_nodes_at w (nodes_after_commit landing s.nodes))) (let e : s.head ≡ s.head + 1 - 1 = omega arith in e)
      (λ p. ap (count_by (is_at p)) (alive-nodes_after_commit landing s.head s.nodes (omega arith) (fresh-own fmt s m) (still s.head (omega arith)))
      ∙ count-map (is_at p) (marked_node landing) (alive_nodes_at s.head s.nodes)
      ∙ count-same (λ n. is_at p (marked_node landing n)) (is_at p) (alive_nodes_at s.head s.nodes) (All-each_element _ (alive_nodes_at s.head s.nodes) (λ n has. ap (λ k. bytes_eq k.path p) (marked-name landing n)))
      ∙ stands fmt s sound s.head sound.floor_low (omega arith) p)

  -- after the landing the nodes stand as those of the new map
  pub placed : StandAt (λ p. is_node 0 p (entries m)) (alive_nodes_at (s.head + 1) (nodes_after_commit landing s.nodes))
  placed = step-stands (nodes_after_commit landing s.nodes) (s.head + 1) (entries (head_map s)) (entries m) (omega arith) after_before stood_before placed-fresh placed-stale
