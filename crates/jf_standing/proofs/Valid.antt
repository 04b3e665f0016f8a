-- All that a landing of a map writes has a spelling.
use Rattle.std.proofs.Common.{ℕ, ◌-◌, map, ◌+◌, ◌≤◌, ◌==◌, List, [], ◌∷◌, length, arith, ◌≡◌, ◌<◌, ◌^◌, not, true, cond, refl, sym, true≢false, ◌*◌, false, zero, suc, ◌++◌, ◌&&◌, Contains, ap, ap₂, ◌∙◌, Bool, filter, ◌||◌, subst}
use Rattle.std.specs.FinMap.{entries, len}
use Rattle.std.specs.FinMap as fin
use Rattle.std.specs.List.{AllByRecursion, flat_map, list_any}
use Rattle.jf_path.specs.Keys.{IsKey, IsBytes}
use Rattle.jf_path.specs.Nibbles.{nibble}
use Rattle.jf_path.specs.declared.children.Child.{Child}
use Rattle.jf_path.specs.Nodes.{ChildrenRiseFrom}
use Rattle.jf_path.specs.Names.{IsName}
use Rattle.jf_path.specs.declared.name.NodeName.{NodeName}
use Rattle.jf_path.specs.declared.node.PlainNode.{PlainNode}
use Rattle.jf_path.specs.declared.node.PlainNode.TheVariants as node
use Rattle.jf_path.proofs.FilterLaws.{length-filter_le, Contains-filter}
use Rattle.jf_path.proofs.ListLaws.{All-append, Contains-first, Contains-later, All-of}
use Rattle.jf_path.proofs.NumberLaws.{same_number, number_tells}
use Rattle.jf_hash.specs.Roots.{leaves_root, leaf_of, part_root}
use Rattle.jf_hash.specs.Slots.{Part, with_nibble, all_nibbles}
use Rattle.jf_hash.specs.Maps.{Map, IsMap}
use Rattle.jf_hash.proofs.RootLaws.{root_below-IsKey}
use Rattle.jf_model.specs.Nodes.{Path, under, has_two, has_one, child_in_node, plain_node, is_fresh, fresh, stale}
use Rattle.jf_model.specs.Walk.{each_from}
use Rattle.jf_model.proofs.VersionLaws.{root-IsKey}
use Rattle.jf_codec.specs.Spelling.{IsChild, IsCount, AreEnough, IsNode}
use Rattle.jf_codec.specs.declared.format.Format.{Format}
use Rattle.jf_codec.specs.declared.format.Format.TheVariants as format
use Rattle.jf_walk.proofs.PlainLaws.{plain_node-many}
use Rattle.jf_walk.proofs.NodePaths.{IsPath-is_node}
use Rattle.jf_standing.specs.Sound.{is_counted}
use Rattle.jf_standing.specs.Named.{version_at, not_stale}
use Rattle.jf_standing.specs.Standing.{Standing}
use Rattle.jf_standing.specs.Landing.{head_map, version_after, written_node, landing_of, name_at_head, stale_names}
use Rattle.jf_standing.proofs.Lists.{none_in_nothing, All-each_element, map-which}
use Rattle.jf_standing.proofs.Steps.{has_child, has_child-plain}
use Rattle.jf_standing.proofs.LeafPaths.{under-Contains}
use Rattle.jf_standing.proofs.Checkpoints.{version-at_most}
use Rattle.jf_standing.proofs.Freshness.{fresh-node, listed-fresh}
use Rattle.jf_standing.proofs.Names.{named-tells, named-so, named-in_order}

-- ---- hashes
pub part_root-IsKey : (d : ℕ) (es : Part) → IsKey (part_root d es)
unfolding part_root leaves_root
part_root-IsKey d es = root_below-IsKey (256 - d) d (map leaf_of es)

-- ---- children
length-under : (d : ℕ) (p : Path) (es : Part) → length (under d p es) ≤ length es
unfolding under
length-under d [] es = omega arith
length-under d (i ∷ p) es = omega (arith, length-under (d + 1) p (with_nibble d i es), length-filter_le (λ (e : List ℕ × List ℕ). nibble e.0 d == i) es)

module _ (fmt : Format) (version : ℕ → ℕ) (d : ℕ) (es : Part) (few : length es < 2 ^ 64) (versions : (i : ℕ) → version i < 2 ^ 64) where
  abbrev IsGood : Child → Type 0
  IsGood c = IsChild fmt c × (c.leaf ≡ not (has_two (with_nibble d c.nibble es)))

  counted : (fmt : Format) (part : Part) → length part < 2 ^ 64 → has_one part ≡ true → IsCount fmt (not (has_two part)) (cond (is_counted fmt) (length part) 0)
  counted format.One part short some = refl
  counted format.Two [] short some = absurd (true≢false (sym some))
  counted format.Two (e ∷ []) short some = (omega arith, omega arith, (λ is. refl, λ is. refl))
  counted format.Two (e ∷ f ∷ part) short some = (omega arith, short, (λ is. absurd (true≢false (sym is)), λ is. absurd (omega (arith, is))))

  child_good : (i : ℕ) → i < 16 → AllByRecursion IsGood (child_in_node (is_counted fmt) version d es i)
  child_good i small =
      let part = with_nibble d i es in
      let c : Child = record { nibble = i; version = version i; hash = part_root (4 * (d + 1)) part; leaf = not (has_two part); count = cond (is_counted fmt) (length part) 0 } in
      elim (has_one part) as (λ b. has_one part ≡ b → AllByRecursion IsGood (cond b (c ∷ []) [])) [
        | true ↦ λ some. ((record { nibble = small; version = versions i; hash = part_root-IsKey (4 * (d + 1)) part; count = counted fmt part (omega (arith, few, length-filter_le (λ (e : List ℕ × List ℕ). nibble e.0 d == i) es)) some }, refl), tt)
        | false ↦ λ none. tt
      ] refl

  children_good : (is : List ℕ) → AllByRecursion (λ i. i < 16) is → AllByRecursion IsGood (flat_map (child_in_node (is_counted fmt) version d es) is)
  children_good [] h = tt
  children_good (i ∷ is) h = All-append IsGood (child_in_node (is_counted fmt) version d es i) (flat_map (child_in_node (is_counted fmt) version d es) is) (child_good i h.0) (children_good is h.1)

  rise_each : (count n least : ℕ) → least ≤ n → ChildrenRiseFrom least (each_from count n (child_in_node (is_counted fmt) version d es))
  rise_each zero n least low = tt
  rise_each (suc count) n least low = elim (has_one (with_nibble d n es)) as (λ b. ChildrenRiseFrom least (cond b (record { nibble = n; version = version n; hash = part_root (4 * (d + 1)) (with_nibble d n es); leaf = not (has_two (with_nibble d n es)); count = cond (is_counted fmt) (length (with_nibble d n es)) 0 } ∷ []) [] ++ each_from count (n + 1) (child_in_node (is_counted fmt) version d es))) [
    | true ↦ (low, rise_each count (n + 1) (n + 1) (omega arith))
    | false ↦ rise_each count (n + 1) least (omega arith)
  ]

  -- each entry is below one of the children
  listed : (cs : List Child) → 2 ≤ length es → plain_node (is_counted fmt) version d es ≡ node.Inner cs → (e : List ℕ × List ℕ) → Contains es e → list_any (λ c. c.nibble == nibble e.0 d) cs ≡ true
  listed cs two is e has =
      ap (has_child (nibble e.0 d)) (sym is) ∙ has_child-plain (is_counted fmt) version d es (nibble e.0 d)
      ∙ ap₂ (λ a b. a && b) (has_two_so es two) (has_one_so (with_nibble d (nibble e.0 d) es) e (Contains-filter (λ (x : List ℕ × List ℕ). nibble x.0 d == nibble e.0 d) es e has (same_number (nibble e.0 d) (nibble e.0 d) refl)))
    where
      has_two_so : (es : Part) → 2 ≤ length es → has_two es ≡ true
      has_two_so [] two = absurd (omega arith)
      has_two_so (e ∷ []) two = absurd (omega arith)
      has_two_so (e ∷ f ∷ es) two = refl

      has_one_so : (es : Part) (e : List ℕ × List ℕ) → Contains es e → has_one es ≡ true
      has_one_so [] e has = absurd (none_in_nothing e has)
      has_one_so (f ∷ es) e has = refl

  all_pass : (test : List ℕ × List ℕ → Bool) (xs : Part) → ((e : List ℕ × List ℕ) → Contains xs e → test e ≡ true) → filter test xs ≡ xs
  all_pass test [] h = refl
  all_pass test (x ∷ xs) h = ap (λ b. cond b (x ∷ filter test xs) (filter test xs)) (h x (Contains-first x xs)) ∙ ap (λ t. x ∷ t) (all_pass test xs (λ e has. h e (Contains-later e x xs has)))

  enough : (cs : List Child) → 2 ≤ length es → plain_node (is_counted fmt) version d es ≡ node.Inner cs → AllByRecursion IsGood cs → AreEnough cs
  enough [] two is good = first es two (listed [] two is)
    where
      first : (xs : Part) → 2 ≤ length xs → ((e : List ℕ × List ℕ) → Contains xs e → false ≡ true) → ⊥
      first [] two h = omega arith
      first (x ∷ xs) two h = true≢false (sym (h x (Contains-first x xs)))
  enough (c ∷ []) two is good =
      good.0.1 ∙ ap (λ xs. not (has_two xs)) (all_pass (λ (e : List ℕ × List ℕ). nibble e.0 d == c.nibble) es (λ e has.
      let at = number_tells c.nibble (nibble e.0 d) (alone (c.nibble == nibble e.0 d) (listed (c ∷ []) two is e has)) in
      same_number (nibble e.0 d) c.nibble (sym at))) ∙ not_two es two
    where
      alone : (b : Bool) → (b || false) ≡ true → b ≡ true
      alone true h = refl
      alone false h = h

      not_two : (xs : Part) → 2 ≤ length xs → not (has_two xs) ≡ false
      not_two [] two = absurd (omega arith)
      not_two (x ∷ []) two = absurd (omega arith)
      not_two (x ∷ y ∷ xs) two = refl
  enough (c ∷ e ∷ cs) two is good = tt

  nibbles_small : AllByRecursion (λ i. i < 16) all_nibbles
  nibbles_small = (omega arith, (omega arith, (omega arith, (omega arith, (omega arith, (omega arith, (omega arith, (omega arith, (omega arith, (omega arith, (omega arith, (omega arith, (omega arith, (omega arith, (omega arith, (omega arith, tt))))))))))))))))

  only_children : (cs : List Child) → AllByRecursion IsGood cs → AllByRecursion (IsChild fmt) cs
  only_children [] h = tt
  only_children (c ∷ cs) h = (h.0.0, only_children cs h.1)

  inner_valid : 2 ≤ length es → IsNode fmt (plain_node (is_counted fmt) version d es)
  inner_valid two =
      let cs = each_from 16 0 (child_in_node (is_counted fmt) version d es) in
      let is = plain_node-many (is_counted fmt) version d es two in
      let good = children_good all_nibbles nibbles_small in
      subst (IsNode fmt) (sym is) (enough cs two is good, rise_each 16 0 0 (omega arith), only_children cs good)

-- ---- nodes
-- a node of a part whose keys and values are within the limits has a spelling
pub part-valid : (fmt : Format) (version : ℕ → ℕ) (d : ℕ) (es : Part) → length es < 2 ^ 64 → ((i : ℕ) → version i < 2 ^ 64) → AllByRecursion (λ (e : List ℕ × List ℕ). IsKey e.0 × IsBytes e.1 × (length e.1 ≤ 4096)) es → IsNode fmt (plain_node (is_counted fmt) version d es)
unfolding plain_node
part-valid fmt version d [] few versions all = tt
part-valid fmt version d (e ∷ []) few versions all = all.0
part-valid fmt version d (e ∷ f ∷ es) few versions all = inner_valid fmt version d (e ∷ f ∷ es) few versions (omega arith)

-- a node of a map whose keys and values are within the limits has a spelling
pub node-valid : (fmt : Format) (m : Map) (version : ℕ → ℕ) (p : Path) → AllByRecursion (λ (e : List ℕ × List ℕ). IsKey e.0 × IsBytes e.1 × (length e.1 ≤ 4096)) (entries m) → len m < 2 ^ 64 → ((i : ℕ) → version i < 2 ^ 64) → IsNode fmt (plain_node (is_counted fmt) version (length p) (under 0 p (entries m)))
node-valid fmt m version p all few versions =
    part-valid fmt version (length p) (under 0 p (entries m)) (omega (arith, length-under 0 p (entries m), fin.len-entries m)) versions (All-each_element _ (under 0 p (entries m)) (λ e has. All-of _ (entries m) e all (under-Contains 0 p (entries m) e has)))

-- ---- a landing
version_low : (s : Standing) (m : Map) (p : Path) → version_after s m p ≤ s.head + 1
version_low s m p = elim (is_fresh (entries (head_map s)) (entries m) p) as (λ b. cond b (s.head + 1) (version_at s.head s.nodes p) ≤ s.head + 1) [ true ↦ omega arith | false ↦ omega (arith, version-at_most s.head s.nodes p) ]

pub fresh-valid : (fmt : Format) (s : Standing) (m : Map) → IsMap m → AllByRecursion (λ (e : List ℕ × List ℕ). length e.1 ≤ 4096) (entries m) → len m ≤ 2 ^ 63 → s.head + 1 < not_stale → AllByRecursion (λ x. IsName x.0 × IsNode fmt x.1) (landing_of fmt s m).fresh
fresh-valid fmt s m sound short room last = All-each_element _ (landing_of fmt s m).fresh (λ y has.
    let x = map-which (written_node fmt s m) (fresh (head_map s) m) y has in
    let is = listed-fresh (head_map s) m x.0 x.1 in
    let p = x.0.0 in
    let node = fresh-node (entries (head_map s)) (entries m) p is.0 in
    let all = All-each_element (λ (e : List ℕ × List ℕ). IsKey e.0 × IsBytes e.1 × (length e.1 ≤ 4096)) (entries m) (λ e here. let k = All-of _ (entries m) e sound here in (k.0, k.1, All-of _ (entries m) e short here)) in
    subst (λ (z : NodeName × PlainNode). IsName z.0 × IsNode fmt z.1) x.2 (
      record { version = omega arith; path = IsPath-is_node m p sound node },
      subst (λ es. IsNode fmt (plain_node (is_counted fmt) (λ i. version_after s m (p ++ i ∷ [])) (length p) es)) (sym is.1) (node-valid fmt m (λ i. version_after s m (p ++ i ∷ [])) p all (omega arith) (λ i. omega (arith, version_low s m (p ++ i ∷ [])))),
    ))

pub stale-valid : (fmt : Format) (s : Standing) (m : Map) → IsMap (head_map s) → s.head + 1 < not_stale → AllByRecursion IsName (landing_of fmt s m).stale
stale-valid fmt s m keys last = All-each_element _ (landing_of fmt s m).stale (λ name has.
    let x = map-which (λ (x : Path × Part). name_at_head s x.0) (stale (head_map s) m) name (named-tells name (stale_names s m) (sym (named-in_order name (stale_names s m)) ∙ named-so name (landing_of fmt s m).stale has)) in
    let node = fresh-node (entries m) (entries (head_map s)) x.0.0 (listed-fresh m (head_map s) x.0 x.1).0 in
    subst IsName x.2 (record { version = omega (arith, version-at_most s.head s.nodes x.0.0); path = IsPath-is_node (head_map s) x.0.0 keys node }))

pub root-valid : (fmt : Format) (s : Standing) (m : Map) → IsKey (landing_of fmt s m).root
root-valid fmt s m = root-IsKey m
