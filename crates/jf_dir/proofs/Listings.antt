-- The nodes of a sound standing are those of its head, and those that each landing makes stale.
use Rattle.std.proofs.Common.{◌≡◌, inl, inr, ℕ, ◌+◌, ◌-◌, ◌<◌, ◌≤◌, true, false, cond, Option, Some, None, List, [], ◌∷◌, ◌++◌, map, length, Contains, refl, sym, ap, ap₂, ◌∙◌, subst, arith, is_eq, true≢false, append_assoc, Ordering, Less, Equal, Greater}
use Rattle.std.proofs.lemmas.Bool.{cases_lt}
use Rattle.std.proofs.lemmas.List.Elements.{Contains-append_cases}
use Rattle.std.specs.BTreeMap.{insert_entry}
use Rattle.std.specs.Cmp.{tied_itself}
use Rattle.std.specs.FinMap.{entries, find, put}
use Rattle.std.specs.FinMap.Entries.{by_order}
use Rattle.std.specs.Option.{is_some}
use Rattle.std.specs.Ordering.{match_ordering}
use Rattle.jf_path.proofs.FilterLaws.{Contains-filter, filter-Contains, filter-passes}
use Rattle.jf_path.proofs.ListLaws.{All-of, Contains-first, Contains-later, Contains-map}
use Rattle.jf_path.specs.NameLaws.{name_cmp_total}
use Rattle.jf_path.specs.Names.{name_cmp}
use Rattle.jf_path.specs.declared.name.NodeName.{NodeName}
use Rattle.jf_path.specs.declared.node.PlainNode.{PlainNode}
use Rattle.jf_path.proofs.NumberLaws.{number_tells, same_number}
use Rattle.jf_hash.specs.Maps.{IsMap}
use Rattle.jf_model.specs.Nodes.{Path, is_node, is_fresh, under, nodes, stale, plain_node}
use Rattle.jf_codec.specs.declared.format.Format.TheVariants as format
use Rattle.jf_walk.proofs.NodePaths.{IsPath-is_node}
use Rattle.jf_walk.proofs.NodesListed.{nodes-exact}
use Rattle.jf_node.specs.SnapshotValue.{SnapshotValue}
use Rattle.jf_node.specs.Snapshots.{IsSnapshot, snapshot_version_at}
use Rattle.jf_diff.specs.Gone.{IsLaterSnapshot, gone_node_in, gone_nodes}
use Rattle.jf_diff.specs.Landings.{version_in, version_or}
use Rattle.jf_standing.specs.Building.{apart, as_named, nodes_by_name}
use Rattle.jf_standing.specs.Named.{NamedNode, not_stale, is_alive, is_at, is_stale, alive_nodes_at, stale_nodes_at, map_at, version_at}
use Rattle.jf_standing.specs.Next.{IsReadStanding}
use Rattle.jf_standing.specs.Order.{by_name}
use Rattle.jf_standing.specs.Sound.{IsSound}
use Rattle.jf_standing.specs.Standing.{Standing}
use Rattle.jf_standing.proofs.Alive.{version-of, plain_node-same}
use Rattle.jf_standing.proofs.Checkpoints.{same-by_name}
use Rattle.jf_standing.proofs.Counts.{count-some, count-which}
use Rattle.jf_standing.proofs.Found.{test_so}
use Rattle.jf_standing.proofs.Freshness.{child-node, fresh-listed, fresh-node, listed-fresh, stale-node}
use Rattle.jf_standing.proofs.Leaves.{IsMap-map_at}
use Rattle.jf_standing.proofs.Lists.{Contains-cases, map-which, none_in_nothing, one-true}
use Rattle.jf_standing.proofs.Names.{find-by_name, same_name-exact, sorted-by_name}
use Rattle.jf_standing.proofs.OneStanding.{version-step}
use Rattle.jf_standing.proofs.Ordered.{Contains-find, find-Contains}
use Rattle.jf_standing.proofs.Sinces.{alive-so, alive-tells, since-high, version-low}
use Rattle.jf_standing.proofs.Stands.{stands}
use Rattle.jf_standing.proofs.Unique.{few-alive, one-name}
use Rattle.jf_standing.proofs.Unmoved.{alive-there, at-so, at-tells}
use Rattle.jf_dir.specs.Directories.{IsSnapshotAt}
use Rattle.jf_dir.specs.Listing.{AreListedTo}

-- ---- two lists
in_front : (xs ys : List NamedNode) (n : NamedNode) → Contains xs n → Contains (xs ++ ys) n
in_front [] ys n has = absurd (none_in_nothing n has)
in_front (x ∷ xs) ys n has = Contains-cases n x xs has (λ same. subst (Contains (x ∷ xs ++ ys)) same (Contains-first x (xs ++ ys))) (λ later. Contains-later n x (xs ++ ys) (in_front xs ys n later))

in_back : (xs ys : List NamedNode) (n : NamedNode) → Contains ys n → Contains (xs ++ ys) n
in_back [] ys n has = has
in_back (x ∷ xs) ys n has = Contains-later n x (xs ++ ys) (in_back xs ys n has)

-- ---- lists by name
-- what is in order was in the list
in_list : (es : List (NodeName × (PlainNode × ℕ))) (e : NodeName × (PlainNode × ℕ)) → Contains (by_name es) e → Contains es e
in_list es e has = find-Contains name_cmp name_cmp_total same_name-exact e.0 e.1 es (sym (find-by_name e.0 es) ∙ Contains-find name_cmp name_cmp_total same_name-exact (by_name es) e (sorted-by_name es) has)

-- some entry is found under the name of an element
is_found : (es : List (NodeName × (PlainNode × ℕ))) (e : NodeName × (PlainNode × ℕ)) → Contains es e → find name_cmp e.0 es ≡ None → ⊥
is_found [] e has none = none_in_nothing e has
is_found (f ∷ fs) e has none = Contains-cases e f fs has
    (λ same. absurd (let found : find name_cmp e.0 (f ∷ fs) ≡ Some f.1 = ap (λ g. cond (is_eq (name_cmp g.0 f.0)) (Some f.1) (find name_cmp g.0 fs)) (sym same) ∙ ap (λ b. cond b (Some f.1) (find name_cmp f.0 fs)) (ap is_eq (tied_itself name_cmp_total f.0)) in some_none f.1 (sym found ∙ none)))
    (λ later. elim (is_eq (name_cmp e.0 f.0)) as (λ b. cond b (Some f.1) (find name_cmp e.0 fs) ≡ None → ⊥) [
      | true ↦ λ is. some_none f.1 is
      | false ↦ λ is. is_found fs e later is
    ] none)
  where
    some_none : {A : Type 0} (x : A) → Some x ≡ None → ⊥
    some_none x is = absurd (cc)

module _ (s : Standing) (sound : IsSound format.Two s) where
  -- ---- one node
  -- a node alive at a version is the one that the snapshot of the version has at its path
  same_gone : (w : ℕ) (old : SnapshotValue) (p : Path) (z : NamedNode) → s.floor ≤ w → w ≤ s.head → IsSnapshotAt s w old → Contains s.nodes z → is_alive w z ≡ true → z.0.path ≡ p → is_node 0 p (entries old.map) ≡ true
      → z ≡ gone_node_in old z.2 (p, under 0 p (entries old.map))
  same_gone w old p z low high at stood alive there node =
      let here = Contains-filter (is_alive w) s.nodes z stood alive in
      let node' : is_node 0 p (entries (map_at w s.nodes)) ≡ true = subst (λ m. is_node 0 p (entries m) ≡ true) at.map node in
      let v : z.0.version ≡ version_in old p = sym (version-of w s.nodes p z (few-alive format.Two s sound w low high p) here there) ∙ sym (at.versions p node') in
      let plain : z.1 ≡ plain_node true (λ i. version_in old (p ++ i ∷ [])) (length p) (under 0 p (entries old.map)) =
      All-of _ (alive_nodes_at w s.nodes) z (sound.versions w low high).nodes here
      ∙ ap (λ q. plain_node true (λ i. version_at w s.nodes (q ++ i ∷ [])) (length q) (under 0 q (entries (map_at w s.nodes)))) there
      ∙ plain_node-same true (λ i. version_at w s.nodes (p ++ i ∷ [])) (λ i. version_in old (p ++ i ∷ [])) (length p) (under 0 p (entries (map_at w s.nodes))) (λ i some. sym (at.versions (p ++ i ∷ []) (child-node (entries (map_at w s.nodes)) p i node' some)))
      ∙ ap (λ m. plain_node true (λ i. version_in old (p ++ i ∷ [])) (length p) (under 0 p (entries m))) (sym at.map) in
      λ i. (record { version = v i; path = there i }, plain i, z.2)

  -- ---- what a landing makes stale
  module _ (w : ℕ) (old new : SnapshotValue) (low : s.floor ≤ w) (high : w < s.head) (at : IsSnapshotAt s w old) (next : IsSnapshotAt s (w + 1) new) where
    stale_step : (p : Path) → is_fresh (entries (map_at (w + 1) s.nodes)) (entries (map_at (w + 1 - 1) s.nodes)) p ≡ is_fresh (entries new.map) (entries old.map) p
    stale_step p = ap₂ (λ a b. is_fresh (entries a) (entries b) p) (sym next.map) (ap (λ v. map_at v s.nodes) (let e : w + 1 - 1 ≡ w = omega arith in e) ∙ sym at.map)

    gone_own : (n : NamedNode) → Contains (gone_nodes old.map new.map old (w + 1)) n → Contains s.nodes n
    gone_own n has =
        let x = map-which (gone_node_in old (w + 1)) (stale old.map new.map) n has in
        let p = x.0.0 in
        let listed = listed-fresh new.map old.map x.0 x.1 in
        let step = sound.steps (w + 1) (omega arith) (omega arith) in
        let z = count-which (is_at p) (stale_nodes_at (w + 1) s.nodes) (omega (arith, step.stale p, one-true _ (stale_step p ∙ listed.0))) in
        let stood = filter-Contains (is_stale (w + 1)) s.nodes z.0 z.1 in
        let since : z.0.2 ≡ w + 1 = number_tells z.0.2 (w + 1) (filter-passes (is_stale (w + 1)) s.nodes z.0 z.1) in
        let alive : is_alive w z.0 ≡ true = subst (λ v. is_alive v z.0 ≡ true) (let e : w + 1 - 1 ≡ w = omega arith in e) (All-of _ (stale_nodes_at (w + 1) s.nodes) z.0 step.stood z.1) in
        let same = same_gone w old p z.0 low (omega arith) at stood alive (at-tells p z.0 z.2) (fresh-node (entries new.map) (entries old.map) p listed.0) in
        let is : z.0 ≡ n = same ∙ ap₂ (λ v part. gone_node_in old v (p, part)) since (sym listed.1) ∙ x.2 in
        subst (Contains s.nodes) is stood

    gone_all : IsReadStanding s → (n : NamedNode) → Contains s.nodes n → n.2 ≡ w + 1 → Contains (gone_nodes old.map new.map old (w + 1)) n
    gone_all read n has since =
        let p = n.0.path in
        let step = sound.steps (w + 1) (omega arith) (omega arith) in
        let went = Contains-filter (is_stale (w + 1)) s.nodes n has (same_number n.2 (w + 1) since) in
        let is_stale_there = sym (stale_step p) ∙ test_so _ _ (step.stale p) (count-some (is_at p) (stale_nodes_at (w + 1) s.nodes) n went (at-so p n refl)) in
        let alive : is_alive w n ≡ true = subst (λ v. is_alive v n ≡ true) (let e : w + 1 - 1 ≡ w = omega arith in e) (All-of _ (stale_nodes_at (w + 1) s.nodes) n step.stood went) in
        let keys : IsMap old.map = subst IsMap (sym at.map) (IsMap-map_at w s.nodes read.keys) in
        let same = same_gone w old p n low (omega arith) at has alive refl (fresh-node (entries new.map) (entries old.map) p is_stale_there) in
        subst (Contains (gone_nodes old.map new.map old (w + 1))) (sym (same ∙ ap (λ v. gone_node_in old v (p, under 0 p (entries old.map))) since))
        (Contains-map (gone_node_in old (w + 1)) (stale old.map new.map) (p, under 0 p (entries old.map)) (fresh-listed new.map old.map p keys is_stale_there))

    some_version : (o : Option ℕ) → is_some o ≡ true → o ≡ Some (version_or o)
    some_version None is = absurd (true≢false (sym is))
    some_version (Some v) is = refl

    -- the snapshot of the next version is a later one
    pub later-at : IsSnapshot old → IsSnapshot new → IsLaterSnapshot old new
    later-at old_snap new_snap = record {
      version = next.version ∙ ap (λ v. v + 1) (sym at.version);
      versions = λ p node.
          let node' : is_node 0 p (entries (map_at (w + 1) s.nodes)) ≡ true = subst (λ m. is_node 0 p (entries m) ≡ true) next.map node in
          some_version (snapshot_version_at p new) (new_snap.versioned p ∙ node)
          ∙ ap (λ v. Some v) (
          next.versions p node' ∙ version-step format.Two s sound (w + 1) (omega arith) (omega arith) p node'
          ∙ ap₂ (λ a b. cond (is_fresh (entries a) (entries b) p) (w + 1) (version_at (w + 1 - 1) s.nodes p)) (ap (λ v. map_at v s.nodes) (let e : w + 1 - 1 ≡ w = omega arith in e) ∙ sym at.map) (sym next.map))
          ∙ (elim (is_fresh (entries old.map) (entries new.map) p) as (λ b. is_fresh (entries old.map) (entries new.map) p ≡ b → Some (cond b (w + 1) (version_at (w + 1 - 1) s.nodes p)) ≡ cond b (Some new.version) (snapshot_version_at p old)) [
            | true ↦ λ is. ap (λ v. Some v) (sym next.version)
            | false ↦ λ is.
                let was = (stale-node (entries old.map) (entries new.map) p node is).0 in
                ap (λ v. Some v) (ap (λ v. version_at v s.nodes p) (let e : w + 1 - 1 ≡ w = omega arith in e) ∙ sym (at.versions p (subst (λ m. is_node 0 p (entries m) ≡ true) at.map was)))
                ∙ sym (some_version (snapshot_version_at p old) (old_snap.versioned p ∙ was))
          ] refl);
    }

    -- the nodes that one more landing made stale are listed
    pub listed-next : IsReadStanding s → (before after : List NamedNode) → AreListedTo s w before → after ≡ before ++ gone_nodes old.map new.map old new.version → AreListedTo s (w + 1) after
    listed-next read before after h made =
        let gone = gone_nodes old.map new.map old (w + 1) in
        let is : after ≡ before ++ gone = made ∙ ap (λ v. before ++ gone_nodes old.map new.map old v) next.version in
        record {
          own = λ n has. elim (Contains-append_cases before gone n (subst (λ ns. Contains ns n) is has)) [ inl early ↦ h.own n early | inr late ↦ gone_own n late ];
          all = λ n has which. subst (λ ns. Contains ns n) (sym is) (elim which [
            | inl none ↦ in_front before gone n (h.all n has (inl none))
            | inr upto ↦ elim (cases_lt w n.2) [
              | inl new_there ↦ in_back before gone n (gone_all read n has (omega arith))
              | inr early ↦ in_front before gone n (h.all n has (inr early))
            ]
          ]);
        }

  -- ---- the nodes of the head
  since_never : (n : NamedNode) → Contains s.nodes n → s.head < n.2 → n.2 ≡ not_stale
  since_never n has late = elim (All-of _ s.nodes n sound.gone has) [ inl none ↦ none | inr within ↦ absurd (let top = within.1 in omega arith) ]

  pub listed-head : (newest : SnapshotValue) (ns : List NamedNode) → IsReadStanding s → IsSnapshotAt s s.head newest → ns ≡ map (gone_node_in newest not_stale) (nodes newest.map) → AreListedTo s s.floor ns
  listed-head newest ns read at is =
      let low = sound.floor_low in
      let last = sound.head_last in
      record {
        own = λ n has.
            let x = map-which (gone_node_in newest not_stale) (nodes newest.map) n (subst (λ ms. Contains ms n) is has) in
            let p = x.0.0 in
            let exact = (nodes-exact newest.map x.0).0 x.1 in
            let z = alive-there format.Two s sound s.head low (omega arith) p (subst (λ m. is_node 0 p (entries m) ≡ true) at.map exact.2) in
            let stood = filter-Contains (is_alive s.head) s.nodes z.0 z.1 in
            let alive = filter-passes (is_alive s.head) s.nodes z.0 z.1 in
            let same = same_gone s.head newest p z.0 low (omega arith) at stood alive z.2 exact.2 in
            subst (Contains s.nodes) (same ∙ ap₂ (λ v part. gone_node_in newest v (p, part)) (since_never z.0 stood (alive-tells s.head z.0 alive).1) (sym exact.1) ∙ x.2) stood;
        all = λ n has which. elim which [
          | inl none ↦
              let p = n.0.path in
              let alive = alive-so s.head n (version-low format.Two s sound n has) (omega arith) in
              let node' = test_so _ _ (stands format.Two s sound s.head low (omega arith) p) (count-some (is_at p) (alive_nodes_at s.head s.nodes) n (Contains-filter (is_alive s.head) s.nodes n has alive) (at-so p n refl)) in
              let node = subst (λ m. is_node 0 p (entries m) ≡ true) (sym at.map) node' in
              let keys : IsMap newest.map = subst IsMap (sym at.map) (IsMap-map_at s.head s.nodes read.keys) in
              let same = same_gone s.head newest p n low (omega arith) at has alive refl node in
              subst (λ ms. Contains ms n) (sym is)
              (subst (Contains (map (gone_node_in newest not_stale) (nodes newest.map))) (sym (same ∙ ap (λ v. gone_node_in newest v (p, under 0 p (entries newest.map))) none))
              (Contains-map (gone_node_in newest not_stale) (nodes newest.map) (p, under 0 p (entries newest.map)) ((nodes-exact newest.map (p, under 0 p (entries newest.map))).1 (IsPath-is_node newest.map p keys node, refl, node))))
          | inr early ↦ absurd (let late = since-high format.Two s sound n has in omega arith)
        ];
      }

  -- ---- all nodes
  pub listed-all : (ns : List NamedNode) → IsReadStanding s → AreListedTo s s.head ns → nodes_by_name ns ≡ s.nodes
  listed-all ns read h = same-by_name ns s.nodes read.rises
      (λ n has.
      let e = map-which as_named (by_name (map apart ns)) n has in
      let k = map-which apart ns e.0 (in_list (map apart ns) e.0 e.1) in
      subst (Contains s.nodes) (ap as_named k.2 ∙ e.2) (h.own k.0 k.1))
      (λ n has.
      let there = h.all n has (elim (All-of _ s.nodes n sound.gone has) [ inl none ↦ inl none | inr within ↦ inr within.1 ]) in
      let es = map apart ns in
      let found : find name_cmp n.0 es ≡ Some (n.1, n.2) = elim (find name_cmp n.0 es) as (λ o. find name_cmp n.0 es ≡ o → o ≡ Some (n.1, n.2)) [
        | None ↦ λ none. absurd (is_found es (apart n) (Contains-map apart ns n there) none)
        | Some v ↦ λ is.
            let k = map-which apart ns (n.0, v) (find-Contains name_cmp name_cmp_total same_name-exact n.0 v es is) in
            let named : k.0.0 ≡ n.0 = ap (λ (e : NodeName × (PlainNode × ℕ)). e.0) k.2 in
            let one = one-name format.Two s sound k.0 n (h.own k.0 k.1) has named in
            ap (λ x. Some x) (sym (ap (λ (e : NodeName × (PlainNode × ℕ)). e.1) k.2) ∙ ap (λ (m : NamedNode). (m.1, m.2)) one)
      ] refl in
      Contains-map as_named (by_name es) (apart n) (find-Contains name_cmp name_cmp_total same_name-exact n.0 (n.1, n.2) (by_name es) (find-by_name n.0 es ∙ found)))

-- ---- std's ordered map
choice_is : {X : Type 0} (o : Ordering) (x y z : X) → match_ordering o x y z ≡ by_order o x y z
choice_is Less x y z = refl
choice_is Equal x y z = refl
choice_is Greater x y z = refl

entry_put : (k : NodeName) (v : PlainNode × ℕ) (es : List (NodeName × (PlainNode × ℕ))) → insert_entry name_cmp es k v ≡ put name_cmp k v es
entry_put k v [] = refl
entry_put k v (e ∷ es) =
    choice_is (name_cmp k e.0) ((k, v) ∷ e ∷ es) ((e.0, v) ∷ es) (e ∷ insert_entry name_cmp es k v)
    ∙ ap (λ t. by_order (name_cmp k e.0) ((k, v) ∷ e ∷ es) ((e.0, v) ∷ es) (e ∷ t)) (entry_put k v es)

-- the last node of a list is put before those that came after it
pub put-last : (items before orig done : List NamedNode) (n : NamedNode) (es fs : List (NodeName × (PlainNode × ℕ))) → items ≡ before ++ n ∷ [] → items ++ done ≡ orig → es ≡ by_name (map apart done) → fs ≡ insert_entry name_cmp es n.0 (n.1, n.2)
    → (x : List NamedNode) × (before ++ x ≡ orig) × (fs ≡ by_name (map apart x))
put-last items before orig done n es fs is all so_far made = (n ∷ done, sym (append_assoc before (n ∷ []) done) ∙ ap (λ ns. ns ++ done) (sym is) ∙ all, made ∙ entry_put n.0 (n.1, n.2) es ∙ ap (put name_cmp n.0 (n.1, n.2)) so_far)
