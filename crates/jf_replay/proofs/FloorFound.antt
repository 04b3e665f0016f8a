-- What the tests on a floor say: it is started as it is listed, or the checkpoint isn't sound.
use Rattle.std.specs.Prelude.{slice_index_or, bytes_eq, not}
use Rattle.std.proofs.lemmas.Slice.Eq.{bytes_eq-Decides}
use Rattle.std.proofs.Common.{◌≡◌, ℕ, zero, suc, ◌+◌, ◌-◌, ◌<◌, ◌≤◌, ◌^◌, Bool, true, false, List, [], ◌∷◌, map, filter, length, take, drop, reverse, get_or, Contains, refl, sym, ap, ◌∙◌, subst, arith, inl, inr, true≢false, drop_at, take-suc}
use Rattle.std.proofs.lemmas.List.{reverse-append, length-reverse, take-append-drop}
use Rattle.std.specs.Cmp.Lexicographic.{pointwise}
use Rattle.std.specs.FinMap.{entries, len}
use Rattle.std.specs.List.{AllByRecursion, list_all}
use Rattle.jf_path.proofs.FilterLaws.{filter-Contains}
use Rattle.jf_path.proofs.ListLaws.{All-of}
use Rattle.jf_hash.specs.Roots.{root}
use Rattle.jf_model.specs.Nodes.{is_node}
use Rattle.jf_codec.specs.declared.format.Format.{Format}
use Rattle.jf_codec.specs.declared.format.Format.TheVariants as format
use Rattle.jf_node.specs.SnapshotValue.{SnapshotValue}
use Rattle.jf_node.specs.Snapshots.{IsSnapshot}
use Rattle.jf_standing.specs.Named.{NamedNode, not_stale, alive_nodes_at, map_at, version_at}
use Rattle.jf_standing.specs.Standing.{Standing}
use Rattle.jf_standing.specs.Sound.{IsSound}
use Rattle.jf_standing.specs.FormatLaws.{standing_in}
use Rattle.jf_standing.specs.Next.{IsReadStanding}
use Rattle.jf_standing.proofs.Lists.{All-each_element}
use Rattle.jf_update.specs.Restored.{IsRestored}
use Rattle.jf_diff.specs.Landings.{version_in}
use Rattle.jf_dir.specs.Directories.{snapshot_standing}
use Rattle.jf_replay.specs.Cuts.{has_numbers, is_written_by, named_by, standing_by, standing_listed}
use Rattle.jf_replay.specs.Floors.{AreFloorVersions, entries_in, versions_by_path, listed_in, same_listed}
use Rattle.jf_replay.proofs.FloorBuilt.{floor-nodes, begun-map, begun-versions, same_listed-exact, same_listed-refl}
use Rattle.jf_replay.proofs.FloorNodes.{alive-floor, floor-versions, restored-map, restored-versions}
use Rattle.jf_replay.proofs.Listed.{root-listed}
use Rattle.jf_replay.proofs.Numbered.{IsNumbered, all-numbered}

-- the roots up to a place, the other way round, are the last of all roots the other way round
roots-upto : (roots : List (List ℕ)) (k : ℕ) → k < length roots → slice_index_or roots k [] ∷ reverse (take k roots) ≡ drop (length roots - (k + 1)) (reverse roots)
roots-upto roots k lt =
    sym (ap reverse (take-suc roots k [] lt) ∙ reverse-append (take k roots) (get_or roots k [] ∷ []))
    ∙ sym (drop_at (reverse (drop (suc k) roots)) (reverse (take (suc k) roots)) (length roots - (k + 1)) (length-reverse (drop (suc k) roots) ∙ rest roots k lt))
    ∙ ap (drop (length roots - (k + 1))) (sym (reverse-append (take (suc k) roots) (drop (suc k) roots)) ∙ ap reverse (take-append-drop (suc k) roots))
  where
    rest : (xs : List (List ℕ)) (k : ℕ) → k < length xs → length (drop (suc k) xs) ≡ length xs - (k + 1)
    rest [] k lt = absurd (omega arith)
    rest (x ∷ xs) zero lt = omega arith
    rest (x ∷ xs) (suc k) lt = let e = rest xs k (omega arith) in omega (arith, e)

module _ (fmt : Format) (base floor head : ℕ) (roots : List (List ℕ)) (ns own : List NamedNode) (read : IsReadStanding (standing_listed base floor head roots ns)) (numbered : list_all (has_numbers floor head) ns ≡ true) (own_is : own ≡ filter (is_written_by floor) ns) where
  abbrev s : Standing
  s = standing_listed base floor head roots ns

  all : AllByRecursion (IsNumbered floor head) ns
  all = all-numbered floor head ns numbered

  alive_is : own ≡ alive_nodes_at floor ns
  alive_is = own_is ∙ alive-floor floor head ns all

  pub refused-versions : (AreFloorVersions floor own → ⊥) → IsSound fmt s → ⊥
  refused-versions refused sound = refused (floor-versions fmt s read sound own alive_is)

  module _ (x : SnapshotValue) (restored : IsRestored floor (entries_in own) (versions_by_path own) x) where
    pub refused-room : 2 ^ 63 < len x.map → IsSound fmt s → ⊥
    refused-room many sound = let few = subst (λ m. len m ≤ 2 ^ 63) (sym (restored-map fmt s read sound own alive_is x restored)) (sound.versions floor (omega arith) sound.floor_low).room in omega (arith, many, few)

    pub refused-root : (root x.map ≡ slice_index_or roots (floor - base) [] → ⊥) → IsSound fmt s → ⊥
    refused-root refused sound = refused (
        ap root (restored-map fmt s read sound own alive_is x restored)
        ∙ sym (sound.versions floor (omega arith) sound.floor_low).rooted
        ∙ root-listed roots base head floor read.root_each read.base_low read.floor_low)

    module _ (snapshot : IsSnapshot x) (room : len x.map ≤ 2 ^ 63) (d : Standing) (d_read : IsReadStanding d) (d_sound : IsSound format.Two d) (is : d ≡ snapshot_standing base (take (floor - base) roots) x) where
      long : base + length (take (floor - base) roots) ≡ x.version
      long = let low = read.base_low in let high = read.floor_low in let each = read.root_each in let v = restored.version in omega (arith, taken roots (floor - base) (omega (arith, length-reverse roots)))
        where
          taken : (xs : List (List ℕ)) (k : ℕ) → k ≤ length xs → length (take k xs) ≡ k
          taken xs zero le = refl
          taken [] (suc k) le = absurd (omega arith)
          taken (y ∷ ys) (suc k) le = ap suc (taken ys k (omega arith))

      last : x.version < not_stale
      last = let v = restored.version in let high = read.floor_low in let end = read.head_last in omega arith

      floor_is : d.floor ≡ floor
      floor_is = ap (λ (t : Standing). t.floor) is ∙ restored.version

      head_is : d.head ≡ floor
      head_is = ap (λ (t : Standing). t.head) is ∙ restored.version

      -- the directory of a sound checkpoint's floor has its nodes
      pub refused-nodes : pointwise same_listed own (map (listed_in fmt) d.nodes) ≡ false → IsSound fmt s → ⊥
      refused-nodes other sound =
          let m = restored-map fmt s read sound own alive_is x restored in
          let maps : map_at floor d.nodes ≡ x.map = ap (λ (t : Standing). map_at floor t.nodes) is ∙ subst (λ v. map_at v (snapshot_standing base (take (floor - base) roots) x).nodes ≡ x.map) restored.version (begun-map base (take (floor - base) roots) x snapshot long last room) in
          let same = floor-nodes fmt s read sound d d_read d_sound floor_is head_is (maps ∙ m) (λ p node.
          let here = ap (λ k. is_node 0 p (entries k)) m ∙ node in
          ap (λ (t : Standing). version_at floor t.nodes p) is
          ∙ subst (λ v. version_at v (snapshot_standing base (take (floor - base) roots) x).nodes p ≡ version_in x p) restored.version (begun-versions base (take (floor - base) roots) x snapshot long last room p here)
          ∙ restored-versions fmt s read sound own alive_is x restored p node) in
          true≢false (sym (ap (pointwise same_listed own) (same ∙ ap (map (named_by floor)) (sym own_is)) ∙ same_listed-refl floor own) ∙ other)

      live_never : AllByRecursion (λ n. n.2 ≡ not_stale) d.nodes
      live_never = All-each_element _ d.nodes (λ n has. elim (All-of _ d.nodes n d_sound.gone has) [ inl none ↦ none | inr late ↦ absurd (let low = late.0 in let high = late.1 in omega (arith, low, high, floor_is, head_is)) ])

      -- a directory with the listed nodes and root is the floor
      pub begun : root x.map ≡ slice_index_or roots (floor - base) [] → pointwise same_listed own (map (listed_in fmt) d.nodes) ≡ true → standing_in fmt d ≡ standing_by floor s
      begun rooted same =
          let late = All-each_element (λ (n : NamedNode). floor < n.2) own (λ n has. (All-of _ ns n all (filter-Contains (is_written_by floor) ns n (subst (λ xs. Contains xs n) own_is has))).kept) in
          let nodes = same_listed-exact fmt floor own d.nodes late live_never same ∙ ap (map (named_by floor)) own_is in
          let b : d.base ≡ base = ap (λ (t : Standing). t.base) is in
          let low = read.base_low in
          let high = read.floor_low in
          let each = read.root_each in
          let rs : d.roots ≡ drop (head - floor) (reverse roots) =
          ap (λ (t : Standing). t.roots) is ∙ ap (λ r. r ∷ reverse (take (floor - base) roots)) rooted ∙ roots-upto roots (floor - base) (omega (arith, length-reverse roots))
          ∙ ap (λ k. drop k (reverse roots)) (let e : length roots - (floor - base + 1) ≡ head - floor = omega (arith, length-reverse roots) in e) in
          λ i. record { base = b i; floor = floor_is i; head = head_is i; roots = rs i; nodes = nodes i }

-- equal hashes don't differ
pub no-difference : (a b : List ℕ) → a ≡ b → true ≡ not (bytes_eq a b) → ⊥
no-difference a b same differ = true≢false (differ ∙ ap not ((bytes_eq-Decides a b).1 same))

-- hashes that don't differ are equal
pub no-other : (a b : List ℕ) → false ≡ not (bytes_eq a b) → a ≡ b
no-other a b same = (bytes_eq-Decides a b).0 (at (bytes_eq a b) same)
  where
    at : (t : Bool) → false ≡ not t → t ≡ true
    at true is = refl
    at false is = absurd (true≢false (sym is))
