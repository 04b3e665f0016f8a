-- A directory of one snapshot alone has that snapshot's map as its one version.
use Rattle.std.specs.Prelude.{reverse}
use Rattle.std.proofs.Common.{◌≡◌, refl, sym, ◌∙◌, ap, ℕ, ◌+◌, ◌-◌, ◌≤◌, ◌<◌, ◌^◌, List, [], ◌∷◌, map, length, arith, true, Some, None, T}
use Rattle.std.specs.FinMap.{entries, len, is_sorted}
use Rattle.std.specs.FinMap as fin
use Rattle.jf_path.specs.Keys.{key_cmp}
use Rattle.jf_hash.specs.Maps.{map_of_entries}
use Rattle.jf_hash.specs.Roots.{root}
use Rattle.jf_hash.proofs.MapLaws.{map-from_entries}
use Rattle.jf_model.specs.Nodes.{Path, is_node, nodes}
use Rattle.jf_model.specs.Versions.{imported_versions}
use Rattle.jf_frame.specs.Logs.{appended_record}
use Rattle.jf_codec.specs.declared.format.Format.TheVariants as format
use Rattle.jf_payload.specs.Spelling.{checkpoint_kind, record_bytes}
use Rattle.jf_payload.specs.declared.records.Record.TheVariants as «record»
use Rattle.jf_node.specs.SnapshotValue.{SnapshotValue}
use Rattle.jf_node.specs.Snapshots.{snapshot_version_at, IsSnapshot}
use Rattle.jf_diff.specs.Landings.{version_in, version_or}
use Rattle.jf_standing.specs.Named.{NamedNode, not_stale, map_at}
use Rattle.jf_standing.specs.Standing.{Standing, versions_of, down_from}
use Rattle.jf_standing.specs.Sound.{IsSound}
use Rattle.jf_standing.specs.Next.{IsReadStanding}
use Rattle.jf_standing.specs.Building.{node_of, floor_standing, imported_standing, nodes_by_name}
use Rattle.jf_standing.proofs.ByName.{nodes-moved}
use Rattle.jf_standing.proofs.Floor.{floor-sound, map-floor}
use Rattle.jf_standing.proofs.Reordered.{moved-versions}
use Rattle.jf_dir.specs.Directories.{snapshot_standing, standing_by_name}
use Rattle.jf_dir.proofs.Held.{nodes-alike}
use Rattle.jf_engine.specs.Imported.{IsImported}
use Rattle.jf_engine.specs.Kept.{checkpoint_at_start}
use Rattle.jf_engine.proofs.Records.{nodes-ordered}

module _ (x : SnapshotValue) (snap : IsSnapshot x) (last : x.version < not_stale) (room : len x.map ≤ 2 ^ 63) where
  abbrev made : Standing
  made = floor_standing format.Two x.version x.version (root x.map ∷ []) x.map (version_in x)

  low : (p : Path) → is_node 0 p (entries x.map) ≡ true → version_in x p ≤ x.version
  low p node = elim (snapshot_version_at p x) as (λ o. snapshot_version_at p x ≡ o → version_or o ≤ x.version) [
    | None ↦ λ is. omega arith
    | Some v ↦ λ is. snap.newest p v is
  ] refl

  made-sound : IsSound format.Two made
  made-sound = floor-sound format.Two x.version x.version (root x.map ∷ []) x.map (version_in x) snap.map low last (omega arith) (omega arith) refl room (ap version_or snap.root)

  made-versions : versions_of made ≡ imported_versions x.version x.map
  made-versions =
      ap (λ ms. record { base = x.version; floor = x.version; head = x.version; roots = root x.map ∷ []; maps = ms })
      (ap (λ n. map (λ w. map_at w made.nodes) (down_from x.version n)) (let e : x.version - x.version + 1 ≡ 1 = omega arith in e)
      ∙ ap (λ k. k ∷ []) (map-floor format.Two x.version x.version (root x.map ∷ []) x.map (version_in x) snap.map low last))

  begun-imported : versions_of (snapshot_standing x.version [] x) ≡ imported_versions x.version x.map
  begun-imported = moved-versions format.Two made (nodes_by_name made.nodes) made-sound (nodes-moved format.Two made made-sound) ∙ made-versions

-- ---- what is imported
-- the directory of the snapshot of entries holds the standing that is imported
pub imported-standing : (version : ℕ) (es : List (List ℕ × List ℕ)) (x : SnapshotValue) (d : Standing) → IsImported version es x → T (is_sorted key_cmp es) → d ≡ snapshot_standing version [] x
    → d ≡ standing_by_name (imported_standing format.Two version (map_of_entries es))
imported-standing version es x d imported sorted is =
    let same : x.map ≡ map_of_entries es = map-from_entries x.map (map_of_entries es) (imported.same ∙ sym (fin.entries-from_sorted key_cmp es sorted)) in
    is
    ∙ ap (λ (ns : List NamedNode). standing_by_name record { base = version; floor = x.version; head = x.version; roots = root x.map ∷ []; nodes = ns }) (nodes-alike x.map (version_in x) (λ path. version) imported.each)
    ∙ ap (λ v. standing_by_name record { base = version; floor = v; head = v; roots = root x.map ∷ []; nodes = map (node_of format.Two (λ path. version)) (nodes x.map) }) imported.version
    ∙ ap (λ m. standing_by_name (imported_standing format.Two version m)) same

-- a standing in the order of names has the checkpoint of the one that was put in order
pub ordered-checkpoint : (g : ℕ) (s t : Standing) → s ≡ standing_by_name t → IsReadStanding s → IsSound format.Two s → checkpoint_at_start g s ≡ checkpoint_at_start g t
ordered-checkpoint g s t is read sound =
    let same : nodes_by_name s.nodes ≡ nodes_by_name t.nodes = nodes-ordered s read sound ∙ ap (λ (z : Standing). z.nodes) is in
    λ i. appended_record 0 (checkpoint_kind format.Two) (record_bytes format.Two («record».Checkpoint g (is i).base (is i).floor (is i).head (reverse (is i).roots) (same i)))

-- the snapshot has as many entries as there are
pub imported-room : (version : ℕ) (es : List (List ℕ × List ℕ)) (x : SnapshotValue) → IsImported version es x → length es ≤ 2 ^ 62 → len x.map ≤ 2 ^ 63
imported-room version es x imported few = omega (arith, few, fin.len-entries x.map, ap length imported.same)

-- the directory of the snapshot of entries has that one version
pub versions-imported : (version : ℕ) (es : List (List ℕ × List ℕ)) (x : SnapshotValue) (d : Standing) → IsImported version es x → IsSnapshot x → T (is_sorted key_cmp es) → version ≤ 2 ^ 64 - 2 → length es ≤ 2 ^ 62
    → d ≡ snapshot_standing version [] x → versions_of d ≡ imported_versions version (map_of_entries es)
versions-imported version es x d imported snap sorted last few is =
    let same : x.map ≡ map_of_entries es = map-from_entries x.map (map_of_entries es) (imported.same ∙ sym (fin.entries-from_sorted key_cmp es sorted)) in
    let end : x.version < not_stale = omega (arith, last, imported.version) in
    ap versions_of (is ∙ ap (λ v. snapshot_standing v [] x) (sym imported.version)) ∙ begun-imported x snap end (imported-room version es x imported few)
    ∙ ap (λ v. imported_versions v x.map) imported.version ∙ ap (imported_versions version) same
