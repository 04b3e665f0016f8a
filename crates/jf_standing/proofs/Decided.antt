-- A landing that was read is sound exactly if it is a landing of the batch that is read off it.
use Rattle.std.proofs.Common.{filter, ◌≡◌, sym, subst, ◌↔◌, ◌+◌, ◌<◌, ◌≤◌, ◌^◌, ap, ◌∙◌, arith}
use Rattle.std.specs.FinMap.{len}
use Rattle.jf_path.specs.Keys.{IsKey, IsBytes}
use Rattle.jf_path.proofs.ListLaws.{All-of}
use Rattle.jf_path.proofs.FilterLaws.{filter-Contains}
use Rattle.jf_hash.specs.Maps.{IsBatch, IsMap, apply}
use Rattle.jf_model.proofs.ChangeLaws.{IsMap-apply}
use Rattle.jf_codec.specs.declared.format.Format.{Format}
use Rattle.jf_payload.specs.declared.records.Commit.{Commit}
use Rattle.jf_standing.specs.Named.{leaf_entries, AreEntries, map_at, not_stale}
use Rattle.jf_standing.specs.Standing.{Standing, is_named, with_commit}
use Rattle.jf_standing.specs.Landing.{fresh_leaves, stale_leaves, batch_of, head_map, landing_of, IsInOrder}
use Rattle.jf_standing.specs.Sound.{IsSound}
use Rattle.jf_standing.specs.Taking.{Continues}
use Rattle.jf_standing.proofs.Lists.{All-each_element}
use Rattle.jf_standing.proofs.Leaves.{leaf-which, leaf-so, IsMap-map_at}
use Rattle.jf_standing.proofs.Batches.{by_key-IsBatch}
use Rattle.jf_standing.proofs.Landed.{landing-found}
use Rattle.jf_standing.proofs.ReadBack.{map-read}
use Rattle.jf_standing.proofs.Lands.{lands, continues}

-- what is read off a landing is a batch
pub read-IsBatch : (s : Standing) (c : Commit) → AreEntries (leaf_entries s.nodes) → AreEntries (fresh_leaves c) → IsBatch (batch_of s c)
read-IsBatch s c keys own_keys = by_key-IsBatch (fresh_leaves c) (stale_leaves s c) own_keys (All-each_element _ (stale_leaves s c) (λ e has.
    let n = leaf-which (filter (λ n. is_named n.0 c.stale) s.nodes) e has in
    All-of (λ f. IsKey f.0 × IsBytes f.1) (leaf_entries s.nodes) e keys (leaf-so s.nodes n.0 e (filter-Contains (λ n. is_named n.0 c.stale) s.nodes n.0 n.1) n.2)))

pub read-IsMap : (s : Standing) (c : Commit) → AreEntries (leaf_entries s.nodes) → AreEntries (fresh_leaves c) → IsMap (apply (head_map s) (batch_of s c))
read-IsMap s c keys own_keys = IsMap-apply (head_map s) (batch_of s c) (IsMap-map_at s.head s.nodes keys) (read-IsBatch s c keys own_keys)

-- a landing that leaves a sound standing is a landing of the map after it
pub found : (fmt : Format) (s : Standing) (c : Commit) → IsSound fmt s → AreEntries (leaf_entries s.nodes) → AreEntries (fresh_leaves c) → IsInOrder c → Continues s c → IsSound fmt (with_commit c s) → c ≡ landing_of fmt s (map_at c.version (with_commit c s).nodes)
found fmt s c sound keys own_keys order goes behind_sound =
    landing-found fmt s c sound goes behind_sound (IsMap-map_at s.head s.nodes keys) (subst IsMap (sym (map-read fmt s c sound goes behind_sound)) (read-IsMap s c keys own_keys)) order

-- a landing is sound exactly if it is a landing of the batch that is read off it
pub decided : (fmt : Format) (s : Standing) (c : Commit) → IsSound fmt s → AreEntries (leaf_entries s.nodes) → AreEntries (fresh_leaves c) → IsInOrder c
    → (Continues s c × IsSound fmt (with_commit c s)) ↔ ((s.head + 1 < not_stale) × (len (apply (head_map s) (batch_of s c)) ≤ 2 ^ 63) × (c ≡ landing_of fmt s (apply (head_map s) (batch_of s c))))
decided fmt s c sound keys own_keys order = (
  λ is.
      let read = map-read fmt s c sound is.0 is.1 in
      let read_map = read-IsMap s c keys own_keys in
      let next = is.0.next in
      let last = is.1.head_last in
      let low = sound.floor_low in (
        omega arith,
        subst (λ m. len m ≤ 2 ^ 63) read (is.1.versions c.version (omega arith) (omega arith)).room,
        landing-found fmt s c sound is.0 is.1 (IsMap-map_at s.head s.nodes keys) (subst IsMap (sym read) read_map) order ∙ ap (landing_of fmt s) read,
      ),
  λ is.
      let m = apply (head_map s) (batch_of s c) in
      let read_map = read-IsMap s c keys own_keys in
      let old_map = IsMap-map_at s.head s.nodes keys in
      subst (λ (d : Commit). Continues s d × IsSound fmt (with_commit d s)) (sym is.2) (continues fmt s m sound old_map read_map is.0, lands fmt s m sound old_map read_map is.0 is.1),
)
