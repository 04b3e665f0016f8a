-- A landing that was read is taken if it writes what is built anew, and it isn't sound otherwise.
use Rattle.std.proofs.Common.{◌≡◌, ◌+◌, ◌<◌, ◌≤◌, ◌^◌, true, sym, ap, ◌∙◌, subst}
use Rattle.std.specs.FinMap.{len, entries}
use Rattle.jf_hash.specs.Maps.{Map, IsMap, apply}
use Rattle.jf_model.specs.Nodes.{is_node}
use Rattle.jf_codec.specs.declared.format.Format.{Format}
use Rattle.jf_codec.specs.declared.format.Format.TheVariants as format
use Rattle.jf_payload.specs.declared.records.Commit.{Commit}
use Rattle.jf_payload.specs.Counted.{commit_in}
use Rattle.jf_standing.specs.Named.{not_stale, leaf_entries, AreEntries}
use Rattle.jf_standing.specs.Standing.{Standing, with_commit}
use Rattle.jf_standing.specs.Sound.{IsSound}
use Rattle.jf_standing.specs.Taking.{Continues}
use Rattle.jf_standing.specs.Landing.{head_map, landing_of, fresh_leaves, batch_of, IsInOrder}
use Rattle.jf_standing.specs.Building.{landed_on}
use Rattle.jf_standing.specs.FormatLaws.{standing_in}
use Rattle.jf_standing.proofs.Decided.{decided}
use Rattle.jf_standing.proofs.Formats.{sound_kept, leaves_kept, map_kept, version_kept, landing_kept, commit_kept}
use Rattle.jf_standing.proofs.Lands.{lands, continues}
use Rattle.jf_standing.proofs.Leaves.{IsMap-map_at}
use Rattle.jf_standing.proofs.Lists.{All-each_element}
use Rattle.jf_standing.specs.Same.{same_commit}
use Rattle.jf_standing.proofs.Same.{commit-exact}
use Rattle.jf_node.specs.declared.update.Update.{Update}
use Rattle.jf_dir.specs.Directories.{IsLandingUpdate, landing_written}
use Rattle.jf_replay.specs.Changes.{changes_of}
use Rattle.jf_replay.specs.Next.{read_map, MayBeNext, IsAsLanded, IsNameAtHead}
use Rattle.jf_replay.proofs.Read.{apply-changes_of, stale-at_head}

-- an update that a landing makes writes what the landing writes
pub landing_written-is : (s : Standing) (m : Map) (u : Update) → IsLandingUpdate s m u → landing_written u ≡ landing_of format.Two s m
landing_written-is s m u is = λ i. record { version = is.version i; root = is.root i; fresh = is.fresh i; stale = is.stale i }

module _ (fmt : Format) (s : Standing) (sound : IsSound format.Two s) (keys : AreEntries (leaf_entries s.nodes)) where
  kept_sound : IsSound fmt (standing_in fmt s)
  kept_sound = sound_kept fmt s sound

  kept_keys : AreEntries (leaf_entries (standing_in fmt s).nodes)
  kept_keys = subst AreEntries (sym (leaves_kept fmt s.nodes)) keys

  kept_map : head_map (standing_in fmt s) ≡ head_map s
  kept_map = map_kept fmt s.head s.nodes

  -- a landing that writes what the landing of a map writes is taken, and makes what the format keeps of that landing
  pub taken : (m : Map) (c : Commit) → IsMap m → len m ≤ 2 ^ 63 → s.head + 1 < not_stale → c ≡ commit_in fmt (landing_of format.Two s m)
      → Continues (standing_in fmt s) c × IsSound fmt (with_commit c (standing_in fmt s)) × (standing_in fmt (landed_on format.Two m s) ≡ with_commit c (standing_in fmt s))
  taken m c own room last is =
      let old = standing_in fmt s in
      let old_map = IsMap-map_at old.head old.nodes kept_keys in
      subst (λ (d : Commit). Continues old d × IsSound fmt (with_commit d old) × (standing_in fmt (landed_on format.Two m s) ≡ with_commit d old)) (sym is) (
        subst (λ (d : Commit). Continues old d) (landing_kept fmt s m) (continues fmt old m kept_sound old_map own last),
        subst (λ (d : Commit). IsSound fmt (with_commit d old)) (landing_kept fmt s m) (lands fmt old m kept_sound old_map own last room),
        sym (commit_kept fmt s (landing_of format.Two s m)),
      )

  -- a landing that equals what the format keeps of an update is taken
  pub same-taken : (u : Update) (c : Commit) → IsLandingUpdate s u.snapshot.map u → IsMap u.snapshot.map → len u.snapshot.map ≤ 2 ^ 63 → same_commit c (commit_in fmt (landing_written u)) ≡ true
      → Continues (standing_in fmt s) c × IsSound fmt (with_commit c (standing_in fmt s)) × (standing_in fmt (landed_on format.Two u.snapshot.map s) ≡ with_commit c (standing_in fmt s))
  same-taken u c made own room same =
      taken u.snapshot.map c own room made.last ((commit-exact c (commit_in fmt (landing_written u))).0 same ∙ ap (commit_in fmt) (landing_written-is s u.snapshot.map u made))

  module _ (c : Commit) (own : AreEntries (fresh_leaves c)) (order : IsInOrder c) (goes : Continues (standing_in fmt s) c) (after : IsSound fmt (with_commit c (standing_in fmt s))) where
    same_read : read_map s c ≡ apply (head_map (standing_in fmt s)) (batch_of (standing_in fmt s) c)
    same_read = ap (λ h. apply h (changes_of h c)) (sym kept_map) ∙ apply-changes_of fmt (standing_in fmt s) c kept_sound goes after

    -- a sound landing may be the next
    pub sound-MayBeNext : MayBeNext s (fresh_leaves c) c.stale
    sound-MayBeNext =
        let is = (decided fmt (standing_in fmt s) c kept_sound kept_keys own order).0 (goes, after) in
        record {
          last = is.0;
          named = All-each_element (IsNameAtHead s) c.stale (λ name has.
              let at = stale-at_head fmt (standing_in fmt s) c kept_sound goes after name has in
              (subst (λ (h : Map). is_node 0 name.path (entries h) ≡ true) kept_map at.0, sym (version_kept fmt s.head s.nodes name.path) ∙ at.1));
          room = subst (λ (m : Map). len m ≤ 2 ^ 63) (sym same_read) is.1;
        }

    -- a sound landing writes what is built anew
    pub sound-IsAsLanded : IsAsLanded fmt s c
    sound-IsAsLanded =
        let is = (decided fmt (standing_in fmt s) c kept_sound kept_keys own order).0 (goes, after) in
        is.2 ∙ ap (landing_of fmt (standing_in fmt s)) (sym same_read) ∙ landing_kept fmt s (read_map s c)

    -- a sound landing equals what the format keeps of the update that is built anew
    pub sound-same : (u : Update) → IsLandingUpdate s (read_map s c) u → same_commit c (commit_in fmt (landing_written u)) ≡ true
    sound-same u made = (commit-exact c (commit_in fmt (landing_written u))).1 (sound-IsAsLanded ∙ ap (commit_in fmt) (sym (landing_written-is s (read_map s c) u made)))
