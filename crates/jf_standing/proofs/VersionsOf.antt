-- The versions of a standing: they are sound, a landing adds one, and a later floor prunes them.
use Rattle.std.specs.Prelude.{slice_index_or}
use Rattle.std.proofs.Common.{◌≡◌, ℕ, zero, suc, ◌-◌, length, refl, ap, ◌+◌, ◌<◌, ◌≤◌, ◌∷◌, map, ap₂, arith, take, List, [], ◌∙◌, sym, ◌^◌}
use Rattle.std.proofs.lemmas.List.{length-map}
use Rattle.std.specs.FinMap.{len}
use Rattle.std.specs.FinMap as fin
use Rattle.std.specs.List.{AllByRecursion}
use Rattle.jf_path.specs.Keys.{IsKey}
use Rattle.jf_hash.specs.Maps.{Map, IsMap, Batch, apply, IsBatch}
use Rattle.jf_hash.specs.Roots.{root}
use Rattle.jf_model.specs.Versions.{IsVersions, newest, versions_after_landing, versions_from_floor}
use Rattle.jf_model.proofs.ChangeLaws.{IsMap-apply}
use Rattle.jf_codec.specs.declared.format.Format.{Format}
use Rattle.jf_payload.specs.declared.records.Commit.{Commit}
use Rattle.jf_standing.specs.Standing.{down_from, Standing, versions_of, with_commit, with_floor}
use Rattle.jf_standing.specs.Named.{leaf_entries, AreEntries, map_at, not_stale}
use Rattle.jf_standing.specs.Sound.{IsSound}
use Rattle.jf_standing.specs.Landing.{head_map, batch_of, landing_of}
use Rattle.jf_standing.specs.Taking.{Continues}
use Rattle.jf_standing.specs.Building.{landed_on}
use Rattle.jf_standing.proofs.Leaves.{IsMap-map_at}
use Rattle.jf_standing.proofs.Marks.{nodes_after_commit, map-nodes_after_commit}
use Rattle.jf_standing.proofs.Unmoved.{unmoved}
use Rattle.jf_standing.proofs.ReadBack.{map-read}
use Rattle.jf_standing.proofs.Lands.{lands, continues, map-lands}
use Rattle.jf_standing.proofs.Floors.{map-floored}

-- ---- versions from a head down
pub length-down : (h n : ℕ) → length (down_from h n) ≡ n
length-down h zero = refl
length-down h (suc n) = ap suc (length-down (h - 1) n)

module _ {X : Type 0} where
  -- two functions that agree on the versions give the same list
  pub same_down : (f g : ℕ → X) (h n : ℕ) → ((w : ℕ) → h < w + n → w ≤ h → f w ≡ g w) → map f (down_from h n) ≡ map g (down_from h n)
  same_down f g h zero same = refl
  same_down f g h (suc n) same = ap₂ (λ x xs. x ∷ xs) (same h (omega arith) (omega arith)) (same_down f g (h - 1) n (λ w low high. same w (omega arith) (omega arith)))

  pub take_down : (f : ℕ → X) (h k n : ℕ) → k ≤ n → take k (map f (down_from h n)) ≡ map f (down_from h k)
  take_down f h zero n low = refl
  take_down f h (suc k) zero low = absurd (omega arith)
  take_down f h (suc k) (suc n) low = ap (λ xs. f h ∷ xs) (take_down f (h - 1) k n (omega arith))

  pub all_down : (P : X → Type 0) (f : ℕ → X) (h n : ℕ) → ((w : ℕ) → P (f w)) → AllByRecursion P (map f (down_from h n))
  all_down P f h zero all = tt
  all_down P f h (suc n) all = (all h, all_down P f (h - 1) n all)

-- the first n roots are those of the maps
roots_down : (f : ℕ → Map) (rs : List (List ℕ)) (h n : ℕ) → n ≤ length rs → n ≤ h + 1 → ((w : ℕ) → h < w + n → w ≤ h → slice_index_or rs (h - w) [] ≡ root (f w)) → take n rs ≡ map root (map f (down_from h n))
roots_down f rs h zero long deep is = refl
roots_down f [] h (suc n) long deep is = absurd (omega arith)
roots_down f (r ∷ rs) h (suc n) long deep is =
    ap₂ (λ x xs. x ∷ xs) (ap (λ i. slice_index_or (r ∷ rs) i []) (let e : 0 ≡ h - h = omega arith in e) ∙ is h (omega arith) (omega arith))
    (roots_down f rs (h - 1) n (omega arith) (omega arith) (λ w low high. ap (λ i. slice_index_or (r ∷ rs) i []) (let e : suc (h - 1 - w) ≡ h - w = omega arith in e) ∙ is w (omega arith) (omega arith)))

-- ---- the versions of a standing
-- a sound standing has sound versions
pub sound-versions : (fmt : Format) (s : Standing) → IsSound fmt s → AreEntries (leaf_entries s.nodes) → AllByRecursion IsKey s.roots → IsVersions (versions_of s)
sound-versions fmt s sound keys hashes =
    let maps = map (λ w. map_at w s.nodes) (down_from s.head (s.head - s.floor + 1)) in
    let count : length maps ≡ s.head - s.floor + 1 = length-map (down_from s.head (s.head - s.floor + 1)) (λ w. map_at w s.nodes) ∙ length-down s.head (s.head - s.floor + 1) in
    let low = sound.floor_low in
    let base = sound.base_low in
    let each = sound.root_each in
    record {
      base_first = sound.base_low;
      floor_first = sound.floor_low;
      root_each = sound.root_each;
      map_each = count;
      rooted = ap (λ n. take n s.roots) count ∙ roots_down (λ w. map_at w s.nodes) s.roots s.head (s.head - s.floor + 1) (omega arith) (omega arith) (λ w up high. (sound.versions w (omega arith) high).rooted);
      hashes = hashes;
      sound = all_down IsMap (λ w. map_at w s.nodes) s.head (s.head - s.floor + 1) (λ w. IsMap-map_at w s.nodes keys);
    }

-- the newest map is that of the head
pub newest-head : (s : Standing) → newest (versions_of s) ≡ head_map s
newest-head s = ap (λ n. slice_index_or (map (λ w. map_at w s.nodes) (down_from s.head n)) 0 fin.empty) (let e : s.head - s.floor + 1 ≡ suc (s.head - s.floor) = omega arith in e)

-- a landing that leaves a sound standing adds one version, with the map after it
versions_after : (fmt : Format) (s : Standing) (c : Commit) (m : Map) → IsSound fmt s → Continues s c → IsSound fmt (with_commit c s) → map_at c.version (nodes_after_commit c s.nodes) ≡ m
    → versions_of (with_commit c s) ≡ record { base = s.base; floor = s.floor; head = s.head + 1; roots = root m ∷ s.roots; maps = m ∷ (versions_of s).maps }
versions_after fmt s c m sound goes behind_sound read =
    let next = goes.next in
    let low = sound.floor_low in
    let rooted : c.root ≡ root m = ap (λ i. slice_index_or (c.root ∷ s.roots) i []) (let e : 0 ≡ c.version - c.version = omega arith in e) ∙ (behind_sound.versions c.version (omega arith) (omega arith)).rooted ∙ ap root read in
    let count : c.version - s.floor + 1 ≡ suc (s.head - s.floor + 1) = omega arith in
    let down : c.version - 1 ≡ s.head = omega arith in
    let maps : map (λ w. map_at w (nodes_after_commit c s.nodes)) (down_from c.version (c.version - s.floor + 1)) ≡ m ∷ map (λ w. map_at w s.nodes) (down_from s.head (s.head - s.floor + 1)) =
    ap (λ n. map (λ w. map_at w (nodes_after_commit c s.nodes)) (down_from c.version n)) count
    ∙ ap₂ (λ k h. k ∷ map (λ w. map_at w (nodes_after_commit c s.nodes)) (down_from h (s.head - s.floor + 1))) read down
    ∙ ap (λ ms. m ∷ ms) (same_down (λ w. map_at w (nodes_after_commit c s.nodes)) (λ w. map_at w s.nodes) s.head (s.head - s.floor + 1) (λ w up high. map-nodes_after_commit c w s.nodes (omega arith) goes.fresh_own (unmoved fmt s c sound goes behind_sound w (omega arith) high))) in
    λ i. record { base = s.base; floor = s.floor; head = next i; roots = rooted i ∷ s.roots; maps = maps i }

landed_newest : (s : Standing) (b : Batch) → record { base = s.base; floor = s.floor; head = s.head + 1; roots = root (apply (head_map s) b) ∷ s.roots; maps = apply (head_map s) b ∷ (versions_of s).maps } ≡ versions_after_landing b (versions_of s)
landed_newest s b = ap (λ k. record { base = s.base; floor = s.floor; head = s.head + 1; roots = root (apply k b) ∷ s.roots; maps = apply k b ∷ (versions_of s).maps }) (sym (newest-head s))

-- a landing adds one version by the batch that is read off it
pub versions-landed : (fmt : Format) (s : Standing) (c : Commit) → IsSound fmt s → Continues s c → IsSound fmt (with_commit c s) → versions_of (with_commit c s) ≡ versions_after_landing (batch_of s c) (versions_of s)
versions-landed fmt s c sound goes behind_sound = versions_after fmt s c (apply (head_map s) (batch_of s c)) sound goes behind_sound (map-read fmt s c sound goes behind_sound) ∙ landed_newest s (batch_of s c)

-- a landing of a batch adds one version by that batch
pub batch-landed : (fmt : Format) (s : Standing) (b : Batch) → IsSound fmt s → AreEntries (leaf_entries s.nodes) → IsBatch b → len (apply (head_map s) b) ≤ 2 ^ 63 → s.head + 1 < not_stale
    → Continues s (landing_of fmt s (apply (head_map s) b)) × IsSound fmt (landed_on fmt (apply (head_map s) b) s) × (versions_of (landed_on fmt (apply (head_map s) b) s) ≡ versions_after_landing b (versions_of s))
batch-landed fmt s b sound keys batch room last =
    let m = apply (head_map s) b in
    let old = IsMap-map_at s.head s.nodes keys in
    let own_keys = IsMap-apply (head_map s) b old batch in
    let goes = continues fmt s m sound old own_keys last in
    let behind_sound = lands fmt s m sound old own_keys last room in
    (goes, behind_sound, versions_after fmt s (landing_of fmt s m) m sound goes behind_sound (map-lands fmt s m sound old own_keys last) ∙ landed_newest s b)

-- a later floor prunes the versions
pub versions-floored : (s : Standing) (f : ℕ) → s.floor ≤ f → f ≤ s.head → versions_of (with_floor f s) ≡ versions_from_floor f (versions_of s)
versions-floored s f rises within =
    ap (λ ms. record { base = s.base; floor = f; head = s.head; roots = s.roots; maps = ms })
    (same_down (λ w. map_at w (with_floor f s).nodes) (λ w. map_at w s.nodes) s.head (s.head - f + 1) (λ w low high. map-floored f w s (omega arith))
    ∙ sym (take_down (λ w. map_at w s.nodes) s.head (s.head - f + 1) (s.head - s.floor + 1) (omega arith)))
