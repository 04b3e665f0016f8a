-- What holds a standing after a landing, under a later floor, and after a landing is taken back.
use Rattle.std.specs.Prelude.{slice_index_or}
use Rattle.std.proofs.Common.{◌≡◌, ℕ, zero, suc, ◌+◌, ◌-◌, ◌<◌, ◌≤◌, ◌^◌, List, [], ◌∷◌, ◌++◌, map, filter, drop, length, sym, ap, ap₂, ◌∙◌, subst, arith, true}
use Rattle.std.proofs.lemmas.List.{reverse-append, length-map}
use Rattle.std.proofs.Common.{length-append}
use Rattle.std.specs.FinMap.{entries, len}
use Rattle.std.specs.List.{AllByRecursion}
use Rattle.jf_path.proofs.ListLaws.{All-append, all_drop}
use Rattle.jf_hash.specs.Maps.{Map, IsMap}
use Rattle.jf_model.specs.Nodes.{Path, is_node}
use Rattle.jf_model.proofs.VersionLaws.{root-IsKey}
use Rattle.jf_codec.specs.declared.format.Format.TheVariants as format
use Rattle.jf_node.specs.SnapshotValue.{SnapshotValue}
use Rattle.jf_node.specs.declared.update.Update.{Update}
use Rattle.jf_standing.specs.Named.{NamedNode, is_at, map_at, version_at}
use Rattle.jf_standing.specs.Standing.{Standing, with_floor, marked_node, unmarked_node}
use Rattle.jf_standing.specs.Sound.{IsSound}
use Rattle.jf_standing.specs.Landing.{landing_of}
use Rattle.jf_standing.specs.Building.{landed_on}
use Rattle.jf_standing.specs.Next.{IsReadStanding}
use Rattle.jf_standing.proofs.Contents.{version-placed}
use Rattle.jf_standing.proofs.Floors.{alive-floored, map-floored, floored}
use Rattle.jf_standing.proofs.Lands.{continues, lands, map-lands, map_own, version_own}
use Rattle.jf_standing.proofs.Leaves.{IsMap-map_at}
use Rattle.jf_standing.proofs.Nexts.{entries-nodes_after_commit, entries-floored}
use Rattle.jf_standing.proofs.Rising.{are_rising-after, are_rising-floored, landing-read}
use Rattle.jf_dir.specs.Directories.{IsSnapshotAt, IsLandingUpdate}
use Rattle.jf_dir.specs.Holding.{AreSnapshotsFrom, IsShortSnapshot, IsStandingHeld, stale_counts}

-- ---- snapshots of another standing
-- a snapshot of one standing is that of another with the same map and versions
pub snapshot-moved : (s t : Standing) (w : ℕ) (x : SnapshotValue) → map_at w t.nodes ≡ map_at w s.nodes → ((p : Path) → version_at w t.nodes p ≡ version_at w s.nodes p) → IsSnapshotAt s w x → IsSnapshotAt t w x
snapshot-moved s t w x same versions h = record {
  version = h.version;
  map = h.map ∙ sym same;
  versions = λ p node. h.versions p (ap (λ m. is_node 0 p (entries m)) (sym same) ∙ node) ∙ sym (versions p);
}

pub snapshots-moved : (s t : Standing) (w : ℕ) (xs : List SnapshotValue) → ((v : ℕ) → w ≤ v → v < w + length xs → (x : SnapshotValue) → IsSnapshotAt s v x → IsSnapshotAt t v x) → AreSnapshotsFrom s w xs → AreSnapshotsFrom t w xs
snapshots-moved s t w [] moves h = tt
snapshots-moved s t w (x ∷ xs) moves h = (moves w (omega arith) (omega arith) x h.0, snapshots-moved s t (w + 1) xs (λ v low high. moves v (omega arith) (omega arith)) h.1)

pub snapshots-append : (s : Standing) (w : ℕ) (xs : List SnapshotValue) (x : SnapshotValue) → AreSnapshotsFrom s w xs → IsSnapshotAt s (w + length xs) x → AreSnapshotsFrom s w (xs ++ x ∷ [])
snapshots-append s w [] x h k = (subst (λ v. IsSnapshotAt s v x) (let e : w + 0 ≡ w = omega arith in e) k, tt)
snapshots-append s w (y ∷ xs) x h k = (h.0, snapshots-append s (w + 1) xs x h.1 (subst (λ v. IsSnapshotAt s v x) (let e : w + suc (length xs) ≡ w + 1 + length xs = omega arith in e) k))

pub snapshots-front : (s : Standing) (w : ℕ) (xs : List SnapshotValue) (x : SnapshotValue) → AreSnapshotsFrom s w (xs ++ x ∷ []) → AreSnapshotsFrom s w xs
snapshots-front s w [] x h = tt
snapshots-front s w (y ∷ xs) x h = (h.0, snapshots-front s (w + 1) xs x h.1)

pub snapshots-drop : (s : Standing) (w k : ℕ) (xs : List SnapshotValue) → AreSnapshotsFrom s w xs → AreSnapshotsFrom s (w + k) (drop k xs)
snapshots-drop s w zero xs h = subst (λ v. AreSnapshotsFrom s v xs) (let e : w ≡ w + 0 = omega arith in e) h
snapshots-drop s w (suc k) [] h = tt
snapshots-drop s w (suc k) (x ∷ xs) h = subst (λ v. AreSnapshotsFrom s v (drop k xs)) (let e : w + 1 + k ≡ w + suc k = omega arith in e) (snapshots-drop s (w + 1) k xs h.1)

all_front : {X : Type 0} (P : X → Type 0) (xs : List X) (x : X) → AllByRecursion P (xs ++ x ∷ []) → AllByRecursion P xs
all_front P [] x h = tt
all_front P (y ∷ xs) x h = (h.0, all_front P xs x h.1)

length_drop : {X : Type 0} (k : ℕ) (xs : List X) → k ≤ length xs → length (drop k xs) + k ≡ length xs
length_drop zero xs low = omega arith
length_drop (suc k) [] low = absurd (omega arith)
length_drop (suc k) (x ∷ xs) low = let rest = length_drop k xs (omega arith) in omega arith

-- ---- a landing
pub nodes-landed : (s : Standing) (m : Map) → length (landed_on format.Two m s).nodes ≡ length s.nodes + length (landing_of format.Two s m).fresh
nodes-landed s m =
    length-append (map (marked_node (landing_of format.Two s m)) s.nodes) (map unmarked_node (landing_of format.Two s m).fresh)
    ∙ ap₂ (λ a b. a + b) (length-map s.nodes (marked_node (landing_of format.Two s m))) (length-map (landing_of format.Two s m).fresh unmarked_node)

module _ (s : Standing) (m : Map) (u : Update) (read : IsReadStanding s) (sound : IsSound format.Two s) (is_map : IsMap m) (room : len m ≤ 2 ^ 63) (landing : IsLandingUpdate s m u) where
  abbrev old_map : IsMap (map_at s.head s.nodes)
  old_map = IsMap-map_at s.head s.nodes read.keys

  pub landed-sound : IsSound format.Two (landed_on format.Two m s)
  landed-sound = lands format.Two s m sound old_map is_map landing.last room

  pub landed-read : IsReadStanding (landed_on format.Two m s)
  landed-read =
      let base = read.base_low in
      let low = read.floor_low in
      let each = read.root_each in
      let given = landing-read format.Two s m is_map in
      record {
        base_low = base;
        floor_low = omega arith;
        head_last = landing.last;
        root_each = omega arith;
        hashes = (root-IsKey m, read.hashes);
        keys = entries-nodes_after_commit s (landing_of format.Two s m) read.keys given.1;
        rises = are_rising-after format.Two s (landing_of format.Two s m) sound read.rises (continues format.Two s m sound old_map is_map landing.last) given.0;
      }

  -- the snapshots of earlier versions are those of the landing, and those of the landing are those of earlier versions
  pub snapshot-landed : (w : ℕ) → w ≤ s.head → (x : SnapshotValue) → IsSnapshotAt s w x → IsSnapshotAt (landed_on format.Two m s) w x
  snapshot-landed w high x h = snapshot-moved s (landed_on format.Two m s) w x (map_own format.Two s m sound old_map is_map landing.last w high) (λ p. version_own format.Two s m sound old_map is_map landing.last w p high) h

  pub snapshot-unlanded : (w : ℕ) → w ≤ s.head → (x : SnapshotValue) → IsSnapshotAt (landed_on format.Two m s) w x → IsSnapshotAt s w x
  snapshot-unlanded w high x h = snapshot-moved (landed_on format.Two m s) s w x (sym (map_own format.Two s m sound old_map is_map landing.last w high)) (λ p. sym (version_own format.Two s m sound old_map is_map landing.last w p high)) h

  pub snapshot-own : IsSnapshotAt (landed_on format.Two m s) (s.head + 1) u.snapshot
  snapshot-own =
      let new = map-lands format.Two s m sound old_map is_map landing.last in
      record {
        version = landing.version;
        map = landing.map ∙ sym new;
        versions = λ p node.
            let there : is_node 0 p (entries m) ≡ true = ap (λ k. is_node 0 p (entries k)) (sym new) ∙ node in
            landing.versions p there ∙ sym (version-placed format.Two s m sound old_map is_map landing.last p there);
      }

  -- what holds the standing after the landing
  pub held-landed : (b : ℕ) (rs : List (List ℕ)) (xs : List SnapshotValue) (cs cs' : List ℕ) (n n' : ℕ) → IsStandingHeld s b rs xs cs n → IsShortSnapshot u.snapshot → cs' ≡ stale_counts (landed_on format.Two m s) → n' ≡ n + length u.fresh
      → IsStandingHeld (landed_on format.Two m s) b (rs ++ u.root ∷ []) (xs ++ u.snapshot ∷ []) cs' n'
  held-landed b rs xs cs cs' n n' h short stale count =
      let long = h.long in
      record {
        read = landed-read;
        sound = landed-sound;
        base = h.base;
        rooted = ap₂ (λ r t. r ∷ t) (sym landing.root) h.rooted ∙ sym (reverse-append rs (u.root ∷ []));
        long = omega (arith, length-append xs (u.snapshot ∷ []));
        snapshots = snapshots-append (landed_on format.Two m s) s.floor xs u.snapshot
            (snapshots-moved s (landed_on format.Two m s) s.floor xs (λ v low high x is. snapshot-landed v (omega arith) x is) h.snapshots)
            (subst (λ v. IsSnapshotAt (landed_on format.Two m s) v u.snapshot) long snapshot-own);
        short = All-append IsShortSnapshot xs (u.snapshot ∷ []) h.short (short, tt);
        stale = stale;
        count = count ∙ ap₂ (λ a b. a + b) h.count (ap length landing.fresh) ∙ sym (nodes-landed s m);
      }

  -- what holds the standing before the landing
  pub held-unlanded : (b : ℕ) (rs : List (List ℕ)) (r : List ℕ) (xs : List SnapshotValue) (x : SnapshotValue) (cs cs' : List ℕ) (n n' : ℕ) → IsStandingHeld (landed_on format.Two m s) b (rs ++ r ∷ []) (xs ++ x ∷ []) cs n → cs' ≡ stale_counts s → n' + length u.fresh ≡ n
      → IsStandingHeld s b rs xs cs' n'
  held-unlanded b rs r xs x cs cs' n n' h stale count =
      let long = h.long in
      record {
        read = read;
        sound = sound;
        base = h.base;
        rooted = ap (drop 1) (h.rooted ∙ reverse-append rs (r ∷ []));
        long = omega (arith, length-append xs (x ∷ []));
        snapshots = snapshots-moved (landed_on format.Two m s) s s.floor xs (λ v low high y is. snapshot-unlanded v (omega (arith, length-append xs (x ∷ []))) y is) (snapshots-front (landed_on format.Two m s) s.floor xs x h.snapshots);
        short = all_front IsShortSnapshot xs x h.short;
        stale = stale;
        count = let all = h.count in let more = nodes-landed s m in let own = ap length landing.fresh in omega arith;
      }

-- ---- a later floor
module _ (s : Standing) (floor : ℕ) (low : s.floor ≤ floor) (high : floor ≤ s.head) where
  version_floored : (w : ℕ) (p : Path) → floor ≤ w → version_at w (with_floor floor s).nodes p ≡ version_at w s.nodes p
  version_floored w p late = ap (λ ns. slice_index_or (map (λ (n : NamedNode). n.0.version) (filter (is_at p) ns)) 0 0) (alive-floored floor w s late)

  pub floored-read : IsReadStanding s → IsReadStanding (with_floor floor s)
  floored-read read = record {
    base_low = let base = read.base_low in omega arith;
    floor_low = high;
    head_last = read.head_last;
    root_each = read.root_each;
    hashes = read.hashes;
    keys = entries-floored s floor read.keys;
    rises = are_rising-floored s floor read.rises;
  }

  -- what holds the standing under the later floor
  pub held-floored : (b : ℕ) (rs : List (List ℕ)) (xs : List SnapshotValue) (cs cs' : List ℕ) (n n' : ℕ) → IsStandingHeld s b rs xs cs n → cs' ≡ stale_counts (with_floor floor s) → n' ≡ length (with_floor floor s).nodes
      → IsStandingHeld (with_floor floor s) b rs (drop (floor - s.floor) xs) cs' n'
  held-floored b rs xs cs cs' n n' h stale count =
      let long = h.long in
      record {
        read = floored-read h.read;
        sound = floored format.Two s floor h.sound low high;
        base = h.base;
        rooted = h.rooted;
        long = omega (arith, length_drop (floor - s.floor) xs (omega arith));
        snapshots = subst (λ v. AreSnapshotsFrom (with_floor floor s) v (drop (floor - s.floor) xs)) (let e : s.floor + (floor - s.floor) ≡ floor = omega arith in e)
            (snapshots-moved s (with_floor floor s) (s.floor + (floor - s.floor)) (drop (floor - s.floor) xs)
            (λ v up down x is. snapshot-moved s (with_floor floor s) v x (map-floored floor v s (omega arith)) (λ p. version_floored v p (omega arith)) is)
            (snapshots-drop s s.floor (floor - s.floor) xs h.snapshots));
        short = all_drop IsShortSnapshot (floor - s.floor) xs h.short;
        stale = stale;
        count = count;
      }
