-- What the directory holds after each call, and the standing that this makes.
use Rattle.std.proofs.Common.{◌≡◌, ℕ, zero, suc, ◌+◌, ◌-◌, ◌<◌, ◌≤◌, ◌^◌, List, [], ◌∷◌, ◌++◌, map, reverse, drop, take, length, refl, sym, ap, ap₂, ◌∙◌, subst, arith, None, true, take_at, length-append}
use Rattle.std.proofs.lemmas.List.{length-reverse}
use Rattle.std.proofs.lemmas.List.Sorted.{Contains-permutation, IsPermutation-reverse, IsPermutation-sym}
use Rattle.std.specs.FinMap.{len, entries}
use Rattle.std.specs.FinMap as fin
use Rattle.std.specs.List.{AllByRecursion, sum}
use Rattle.jf_path.specs.Keys.{IsKey}
use Rattle.jf_path.specs.declared.node.PlainNode.TheVariants as node
use Rattle.jf_path.proofs.ListLaws.{All-of}
use Rattle.jf_hash.specs.Maps.{Map, IsMap}
use Rattle.jf_hash.specs.Roots.{root}
use Rattle.jf_hash.specs.Slots.{Part}
use Rattle.jf_hash.proofs.RootLaws.{entries-empty}
use Rattle.jf_model.specs.Nodes.{Path, nodes, plain_node, is_node}
use Rattle.jf_model.proofs.NodeLaws.{nodes-empty}
use Rattle.jf_model.proofs.VersionLaws.{root-IsKey}
use Rattle.jf_codec.specs.declared.format.Format.TheVariants as format
use Rattle.jf_node.specs.SnapshotValue.{SnapshotValue}
use Rattle.jf_node.specs.Snapshots.{snapshot_of, IsSnapshot}
use Rattle.jf_node.specs.declared.update.Update.{Update}
use Rattle.jf_diff.specs.Landings.{version_in}
use Rattle.jf_standing.specs.Named.{NamedNode, not_stale}
use Rattle.jf_standing.specs.Standing.{Standing, with_floor}
use Rattle.jf_standing.specs.Sound.{IsSound}
use Rattle.jf_standing.specs.Landing.{landing_of, version_after}
use Rattle.jf_standing.specs.Building.{landed_on, new_standing, node_of, nodes_by_name}
use Rattle.jf_standing.specs.Next.{IsReadStanding}
use Rattle.jf_standing.proofs.Contents.{version-placed}
use Rattle.jf_standing.proofs.Lands.{map-lands}
use Rattle.jf_standing.proofs.Leaves.{IsMap-map_at}
use Rattle.jf_standing.proofs.Lists.{All-each_element}
use Rattle.jf_dir.specs.Directories.{IsLandingUpdate, IsSnapshotAt, snapshot_standing}
use Rattle.jf_dir.specs.Holding.{standing_held, landing_update, stale_counts, IsStandingHeld}
use Rattle.jf_dir.proofs.Begins.{held-begun}
use Rattle.jf_dir.proofs.Held.{held-is}
use Rattle.jf_dir.proofs.Moves.{nodes-landed, held-landed, held-unlanded, held-floored}
use Rattle.jf_dir.proofs.StaleCounts.{counts-landed, counts-floored, count-floored}

-- what holds a standing holds the standing that it makes
pub held-again : (s : Standing) (b : ℕ) (rs : List (List ℕ)) (xs : List SnapshotValue) (cs : List ℕ) (n : ℕ) → IsStandingHeld s b rs xs cs n → IsStandingHeld (standing_held b rs xs) b rs xs cs n
held-again s b rs xs cs n h = subst (λ t. IsStandingHeld t b rs xs cs n) (sym (held-is s b rs xs cs n h)) h

last_apart : {X : Type 0} (xs : List X) (k : ℕ) → length xs ≡ suc k → (x : X) × (xs ≡ take k xs ++ x ∷ [])
last_apart [] k long = absurd (omega arith)
last_apart (x ∷ []) zero long = (x, refl)
last_apart (x ∷ y ∷ xs) zero long = absurd (omega arith)
last_apart (x ∷ xs) (suc k) long = let rest = last_apart xs k (omega arith) in (rest.0, ap (λ zs. x ∷ zs) rest.1)

-- the last element of a list that isn't empty, apart
pub popped : {X : Type 0} (old new : List X) (k : ℕ) → k ≡ length old → new ≡ take (k - 1) old → 0 < length old → (x : X) × (old ≡ new ++ x ∷ [])
popped old new k full is some =
    let cut = last_apart old (k - 1) (omega arith) in
    (cut.0, cut.1 ∙ ap (λ xs. xs ++ cut.0 ∷ []) (sym is))

-- ---- a landing
module _ (s : Standing) (b : ℕ) (rs : List (List ℕ)) (xs : List SnapshotValue) (cs : List ℕ) (n : ℕ) (h : IsStandingHeld s b rs xs cs n) (u : Update) (landing : IsLandingUpdate s u.snapshot.map u) (snap : IsSnapshot u.snapshot) (room : len u.snapshot.map ≤ 2 ^ 63) where
  pub push-landed : (rs' : List (List ℕ)) (xs' : List SnapshotValue) (x : SnapshotValue) (cs' : List ℕ) (n' count : ℕ) → rs' ≡ rs ++ u.root ∷ [] → xs' ≡ xs ++ x ∷ [] → x ≡ u.snapshot → cs' ≡ cs ++ count ∷ [] → count ≡ length u.stale → n' ≡ n + length u.fresh
      → IsStandingHeld (landed_on format.Two u.snapshot.map s) b rs' xs' cs' n'
  push-landed rs' xs' x cs' n' count rooted more own added counted all =
      let m = u.snapshot.map in
      let old = IsMap-map_at s.head s.nodes h.read.keys in
      let stale = added ∙ ap₂ (λ ds k. ds ++ k ∷ []) h.stale (counted ∙ ap length landing.stale) ∙ sym (counts-landed s m h.read h.sound old snap.map landing.last) in
      let held = held-landed s m u h.read h.sound snap.map room landing b rs xs cs cs' n n' h snap.short stale all in
      subst (λ ts. IsStandingHeld (landed_on format.Two m s) b ts xs' cs' n') (sym rooted)
      (subst (λ ys. IsStandingHeld (landed_on format.Two m s) b (rs ++ u.root ∷ []) ys cs' n') (ap (λ y. xs ++ y ∷ []) (sym own) ∙ sym more) held)

-- ---- a landing taken back
pub pop-unlanded : (s : Standing) (b : ℕ) (rs rs' : List (List ℕ)) (xs xs' : List SnapshotValue) (cs cs' : List ℕ) (n k j i count : ℕ) (u : Update) → IsReadStanding s → IsSound format.Two s → IsLandingUpdate s u.snapshot.map u → IsSnapshot u.snapshot
    → IsStandingHeld (landed_on format.Two u.snapshot.map s) b rs xs cs n → k ≡ length rs → rs' ≡ take (k - 1) rs → j ≡ length xs → xs' ≡ take (j - 1) xs → i ≡ length cs → cs' ≡ take (i - 1) cs → count ≡ length u.fresh → IsStandingHeld s b rs' xs' cs' (n - count)
pop-unlanded s b rs rs' xs xs' cs cs' n k j i count u read sound landing snap h rooted rs_are full xs_are counted cs_are number =
    let m = u.snapshot.map in
    let old = IsMap-map_at s.head s.nodes read.keys in
    let low = sound.floor_low in
    let room : len m ≤ 2 ^ 63 = subst (λ q. len q ≤ 2 ^ 63) (map-lands format.Two s m sound old snap.map landing.last) (h.sound.versions (s.head + 1) (omega arith) (omega arith)).room in
    let with_own = h.stale ∙ counts-landed s m read sound old snap.map landing.last in
    let own = length (landing_of format.Two s m).stale in
    let stale : cs' ≡ stale_counts s = cs_are ∙ ap (take (i - 1)) with_own ∙ take_at (stale_counts s) (own ∷ []) (i - 1) (omega (arith, counted, ap length with_own, length-append (stale_counts s) (own ∷ []))) in
    let all_roots : length rs ≡ suc (length s.roots) = sym (ap length h.rooted ∙ length-reverse rs) in
    let r = popped rs rs' k rooted rs_are (omega arith) in
    let long = h.long in
    let x = popped xs xs' j full xs_are (omega arith) in
    let held : IsStandingHeld (landed_on format.Two m s) b (rs' ++ r.0 ∷ []) (xs' ++ x.0 ∷ []) cs n = subst (λ ts. IsStandingHeld (landed_on format.Two m s) b ts (xs' ++ x.0 ∷ []) cs n) r.1 (subst (λ ys. IsStandingHeld (landed_on format.Two m s) b rs ys cs n) x.1 h) in
    let fewer : n - count + length u.fresh ≡ n = let all = h.count in let mine = ap length landing.fresh in let sum = nodes-landed s m in omega arith in
    held-unlanded s m u read sound snap.map room landing b rs' r.0 xs' x.0 cs cs' n (n - count) held stale fewer

-- the newest snapshot after a landing is that of the landing
pub newest-update : (s : Standing) (m : Map) (x : SnapshotValue) → IsReadStanding s → IsSound format.Two s → IsMap m → IsSound format.Two (landed_on format.Two m s) → IsSnapshotAt (landed_on format.Two m s) (s.head + 1) x → (x.map ≡ m) × IsLandingUpdate s x.map (landing_update s x)
newest-update s m x read sound own after at =
    let last = after.head_last in
    let old = IsMap-map_at s.head s.nodes read.keys in
    let lands = map-lands format.Two s m sound old own last in
    let same : x.map ≡ m = at.map ∙ lands in (
      same,
      record {
        last = last;
        map = refl;
        version = at.version;
        root = refl;
        fresh = refl;
        stale = refl;
        versions = λ p node.
            let node_m : is_node 0 p (entries m) ≡ true = subst (λ q. is_node 0 p (entries q) ≡ true) same node in
            at.versions p (subst (λ q. is_node 0 p (entries q) ≡ true) (sym lands) node_m) ∙ version-placed format.Two s m sound old own last p node_m ∙ ap (λ q. version_after s q p) (sym same);
      },
    )

-- ---- a later floor
-- no more nodes are dropped than there are
pub dropped-few : (s : Standing) (b : ℕ) (rs : List (List ℕ)) (xs : List SnapshotValue) (cs : List ℕ) (n floor dropped : ℕ) → IsStandingHeld s b rs xs cs n → s.floor ≤ floor → floor ≤ s.head → dropped ≡ floor - s.floor → sum (take dropped cs) ≤ n
dropped-few s b rs xs cs n floor dropped h low high at =
    let same = ap₂ (λ k ds. sum (take k ds)) at h.stale in
    let all = count-floored s floor h.sound low high in
    let full = h.count in
    omega arith

pub prune-held : (s : Standing) (b : ℕ) (rs : List (List ℕ)) (xs xs' : List SnapshotValue) (cs cs' : List ℕ) (n n' floor dropped : ℕ) → IsStandingHeld s b rs xs cs n → s.floor ≤ floor → floor ≤ s.head → xs' ≡ drop dropped xs → dropped ≡ floor - s.floor → cs' ≡ drop dropped cs → n' + sum (take dropped cs) ≡ n
    → IsStandingHeld (with_floor floor s) b rs xs' cs' n'
prune-held s b rs xs xs' cs cs' n n' floor dropped h low high rest at later left =
    let same = ap₂ (λ k ds. sum (take k ds)) at h.stale in
    let all = count-floored s floor h.sound low high in
    let full = h.count in
    subst (λ ys. IsStandingHeld (with_floor floor s) b rs ys cs' n') (ap (λ i. drop i xs) (sym at) ∙ sym rest)
    (held-floored s floor low high b rs xs cs cs' n n' h (later ∙ ap₂ drop at h.stale ∙ sym (counts-floored s floor low high)) (omega arith))

-- ---- one snapshot
pub begun-held : (base : ℕ) (earlier : List (List ℕ)) (x : SnapshotValue) (r : List ℕ) (rs : List (List ℕ)) (none xs : List SnapshotValue) (cs : List ℕ) (n : ℕ) → IsSnapshot x → AllByRecursion IsKey earlier → base + length earlier ≡ x.version → x.version < not_stale → len x.map ≤ 2 ^ 63
    → r ≡ root x.map → rs ≡ earlier ++ r ∷ [] → none ≡ [] → xs ≡ none ++ x ∷ [] → cs ≡ [] → n ≡ length (nodes x.map) → IsStandingHeld (snapshot_standing base earlier x) base rs xs cs n
begun-held base earlier x r rs none xs cs n snap keys numbered last room root_is rooted empty one nothing count =
    let hashes : AllByRecursion IsKey (root x.map ∷ reverse earlier) = (root-IsKey x.map, All-each_element IsKey (reverse earlier) (λ k has. All-of IsKey earlier k keys (Contains-permutation (reverse earlier) earlier k (IsPermutation-sym earlier (reverse earlier) (IsPermutation-reverse earlier)) has))) in
    let held = held-begun base earlier x snap hashes numbered last room n count in
    subst (λ ts. IsStandingHeld (snapshot_standing base earlier x) base ts xs cs n) (ap (λ k. earlier ++ k ∷ []) (sym root_is) ∙ sym rooted)
    (subst (λ ys. IsStandingHeld (snapshot_standing base earlier x) base (earlier ++ root x.map ∷ []) ys cs n) (ap (λ zs. zs ++ x ∷ []) (sym empty) ∙ sym one)
    (subst (λ ks. IsStandingHeld (snapshot_standing base earlier x) base (earlier ++ root x.map ∷ []) (x ∷ []) ks n) (sym nothing) held))

-- ---- the empty map
abbrev none_map : Map
none_map = fin.empty

pub len-empty_map : len none_map ≤ 2 ^ 63
len-empty_map = omega (arith, fin.len-entries none_map, ap length entries-empty)

one_node : (v w : Path → ℕ) → v [] ≡ w [] → nodes_by_name (map (node_of format.Two v) (([], []) ∷ [])) ≡ nodes_by_name (map (node_of format.Two w) (([], []) ∷ []))
unfolding plain_node
one_node v w same = ap (λ (k : ℕ). (record { version = k; path = [] }, node.Null, not_stale) ∷ []) same

begun-nodes : (v w : Path → ℕ) → v [] ≡ w [] → nodes_by_name (map (node_of format.Two v) (nodes fin.empty)) ≡ map (node_of format.Two w) (nodes fin.empty)
unfolding plain_node
begun-nodes v w same = ap (λ (ps : List (Path × Part)). nodes_by_name (map (node_of format.Two v) ps)) nodes-empty ∙ one_node v w same ∙ ap (map (node_of format.Two w)) (sym nodes-empty)

pub begun-new : snapshot_standing 0 [] (snapshot_of 0 None) ≡ new_standing format.Two
begun-new = ap (λ (ns : List NamedNode). record { base = 0; floor = 0; head = 0; roots = root fin.empty ∷ []; nodes = ns }) (begun-nodes (version_in (snapshot_of 0 None)) (λ path. 0) refl)
