-- What holds a standing, at each version.
use Rattle.std.specs.Prelude.{slice_index_or}
use Rattle.std.proofs.Common.{◌≡◌, ℕ, zero, suc, ◌+◌, ◌-◌, ◌<◌, ◌≤◌, List, [], ◌∷◌, length, sym, ap, ◌∙◌, subst, arith}
use Rattle.std.proofs.lemmas.List.{get_or-reverse, get_or_default, length-reverse}
use Rattle.std.specs.FinMap as fin
use Rattle.std.specs.FinMap.{entries}
use Rattle.std.specs.List.{AllByRecursion}
use Rattle.jf_path.specs.Limits.{max_value}
use Rattle.jf_path.proofs.ListLaws.{All-by_place}
use Rattle.jf_model.specs.Versions.{root_of}
use Rattle.jf_node.specs.SnapshotValue.{SnapshotValue}
use Rattle.jf_standing.specs.Named.{map_at}
use Rattle.jf_standing.specs.Standing.{Standing, versions_of}
use Rattle.jf_dir.specs.Directories.{IsSnapshotAt}
use Rattle.jf_dir.specs.Holding.{AreSnapshotsFrom, IsShortSnapshot, IsStandingHeld}

-- a snapshot of a list is that of its version
pub snapshot-at : (s : Standing) (w : ℕ) (xs : List SnapshotValue) (i : ℕ) (d : SnapshotValue) → i < length xs → AreSnapshotsFrom s w xs → IsSnapshotAt s (w + i) (slice_index_or xs i d)
snapshot-at s w [] i d lt h = absurd (omega arith)
snapshot-at s w (x ∷ xs) zero d lt h = subst (λ v. IsSnapshotAt s v x) (let e : w ≡ w + 0 = omega arith in e) h.0
snapshot-at s w (x ∷ xs) (suc i) d lt h = subst (λ v. IsSnapshotAt s v (slice_index_or xs i d)) (let e : w + 1 + i ≡ w + suc i = omega arith in e) (snapshot-at s (w + 1) xs i d (omega arith) h.1)

module _ (s : Standing) (b : ℕ) (rs : List (List ℕ)) (xs : List SnapshotValue) (cs : List ℕ) (n : ℕ) (h : IsStandingHeld s b rs xs cs n) where
  pub held-at : (w : ℕ) (x : SnapshotValue) → s.floor ≤ w → w - s.floor < length xs → x ≡ slice_index_or xs (w - s.floor) x → IsSnapshotAt s w x
  held-at w x low lt is =
      subst (λ v. IsSnapshotAt s v x) (let e : s.floor + (w - s.floor) ≡ w = omega arith in e)
      (subst (IsSnapshotAt s (s.floor + (w - s.floor))) (sym is) (snapshot-at s s.floor xs (w - s.floor) x lt h.snapshots))

  pub held-newest : (k : ℕ) (x : SnapshotValue) → k ≡ length xs → x ≡ slice_index_or xs (k - 1) x → IsSnapshotAt s s.head x
  held-newest k x full is =
      let long = h.long in
      let low = h.sound.floor_low in
      held-at s.head x low (omega arith) (is ∙ ap (λ i. slice_index_or xs i x) (let e : k - 1 ≡ s.head - s.floor = omega arith in e))

  pub held-short : (w : ℕ) → s.floor ≤ w → w ≤ s.head → AllByRecursion (λ (e : List ℕ × List ℕ). length e.1 ≤ max_value) (entries (map_at w s.nodes))
  held-short w low high =
      let long = h.long in
      let none : SnapshotValue = record { version = 0; map = fin.empty; versions = [] } in
      let at = snapshot-at s s.floor xs (w - s.floor) none (omega arith) h.snapshots in
      let short = All-by_place IsShortSnapshot xs h.short (w - s.floor) none (omega arith) in
      subst (λ v. AllByRecursion (λ (e : List ℕ × List ℕ). length e.1 ≤ max_value) (entries (map_at v s.nodes))) (let e : s.floor + (w - s.floor) ≡ w = omega arith in e)
      (subst (λ m. AllByRecursion (λ (e : List ℕ × List ℕ). length e.1 ≤ max_value) (entries m)) at.map short)

  pub held-root : (w : ℕ) (r : List ℕ) → b ≤ w → w - b < length rs → r ≡ slice_index_or rs (w - b) r → (w ≤ s.head) × (r ≡ root_of (versions_of s) w)
  held-root w r low lt is =
      let base = h.base in
      let each = h.read.root_each in
      let order = h.read.base_low in
      let order' = h.read.floor_low in
      let all : length rs ≡ s.head - s.base + 1 = sym (ap length h.rooted ∙ length-reverse rs) ∙ each in
      let back : length rs - 1 - (s.head - w) ≡ w - b = omega arith in (
        omega arith,
        is ∙ get_or_default rs (w - b) r [] lt ∙ ap (λ i. slice_index_or rs i []) (sym back) ∙ sym (get_or-reverse rs (s.head - w) [] (omega arith)) ∙ ap (λ (ts : List (List ℕ)). slice_index_or ts (s.head - w) []) (sym h.rooted),
      )
