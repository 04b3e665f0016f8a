-- The snapshot after one without entries.
use Rattle.std.specs.Prelude.{IfSome}
use Rattle.std.proofs.Common.{◌≡◌, refl, sym, ◌∙◌, ap, ap₂, ℕ, ◌+◌, ◌&&◌, List, [], ◌∷◌, cond, true, false, Some, None, Option, T, subst, length, ◌≤◌, if◌then◌else◌}
use Rattle.std.specs.FinMap.{entries, find, is_sorted}
use Rattle.std.specs.FinMap as fin
use Rattle.std.specs.FinMap.Entries.{below_all}
use Rattle.std.specs.List.{AllByRecursion}
use Rattle.std.specs.Option.{option_map}
use Rattle.std.specs.Ordering.{is_lt}
use Rattle.jf_path.specs.Keys.{key_cmp, IsKey, IsBytes}
use Rattle.jf_path.specs.Limits.{max_value}
use Rattle.jf_hash.specs.Maps.{map_of_entries, apply, same_key, IsBatch}
use Rattle.jf_hash.specs.Slots.{Part}
use Rattle.jf_hash.proofs.MapLaws.{same_map, get-apply-sorted, value_after}
use Rattle.jf_hash.proofs.RootLaws.{entries-empty}
use Rattle.jf_model.specs.Nodes.{Path, is_node, is_fresh}
use Rattle.jf_node.specs.SnapshotValue.{SnapshotValue}
use Rattle.jf_node.specs.Snapshots.{snapshot_version_at, snapshot_of}
use Rattle.jf_diff.specs.Landings.{version_or, IsNextSnapshot}
use Rattle.jf_update.specs.Outcomes.{AreShort}
use Rattle.jf_update.specs.Restored.{AreShortEntries}
use Rattle.jf_engine.specs.Imported.{IsImported, puts_of}

-- ---- the map of puts alone
below-puts : (k : List ℕ) (es : Part) → below_all key_cmp k (puts_of es) ≡ below_all key_cmp k es
below-puts k [] = refl
below-puts k (e ∷ es) = ap (λ b. is_lt (key_cmp k e.0) && b) (below-puts k es)

sorted-puts : (es : Part) → is_sorted key_cmp (puts_of es) ≡ is_sorted key_cmp es
sorted-puts [] = refl
sorted-puts (e ∷ es) = ap₂ (λ a b. a && b) (below-puts e.0 es) (sorted-puts es)

All-puts : (P : List ℕ × List ℕ → Type 0) (Q : List ℕ × Option (List ℕ) → Type 0) → ((e : List ℕ × List ℕ) → P e → Q (e.0, Some e.1)) → (es : Part) → AllByRecursion P es → AllByRecursion Q (puts_of es)
All-puts P Q f [] all = tt
All-puts P Q f (e ∷ es) all = (f e all.0, All-puts P Q f es all.1)

find-puts : (q : List ℕ) (es : Part) → find key_cmp q (puts_of es) ≡ option_map Some (find key_cmp q es)
find-puts q [] = refl
find-puts q (e ∷ es) =
    elim (same_key q e.0) as (λ b. cond b (Some (Some e.1)) (find key_cmp q (puts_of es)) ≡ option_map Some (cond b (Some e.1) (find key_cmp q es))) [ true ↦ refl | false ↦ find-puts q es ]

after-none : (o : Option (List ℕ)) → value_after (option_map Some o) None ≡ o
after-none None = refl
after-none (Some v) = refl

-- puts of entries over no entry make the map of these
entries-puts : (es : Part) → T (is_sorted key_cmp es) → entries (apply fin.empty (puts_of es)) ≡ es
entries-puts es sorted =
    ap entries (same_map (apply fin.empty (puts_of es)) (map_of_entries es) (λ q.
    get-apply-sorted fin.empty (puts_of es) q (subst T (sym (sorted-puts es)) sorted) ∙ ap (value_after (find key_cmp q (puts_of es))) (fin.get-empty key_cmp q)
    ∙ ap (λ o. value_after o None) (find-puts q es) ∙ after-none (find key_cmp q es) ∙ sym (fin.get-from_sorted key_cmp es q sorted)))
    ∙ fin.entries-from_sorted key_cmp es sorted

-- puts of entries that ascend are a batch
pub batch-puts : (es : Part) → T (is_sorted key_cmp es) → AllByRecursion (λ e. IsKey e.0 × IsBytes e.1) es → IsBatch (puts_of es)
batch-puts es sorted all = record {
  sorted = subst T (sym (sorted-puts es)) sorted;
  keys = All-puts (λ e. IsKey e.0 × IsBytes e.1) (λ e. IsKey e.0) (λ e h. h.0) es all;
  values = All-puts (λ e. IsKey e.0 × IsBytes e.1) (λ e. IfSome e.1 IsBytes) (λ e h. h.1) es all;
}

pub short-puts : (es : Part) → AreShortEntries es → AreShort (puts_of es)
short-puts es short = All-puts (λ e. length e.1 ≤ max_value) (λ e. IfSome e.1 (λ v. length v ≤ max_value)) (λ e h. h) es short

-- ---- the versions of the nodes
-- over no entry each node is fresh
fresh-over_none : (es : Part) (path : Path) → is_node 0 path es ≡ true → is_fresh [] es path ≡ true
unfolding is_fresh is_node
fresh-over_none es [] node = refl
fresh-over_none es (i ∷ p) node = ap (λ b. b && true) node

-- puts over a version without entries make the snapshot of these entries
pub imported-next : (before : ℕ) (es : Part) (s : SnapshotValue) → T (is_sorted key_cmp es) → IsNextSnapshot (snapshot_of before None) (puts_of es) s → IsImported (before + 1) es s
imported-next before es s sorted next = record {
  version = next.version;
  same = ap entries next.map ∙ entries-puts es sorted;
  each = λ path node.
      let new : Part = entries (apply fin.empty (puts_of es)) in
      let here : is_node 0 path new ≡ true = ap (λ m. is_node 0 path (entries m)) (sym next.map) ∙ node in
      ap version_or (next.versions path here ∙ ap (λ b. if b then Some (before + 1) else snapshot_version_at path (snapshot_of before None)) (ap (λ old. is_fresh old new path) entries-empty ∙ fresh-over_none new path here));
}
