-- The map of a tree by its top.
use Rattle.std.proofs.Common.{◌≡◌, sym, ◌∙◌, ap, refl, subst, ℕ, List, ◌-◌, ◌<◌, false, [], ◌∷◌, arith, ◌≤◌, ◌+◌, ◌*◌}
use Rattle.std.specs.FinMap.{entries, find}
use Rattle.std.specs.FinMap as fin
use Rattle.std.specs.List.{AllByRecursion}
use Rattle.jf_path.specs.Keys.{key_cmp, bit, IsKey}
use Rattle.jf_hash.specs.Maps.{Map, IsMap, Batch, IsBatch, apply}
use Rattle.jf_hash.specs.Roots.{root, part_root}
use Rattle.jf_hash.proofs.MapLaws.{same_map}
use Rattle.jf_hash.proofs.SlotLaws.{keys_are_keys}
use Rattle.jf_hash.proofs.RootLaws.{root-part_root}
use Rattle.jf_model.specs.Changes.{entries_after_batch}
use Rattle.jf_model.proofs.ChangeLaws.{sorted-applied, all_keys-applied, entries-apply}
use Rattle.jf_node.specs.RangeValue.{RangeValue}
use Rattle.jf_spec.specs.Trees.{IsTree}
use Rattle.jf_spec.specs.Parts.{AreUnderOnePath}
use Rattle.jf_spec.specs.Costs.{most_steps}

-- a map is that of its entries
pub map_of : (m : Map) → fin.from_sorted (entries m) ≡ m
map_of m = same_map (fin.from_sorted (entries m)) m (λ q. fin.get-from_sorted key_cmp (entries m) q (fin.entries_sorted m) ∙ sym (fin.get-entries m q))

pub entries_of : (top : RangeValue) (m : Map) → fin.from_sorted top.entries ≡ m → IsTree top → entries m ≡ top.entries
entries_of top m seen tree = ap entries (sym seen) ∙ fin.entries-from_sorted key_cmp top.entries tree.sorted

-- the top of a map is a tree
pub tree_of_map : (top : RangeValue) (m : Map) → top ≡ record { depth = 0; entries = entries m } → IsMap m → IsTree top
tree_of_map top m is sound = subst IsTree (sym is) (record { depth = refl; sorted = fin.entries_sorted m; keys = keys_are_keys (entries m) sound })

pub map_of_top : (top : RangeValue) (m : Map) → top ≡ record { depth = 0; entries = entries m } → fin.from_sorted top.entries ≡ m
map_of_top top m is = ap (λ t. fin.from_sorted t.entries) is ∙ map_of m

pub get_top : (top : RangeValue) (m : Map) (key : List ℕ) → fin.from_sorted top.entries ≡ m → IsTree top → find key_cmp key top.entries ≡ fin.get m key
get_top top m key seen tree = sym (fin.get-from_sorted key_cmp top.entries key tree.sorted) ∙ ap (λ n. fin.get n key) seen

pub root_top : (top : RangeValue) (m : Map) → fin.from_sorted top.entries ≡ m → IsTree top → part_root top.depth top.entries ≡ root m
root_top top m seen tree = ap (λ d. part_root d top.entries) tree.depth ∙ ap (part_root 0) (sym (entries_of top m seen tree)) ∙ sym (root-part_root m)

agree_none : {X : Type 0} (d : ℕ) (es : List (List ℕ × X)) → d ≡ 0 → AllByRecursion (λ e. (i : ℕ) → i < d → bit e.0 i ≡ false) es
agree_none d [] none = tt
agree_none d (e ∷ es) none = ((λ i lt. absurd (omega arith)), agree_none d es none)

-- a tree and a batch are parts
pub parts_of : (top : RangeValue) (bs : Batch) → IsTree top → IsBatch bs → AreUnderOnePath top.depth top.entries bs
parts_of top bs tree batch = record {
  path = λ i. false;
  entries = record { sorted = tree.sorted; keys = tree.keys; agree = agree_none top.depth top.entries tree.depth };
  batch = record { sorted = batch.sorted; keys = batch.keys; agree = agree_none top.depth bs tree.depth };
}

-- the top after a batch is the top of a tree, whose map is the map after the batch
pub tree_applied : (top new : RangeValue) (bs : Batch) → new ≡ record { depth = top.depth; entries = entries_after_batch top.entries bs } → IsTree top → IsBatch bs → IsTree new
tree_applied top new bs is tree batch =
    subst IsTree (sym is) (record { depth = tree.depth; sorted = sorted-applied top.entries bs tree.sorted; keys = all_keys-applied IsKey top.entries bs tree.keys batch.keys })

pub map_applied : (top new : RangeValue) (m : Map) (bs : Batch) → new ≡ record { depth = top.depth; entries = entries_after_batch top.entries bs } → fin.from_sorted top.entries ≡ m → IsTree top → fin.from_sorted new.entries ≡ apply m bs
map_applied top new m bs is seen tree =
    ap (λ t. fin.from_sorted t.entries) is
    ∙ ap (λ es. fin.from_sorted (entries_after_batch es bs)) (sym (entries_of top m seen tree))
    ∙ ap fin.from_sorted (sym (entries-apply m bs))
    ∙ map_of (apply m bs)

-- the steps from the top are at most 600 n + 1
pub steps_of : (d n before after : ℕ) → d ≡ 0 → after ≤ before + most_steps d n → after ≤ before + (600 * n + 1)
steps_of d n before after none h =
    let e : most_steps d n ≡ n * 513 = ap (λ k. n * (2 * (256 - k) + 1)) none in
    omega (arith, e)
