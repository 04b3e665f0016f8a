-- A batch of n keys writes at most 66 nodes for each, and the top.
use Rattle.std.proofs.Common.{◌≡◌, ℕ, ◌<◌, List, [], ◌∷◌, arith, ◌+◌, ◌*◌, ◌≤◌, inl, inr, length, refl, sym, ap, ◌∙◌}
use Rattle.std.proofs.lemmas.List.{length-map}
use Rattle.std.specs.FinMap.{entries}
use Rattle.std.specs.FinMap as fin
use Rattle.std.specs.List.{AllByRecursion}
use Rattle.jf_path.specs.Nibbles.{nibble}
use Rattle.jf_hash.specs.Maps.{Map, IsMap, Batch, IsBatch, apply}
use Rattle.jf_hash.specs.Slots.{Part}
use Rattle.jf_hash.proofs.SlotLaws.{keys_are_keys}
use Rattle.jf_model.specs.Parts.{IsPartUnder}
use Rattle.jf_model.specs.Changes.{entries_after_batch}
use Rattle.jf_model.specs.Nodes.{Path, fresh}
use Rattle.jf_model.specs.Walk.{with_root}
use Rattle.jf_model.proofs.ChangeLaws.{entries-apply}
use Rattle.jf_walk.proofs.SameParts.{some_entry, differs_or_same}
use Rattle.jf_walk.proofs.WalkLaws.{listed-with_root, with_root-gone, with_root-same}
use Rattle.jf_walk.proofs.Bound.{length-listed}
use Rattle.jf_walk.proofs.FreshLaws.{with_root-fresh}

any_path : {X : Type 0} (path : ℕ → ℕ) (es : List (List ℕ × X)) → AllByRecursion (λ e. (i : ℕ) → i < 0 → nibble e.0 i ≡ path i) es
any_path path [] = tt
any_path path (e ∷ es) = ((λ i lt. absurd (omega arith)), any_path path es)

-- a map is a part below the empty path, and so is a batch
pub IsPartUnder-map : (path : ℕ → ℕ) (m : Map) → IsMap m → IsPartUnder 0 path (entries m)
IsPartUnder-map path m sound = record { sorted = fin.entries_sorted m; keys = keys_are_keys (entries m) sound; agree = any_path path (entries m) }

pub IsPartUnder-batch : (path : ℕ → ℕ) (b : Batch) → IsBatch b → IsPartUnder 0 path b
IsPartUnder-batch path b batch = record { sorted = batch.sorted; keys = batch.keys; agree = any_path path b }

-- the length of the walk from the top over entries and the entries after a batch
pub length-with_root : {X : Type 0} (path : ℕ → ℕ) (es : Part) (bs : Batch) (f : Path → X) → IsPartUnder 0 path es → IsPartUnder 0 path bs → length (with_root es (entries_after_batch es bs) f) ≤ 66 * length bs + 1
length-with_root path es bs f part batch = elim (some_entry (entries_after_batch es bs)) [
  | inl none ↦ omega (arith, ap length (ap (λ new. with_root es new f) none ∙ with_root-gone es f))
  | inr some ↦ elim (differs_or_same es (entries_after_batch es bs) some) [
    | inl differ ↦ omega (arith, ap length (listed-with_root es (entries_after_batch es bs) f differ), length-listed 64 0 path es bs f refl part batch)
    | inr same ↦ omega (arith, ap length (ap (λ new. with_root es new f) (sym same) ∙ with_root-same es f))
  ]
]

-- the number of nodes that a batch writes
pub length-fresh : (m : Map) (b : Batch) → IsMap m → IsBatch b → length (fresh m (apply m b)) ≤ 66 * length b + 1
length-fresh m b sound batch =
    let f : Path → Path = λ p. p in
    omega (
      arith,
      length-with_root (λ i. 0) (entries m) b f (IsPartUnder-map (λ i. 0) m sound) (IsPartUnder-batch (λ i. 0) b batch),
      ap length (ap (λ es. with_root (entries m) es f) (sym (entries-apply m b)) ∙ with_root-fresh m (apply m b) f),
      length-map (fresh m (apply m b)) (λ (x : Path × Part). f x.0),
    )
