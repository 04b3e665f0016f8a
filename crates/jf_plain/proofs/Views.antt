-- A map by its list of entries.
use Rattle.std.proofs.Common.{◌≡◌, List, sym, subst, ◌≤◌, length, ℕ, ap, ◌∙◌, [], map, T, ◌∷◌}
use Rattle.std.specs.FinMap.{entries, find, is_sorted}
use Rattle.std.specs.FinMap as fin
use Rattle.std.specs.FinMap.Entries.{below_all}
use Rattle.std.specs.List.{AllByRecursion}
use Rattle.jf_path.specs.Keys.{key_cmp, IsKey, IsBytes}
use Rattle.jf_path.proofs.BoolLaws.{left_so, right_so, both_so}
use Rattle.jf_hash.specs.Maps.{map_of_entries, IsMap, Batch, IsBatch, apply}
use Rattle.jf_hash.specs.Roots.{root, leaves_root, leaf_of}
use Rattle.jf_hash.proofs.RootLaws.{entries-empty}
use Rattle.jf_split.specs.Limits.{IsWithinLimits}
use Rattle.jf_model.specs.Changes.{MapEntry, entries_after_batch}
use Rattle.jf_model.proofs.ChangeLaws.{sorted-applied, sound-applied, all-applied, entries-apply}
use Rattle.jf_plain.specs.Entries.{AreMapEntries, HasShortValues}

entries-of : (es : List MapEntry) → AreMapEntries es → entries (map_of_entries es) ≡ es
entries-of es h = fin.entries-from_sorted key_cmp es h.sorted

pub sound-of : (es : List MapEntry) → AreMapEntries es → IsMap (map_of_entries es)
sound-of es h = subst (λ xs. AllByRecursion (λ e. IsKey e.0 × IsBytes e.1) xs) (sym (entries-of es h)) h.sound

pub short-of : (es : List MapEntry) → AreMapEntries es → HasShortValues (map_of_entries es)
short-of es h = subst (λ xs. AllByRecursion (λ e. length e.1 ≤ 4096) xs) (sym (entries-of es h)) h.short

pub get-of : (es : List MapEntry) (q : List ℕ) → AreMapEntries es → find key_cmp q es ≡ fin.get (map_of_entries es) q
get-of es q h = sym (fin.get-from_sorted key_cmp es q h.sorted)

pub len-of : (es : List MapEntry) → AreMapEntries es → length es ≡ fin.len (map_of_entries es)
len-of es h = sym (fin.len-entries (map_of_entries es) ∙ ap length (entries-of es h))

pub none-of : (es : List MapEntry) → es ≡ [] → map_of_entries es ≡ fin.empty
none-of es is = ap map_of_entries is ∙ fin.same_entries_map (map_of_entries []) fin.empty (fin.entries-from_sorted key_cmp [] tt ∙ sym entries-empty)

pub are_none : (es : List MapEntry) → es ≡ [] → AreMapEntries es
are_none es is = subst AreMapEntries (sym is) (record { sorted = tt; sound = tt; short = tt })

pub root-of : (es : List MapEntry) → AreMapEntries es → leaves_root 0 (map leaf_of es) ≡ root (map_of_entries es)
unfolding root
root-of es h = ap (λ xs. leaves_root 0 (map leaf_of xs)) (sym (entries-of es h))

below_leaves : (k : List ℕ) (es : List MapEntry) → T (below_all key_cmp k es) → T (below_all key_cmp k (map leaf_of es))
below_leaves k [] h = tt
below_leaves k (e ∷ es) h = both_so _ _ (left_so _ _ h) (below_leaves k es (right_so _ _ h))

pub sorted-leaves : (es : List MapEntry) → T (is_sorted key_cmp es) → T (is_sorted key_cmp (map leaf_of es))
sorted-leaves [] h = tt
sorted-leaves (e ∷ es) h = both_so _ _ (below_leaves e.0 es (left_so _ _ h)) (sorted-leaves es (right_so _ _ h))

pub are-applied : (es : List MapEntry) (b : Batch) → AreMapEntries es → IsBatch b → IsWithinLimits b → AreMapEntries (entries_after_batch es b)
are-applied es b h batch limits = record {
  sorted = sorted-applied es b h.sorted;
  sound = sound-applied es b h.sound batch;
  short = all-applied (λ e. length e.1 ≤ 4096) es b h.short limits.values;
}

pub applied-of : (es : List MapEntry) (b : Batch) → AreMapEntries es → map_of_entries (entries_after_batch es b) ≡ apply (map_of_entries es) b
applied-of es b h =
    fin.same_entries_map _ _ (fin.entries-from_sorted key_cmp (entries_after_batch es b) (sorted-applied es b h.sorted) ∙ ap (λ xs. entries_after_batch xs b) (sym (entries-of es h)) ∙ sym (entries-apply (map_of_entries es) b))
