-- Std's hash map over keys, its entries put in order, is a batch.
use Rattle.std.proofs.Common.{◌≡◌, ℕ, ◌<◌, ◌≤◌, List, length, Option, None, Some, IfSome, IsSome, is_none, is_some, not, ◌&&◌, false, true≢false, refl, ap, sym, ◌∙◌, le-leb}
use Rattle.std.proofs.lemmas.Bool.{lt-leb}
use Rattle.std.specs.FinMap.{put, find}
use Rattle.std.specs.Map.{lookup}
use Rattle.jf_path.specs.Keys.{key_cmp, IsKey, IsBytes}
use Rattle.jf_hash.specs.Maps.{Batch, IsBatch, same_key}
use Rattle.jf_split.specs.KeyOrder.{in_key_order}
use Rattle.jf_split.specs.Limits.{is_full, IsWithinLimits}
use Rattle.jf_split.proofs.BatchLaws.{IsBatch-put, IsWithinLimits-put}
use Rattle.jf_split.proofs.KeyOrderLaws.{lookup-same_key, find-in_key_order}

not_found : (o : Option (Option (List ℕ))) → not (is_some o) ≡ is_none o
not_found None = refl
not_found (Some v) = refl

-- what is found at a key
pub lookup-gathered : (k : List ℕ) (es : Batch) → lookup (same_key k) es ≡ find key_cmp k (in_key_order es)
lookup-gathered k es = lookup-same_key k es ∙ sym (find-in_key_order k es)

-- whether 10,000 entries are full for a key
pub is_full-lookup : (k : List ℕ) (es : Batch) → 10000 ≤ length (in_key_order es) → not (is_some (lookup (same_key k) es)) ≡ is_full k (in_key_order es)
is_full-lookup k es many =
    ap (λ o. not (is_some o)) (lookup-gathered k es)
    ∙ not_found (find key_cmp k (in_key_order es))
    ∙ ap (λ t. t && is_none (find key_cmp k (in_key_order es))) (sym (le-leb 10000 (length (in_key_order es)) many))

-- fewer are full for none
pub is_full-few : (k : List ℕ) (b : Batch) → length b < 10000 → false ≡ is_full k b
is_full-few k b few = sym (ap (λ t. t && is_none (find key_cmp k b)) (lt-leb 10000 (length b) few))

-- with a key set for which there is room a batch stays one within its limits
pub batch-put : (k : List ℕ) (v : Option (List ℕ)) (b : Batch) → IsKey k → IfSome v IsBytes → IfSome v (λ w. length w ≤ 4096) → is_full k b ≡ false → IsBatch b × IsWithinLimits b → IsBatch (put key_cmp k v b) × IsWithinLimits (put key_cmp k v b)
batch-put k v b key bytes short room batch = (IsBatch-put k v b key bytes batch.0, IsWithinLimits-put k v b batch.0.sorted room short batch.1)

-- a key that isn't found in the hash map isn't there
pub absent-lookup : (k : List ℕ) (es : Batch) → lookup (same_key k) es ≡ None → IsSome (find key_cmp k (in_key_order es)) → ⊥
absent-lookup k es none there = true≢false (sym there ∙ ap is_some (sym (lookup-gathered k es) ∙ none))
