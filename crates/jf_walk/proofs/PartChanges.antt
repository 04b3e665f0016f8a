-- Applying a batch to a part: the result falls apart by nibble, and grows by no more than the batch.
use Rattle.std.proofs.Common.{◌≡◌, ℕ, ◌<◌, ◌==◌, T, ◌+◌, ◌≤◌, List, [], ◌∷◌, length, arith, Less, Equal, Greater, not, Option, None, Some}
use Rattle.std.specs.FinMap.{is_sorted, put}
use Rattle.std.specs.FinMap.Entries.{by_order}
use Rattle.jf_path.specs.Keys.{IsKey, key_cmp}
use Rattle.jf_path.specs.Nibbles.{nibble}
use Rattle.jf_path.proofs.FilterLaws.{length-filter_le}
use Rattle.jf_hash.specs.Maps.{Batch, same_key}
use Rattle.jf_hash.specs.Slots.{Part, with_nibble}
use Rattle.jf_model.specs.Changes.{entries_after_batch, entries_after_change}
use Rattle.jf_model.specs.Parts.{IsPartUnder}
use Rattle.jf_model.proofs.ChangeLaws.{sorted-applied, all_keys-applied, filter-applied}

-- a part is a part also after a batch below the same path
pub IsPartUnder-applied : (d : ℕ) (path : ℕ → ℕ) (es : Part) (bs : Batch) → IsPartUnder d path es → IsPartUnder d path bs → IsPartUnder d path (entries_after_batch es bs)
IsPartUnder-applied d path es bs p q = record {
  sorted = sorted-applied es bs p.sorted;
  keys = all_keys-applied IsKey es bs p.keys q.keys;
  agree = all_keys-applied (λ k. (i : ℕ) → i < d → nibble k i ≡ path i) es bs p.agree q.agree;
}

-- after a batch, the entries with one nibble are those entries after the batch's changes with that nibble
pub with_nibble-applied : (d n : ℕ) (es : Part) (bs : Batch) → T (is_sorted key_cmp es) → with_nibble d n (entries_after_batch es bs) ≡ entries_after_batch (with_nibble d n es) (with_nibble d n bs)
with_nibble-applied d n es bs sorted = filter-applied (λ k. nibble k d == n) es bs sorted

length-put_le : (k v : List ℕ) (es : Part) → length (put key_cmp k v es) ≤ length es + 1
length-put_le k v [] = omega arith
length-put_le k v (e ∷ es) =
    let rest = length-put_le k v es in
    elim (key_cmp k e.0) as (λ r. length (by_order r ((k, v) ∷ e ∷ es) ((e.0, v) ∷ es) (e ∷ put key_cmp k v es)) ≤ length (e ∷ es) + 1) [
      | Less ↦ omega arith
      | Equal ↦ omega arith
      | Greater ↦ omega arith
    ]

length-changed : (k : List ℕ) (v : Option (List ℕ)) (es : Part) → length (entries_after_change k v es) ≤ length es + 1
length-changed k (Some v) es = length-put_le k v es
length-changed k None es = omega (arith, length-filter_le (λ (e : List ℕ × List ℕ). not (same_key k e.0)) es)

-- a batch adds no more entries than it has changes
pub length-applied : (es : Part) (bs : Batch) → length (entries_after_batch es bs) ≤ length es + length bs
unfolding entries_after_batch
length-applied es [] = omega arith
length-applied es (b ∷ bs) = omega (arith, length-applied (entries_after_change b.0 b.1 es) bs, length-changed b.0 b.1 es)
