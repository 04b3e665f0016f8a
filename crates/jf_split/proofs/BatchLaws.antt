-- A batch names no key twice, and keeps its rules and limits with one more change.
use Rattle.std.proofs.Common.{◌≡◌, ℕ, List, [], ◌∷◌, refl, subst, Less, Equal, Greater, Option, false, ap, T, is_eq, map, IfSome, arith, ◌+◌, ◌≤◌, Bool, true, not, cond, ◌&&◌, nat_le, true≢false, None, Some, is_none, is_some, length, sym, ◌∙◌}
use Rattle.std.proofs.lemmas.Bool.{leb-false}
use Rattle.std.specs.Cmp.Lexicographic.{nat_list_cmp_total}
use Rattle.std.specs.FinMap.{put, is_sorted, find}
use Rattle.std.specs.FinMap.Entries.{by_order, below_all, is_sorted-put, length-put}
use Rattle.std.specs.List.{AllByRecursion, IsDistinct}
use Rattle.jf_path.specs.Keys.{key_cmp, IsKey, IsBytes}
use Rattle.jf_path.specs.Limits.{max_value}
use Rattle.jf_hash.specs.Maps.{Batch, same_key, IsBatch}
use Rattle.jf_hash.proofs.KeyOrder.{same_key-exact, below-first, below-later, below-rest, sorted-rest}
use Rattle.jf_split.specs.Limits.{IsWithinLimits, max_keys, is_full}

-- what holds of each entry and of the new one holds of each entry after a put
all-put : (P : List ℕ × Option (List ℕ) → Type 0) (k : List ℕ) (v : Option (List ℕ)) (b : Batch) → P (k, v) → AllByRecursion P b → AllByRecursion P (put key_cmp k v b)
all-put P k v [] here all = (here, tt)
all-put P k v (e ∷ es) here all =
    elim (key_cmp k e.0) as (λ r. key_cmp k e.0 ≡ r → AllByRecursion P (by_order r ((k, v) ∷ e ∷ es) ((e.0, v) ∷ es) (e ∷ put key_cmp k v es))) [
      | Less ↦ λ is. (here, all)
      | Equal ↦ λ is. (subst (λ q. P (q, v)) (same_key-exact k e.0 is) here, all.1)
      | Greater ↦ λ is. (all.0, all-put P k v es here all.1)
    ] refl

differs_from_all : (k : List ℕ) (b : Batch) → T (below_all key_cmp k b) → AllByRecursion (λ q. same_key k q ≡ false) (map (λ e. e.0) b)
differs_from_all k [] below = tt
differs_from_all k (e ∷ es) below = (ap is_eq (below-first k e es below), differs_from_all k es (below-later k e es below))

pub IsBatch-none : IsBatch []
IsBatch-none = record { sorted = tt; keys = tt; values = tt }

-- a batch stays a batch when it takes a key of 32 bytes and a value of bytes, or a removal
pub IsBatch-put : (k : List ℕ) (v : Option (List ℕ)) (b : Batch) → IsKey k → IfSome v IsBytes → IsBatch b → IsBatch (put key_cmp k v b)
IsBatch-put k v b key bytes batch = record {
  sorted = is_sorted-put key_cmp nat_list_cmp_total k v b batch.sorted;
  keys = all-put (λ e. IsKey e.0) k v b key batch.keys;
  values = all-put (λ e. IfSome e.1 IsBytes) k v b bytes batch.values;
}

-- a batch names no key twice
pub IsDistinct-keys : (b : Batch) → T (is_sorted key_cmp b) → IsDistinct same_key (map (λ e. e.0) b)
unfolding IsDistinct
IsDistinct-keys [] sorted = tt
IsDistinct-keys (e ∷ es) sorted = (differs_from_all e.0 es (below-rest e es sorted), IsDistinct-keys es (sorted-rest e es sorted))

pub IsWithinLimits-none : IsWithinLimits []
IsWithinLimits-none = record { keys = omega arith; values = tt }

-- if there are fewer entries than the limit or the key isn't new, a put stays within the limit
room_for : (most n : ℕ) (absent : Bool) → (nat_le most n && absent) ≡ false → n ≤ most → cond (not absent) n (n + 1) ≤ most
room_for most n false room within = within
room_for most n true room within = elim (nat_le most n) as (λ b. nat_le most n ≡ b → (b && true) ≡ false → n + 1 ≤ most) [
  | true ↦ λ is full. absurd (true≢false full)
  | false ↦ λ is room. omega (arith, leb-false most n is)
] refl room

turned : {X : Type 0} (o : Option X) (x y : ℕ) → cond (is_some o) x y ≡ cond (not (is_none o)) x y
turned None x y = refl
turned (Some v) x y = refl

-- a batch that is not full for a key stays within the limits when it takes it
pub IsWithinLimits-put : (k : List ℕ) (v : Option (List ℕ)) (b : Batch) → T (is_sorted key_cmp b) → is_full k b ≡ false → IfSome v (λ w. length w ≤ max_value) → IsWithinLimits b → IsWithinLimits (put key_cmp k v b)
IsWithinLimits-put k v b sorted room short limits = record {
  keys = subst (λ n. n ≤ max_keys) (sym (length-put key_cmp nat_list_cmp_total k v b sorted ∙ turned (find key_cmp k b) (length b) (length b + 1))) (room_for max_keys (length b) (is_none (find key_cmp k b)) room limits.keys);
  values = all-put (λ e. IfSome e.1 (λ w. length w ≤ max_value)) k v b short limits.values;
}
