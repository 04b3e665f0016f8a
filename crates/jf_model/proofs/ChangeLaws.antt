-- Laws on how a batch changes the entries of a map.
use Rattle.std.specs.Prelude.{◌∷◌, not, T, Bool, true, false, cond, IfSome, filter}
use Rattle.std.proofs.Common.{◌≡◌, ℕ, ◌-◌, List, [], refl, Option, None, Some, ap, ◌∙◌, subst, Less, Equal, Greater, sym}
use Rattle.std.specs.Cmp.{eq_by_cmp_equiv, Equal-is}
use Rattle.std.specs.Cmp.Lexicographic.{nat_list_cmp_total}
use Rattle.std.specs.FinMap.{entries, is_sorted, put, find}
use Rattle.std.specs.FinMap as fin
use Rattle.std.specs.FinMap.Entries.{is_sorted-put, is_sorted-where_key, by_order, where_key, find-put, find-where_key, same_entries}
use Rattle.std.specs.List.{AllByRecursion}
use Rattle.jf_path.specs.Keys.{key_cmp, IsKey, IsBytes}
use Rattle.jf_path.proofs.BoolLaws.{cond-not}
use Rattle.jf_hash.specs.Maps.{Map, change, Batch, apply, same_key, IsBatch, IsMap}
use Rattle.jf_hash.proofs.MapLaws.{entries-remove, last_word_on}
use Rattle.jf_hash.proofs.KeyOrder.{same_key-exact}
use Rattle.jf_model.specs.Changes.{entries_after_change, with_put, entries_after_batch, MapEntry}

pub changed-none : (k : List ℕ) (v : Option (List ℕ)) → entries_after_change k v [] ≡ with_put k v []
changed-none k None = refl
changed-none k (Some v) = refl

entries-change : (k : List ℕ) (v : Option (List ℕ)) (m : Map) → entries (change k v m) ≡ entries_after_change k v (entries m)
entries-change k (Some v) m = fin.entries-insert nat_list_cmp_total m k v
entries-change k None m = entries-remove m k

-- the entries of a map after a batch are its entries changed by the batch
pub entries-apply : (m : Map) (b : Batch) → entries (apply m b) ≡ entries_after_batch (entries m) b
unfolding apply entries_after_batch
entries-apply m [] = refl
entries-apply m (e ∷ b) = entries-apply (change e.0 e.1 m) b ∙ ap (λ es. entries_after_batch es b) (entries-change e.0 e.1 m)

sorted-changed : (k : List ℕ) (v : Option (List ℕ)) (es : List MapEntry) → T (is_sorted key_cmp es) → T (is_sorted key_cmp (entries_after_change k v es))
sorted-changed k (Some v) es h = is_sorted-put key_cmp nat_list_cmp_total k v es h
sorted-changed k None es h = is_sorted-where_key key_cmp (λ x. not (same_key k x)) es h

-- changed entries stay in the order of their keys
pub sorted-applied : (es : List MapEntry) (b : Batch) → T (is_sorted key_cmp es) → T (is_sorted key_cmp (entries_after_batch es b))
unfolding entries_after_batch
sorted-applied es [] h = h
sorted-applied es (e ∷ b) h = sorted-applied (entries_after_change e.0 e.1 es) b (sorted-changed e.0 e.1 es h)

module _ (P : MapEntry → Type 0) where
  all-put : (k v : List ℕ) (es : List MapEntry) → P (k, v) → AllByRecursion P es → AllByRecursion P (put key_cmp k v es)
  all-put k v [] p h = (p, tt)
  all-put k v (e ∷ es) p h =
      elim (key_cmp k e.0) as (λ r. key_cmp k e.0 ≡ r → AllByRecursion P (by_order r ((k, v) ∷ e ∷ es) ((e.0, v) ∷ es) (e ∷ put key_cmp k v es))) [
        | Less ↦ λ is. (p, h)
        | Equal ↦ λ is. (subst (λ q. P (q, v)) (same_key-exact k e.0 is) p, h.1)
        | Greater ↦ λ is. (h.0, all-put k v es p h.1)
      ] refl

  all-where_key : (test : List ℕ → Bool) (es : List MapEntry) → AllByRecursion P es → AllByRecursion P (where_key key_cmp test es)
  all-where_key test [] h = tt
  all-where_key test (e ∷ es) h =
      elim (test e.0) as (λ b. AllByRecursion P (cond b (e ∷ where_key key_cmp test es) (where_key key_cmp test es))) [
        | true ↦ (h.0, all-where_key test es h.1)
        | false ↦ all-where_key test es h.1
      ]

  all-changed : (k : List ℕ) (v : Option (List ℕ)) (es : List MapEntry) → IfSome v (λ w. P (k, w)) → AllByRecursion P es → AllByRecursion P (entries_after_change k v es)
  all-changed k (Some v) es p h = all-put k v es p h
  all-changed k None es p h = all-where_key (λ x. not (same_key k x)) es h

  -- what holds of each entry, and of each entry that the batch puts, holds of each entry after it
  pub all-applied : (es : List MapEntry) (b : Batch) → AllByRecursion P es → AllByRecursion (λ e. IfSome e.1 (λ w. P (e.0, w))) b → AllByRecursion P (entries_after_batch es b)
  unfolding entries_after_batch
  all-applied es [] h p = h
  all-applied es (e ∷ b) h p = all-applied (entries_after_change e.0 e.1 es) b (all-changed e.0 e.1 es p.0 h) p.1

sound_put : (k : List ℕ) (v : Option (List ℕ)) → IsKey k → IfSome v IsBytes → IfSome v (λ w. IsKey k × IsBytes w)
sound_put k None key bytes = tt
sound_put k (Some v) key bytes = (key, bytes)

sound_puts : (b : Batch) → AllByRecursion (λ e. IsKey e.0) b → AllByRecursion (λ e. IfSome e.1 IsBytes) b → AllByRecursion (λ e. IfSome e.1 (λ w. IsKey e.0 × IsBytes w)) b
sound_puts [] h k = tt
sound_puts (e ∷ b) h k = (sound_put e.0 e.1 h.0 k.0, sound_puts b h.1 k.1)

-- after a batch each entry still has a key and bytes
pub sound-applied : (es : List MapEntry) (b : Batch) → AllByRecursion (λ e. IsKey e.0 × IsBytes e.1) es → IsBatch b → AllByRecursion (λ e. IsKey e.0 × IsBytes e.1) (entries_after_batch es b)
sound-applied es b h batch = all-applied (λ e. IsKey e.0 × IsBytes e.1) es b h (sound_puts b batch.keys batch.values)

pub IsMap-apply : (m : Map) (b : Batch) → IsMap m → IsBatch b → IsMap (apply m b)
IsMap-apply m b h batch = subst (λ es. AllByRecursion (λ e. IsKey e.0 × IsBytes e.1) es) (sym (entries-apply m b)) (sound-applied (entries m) b h batch)

-- ---- what holds of keys
put_keys : (P : List ℕ → Type 0) (b : Batch) → AllByRecursion (λ e. P e.0) b → AllByRecursion (λ e. IfSome e.1 (λ w. P e.0)) b
put_keys P [] h = tt
put_keys P (e ∷ b) h = (elim e.1 as (λ v. IfSome v (λ w. P e.0)) [ None ↦ tt | Some w ↦ h.0 ], put_keys P b h.1)

-- what holds of the keys of all entries and of a batch holds of the keys after it
pub all_keys-applied : (P : List ℕ → Type 0) (es : List MapEntry) (b : Batch) → AllByRecursion (λ e. P e.0) es → AllByRecursion (λ e. P e.0) b → AllByRecursion (λ e. P e.0) (entries_after_batch es b)
all_keys-applied P es b h k = all-applied (λ e. P e.0) es b h (put_keys P b k)

-- ---- one key, and some keys
find-changed : (q k : List ℕ) (v : Option (List ℕ)) (es : List MapEntry) → find key_cmp q (entries_after_change k v es) ≡ cond (same_key q k) v (find key_cmp q es)
find-changed q k (Some v) es = find-put key_cmp nat_list_cmp_total q k v es
find-changed q k None es =
    find-where_key key_cmp (λ x. not (same_key k x)) q (λ x e. ap (λ x. not (same_key k x)) (sym (same_key-exact q x e))) es
    ∙ cond-not (same_key k q) (find key_cmp q es) None ∙ ap (λ b. cond b None (find key_cmp q es)) ((eq_by_cmp_equiv nat_list_cmp_total).symm k q)

-- the value of a key after a batch is what the batch's last change of it says, or what it was
pub find-applied : (q : List ℕ) (es : List MapEntry) (b : Batch) → find key_cmp q (entries_after_batch es b) ≡ last_word_on q b (find key_cmp q es)
unfolding entries_after_batch
find-applied q es [] = refl
find-applied q es (e ∷ b) = find-applied q (entries_after_change e.0 e.1 es) b ∙ ap (last_word_on q b) (find-changed q e.0 e.1 es)

-- a batch without changes changes nothing
pub applied-none : (es : List MapEntry) → entries_after_batch es [] ≡ es
unfolding entries_after_batch
applied-none es = refl

-- a batch of one change is that change
pub applied-word : (es : List MapEntry) (k : List ℕ) (v : Option (List ℕ)) → entries_after_batch es ((k, v) ∷ []) ≡ entries_after_change k v es
unfolding entries_after_batch
applied-word es k v = refl

-- the changes on some keys say of a key among them what all changes say
last_word_on-part : (p : List ℕ → Bool) (q : List ℕ) (bs : Batch) (before : Option (List ℕ)) → last_word_on q (filter (λ e. p e.0) bs) (cond (p q) before None) ≡ cond (p q) (last_word_on q bs before) None
last_word_on-part p q [] before = refl
last_word_on-part p q (b ∷ bs) before =
    elim (same_key q b.0) as (λ t. same_key q b.0 ≡ t → last_word_on q (cond (p b.0) (b ∷ filter (λ e. p e.0) bs) (filter (λ e. p e.0) bs)) (cond (p q) before None) ≡ cond (p q) (last_word_on q bs (cond t b.1 before)) None) [
      | true ↦ λ is.
          let same : p b.0 ≡ p q = ap p (sym (same_key-exact q b.0 ((Equal-is _).0 is))) in
          ap (λ c. last_word_on q (cond c (b ∷ filter (λ e. p e.0) bs) (filter (λ e. p e.0) bs)) (cond (p q) before None)) same
          ∙ (elim (p q) as (λ c. p q ≡ c → last_word_on q (cond c (b ∷ filter (λ e. p e.0) bs) (filter (λ e. p e.0) bs)) (cond c before None) ≡ cond c (last_word_on q bs b.1) None) [
            | true ↦ λ inside. ap (λ t. last_word_on q (filter (λ e. p e.0) bs) (cond t b.1 before)) is
                ∙ ap (λ c. last_word_on q (filter (λ e. p e.0) bs) (cond c b.1 None)) (sym inside) ∙ last_word_on-part p q bs b.1 ∙ ap (λ c. cond c (last_word_on q bs b.1) None) inside
            | false ↦ λ outside. ap (λ c. last_word_on q (filter (λ e. p e.0) bs) (cond c b.1 None)) (sym outside) ∙ last_word_on-part p q bs b.1 ∙ ap (λ c. cond c (last_word_on q bs b.1) None) outside
          ] refl)
      | false ↦ λ is. elim (p b.0) as (λ c. last_word_on q (cond c (b ∷ filter (λ e. p e.0) bs) (filter (λ e. p e.0) bs)) (cond (p q) before None) ≡ cond (p q) (last_word_on q bs before) None) [
        | true ↦ ap (λ t. last_word_on q (filter (λ e. p e.0) bs) (cond t b.1 (cond (p q) before None))) is ∙ last_word_on-part p q bs before
        | false ↦ last_word_on-part p q bs before
      ]
    ] refl

-- after a batch, the entries on some keys are those entries after the batch's changes on these keys
pub filter-applied : (p : List ℕ → Bool) (es : List MapEntry) (b : Batch) → T (is_sorted key_cmp es) → filter (λ e. p e.0) (entries_after_batch es b) ≡ entries_after_batch (filter (λ e. p e.0) es) (filter (λ e. p e.0) b)
filter-applied p es b sorted =
    let alike : (q x : List ℕ) → key_cmp q x ≡ Equal → p x ≡ p q = λ q x e. ap p (sym (same_key-exact q x e)) in
    same_entries key_cmp nat_list_cmp_total same_key-exact _ _
    (is_sorted-where_key key_cmp p (entries_after_batch es b) (sorted-applied es b sorted))
    (sorted-applied (filter (λ e. p e.0) es) (filter (λ e. p e.0) b) (is_sorted-where_key key_cmp p es sorted))
    (λ q.
    find-where_key key_cmp p q (alike q) (entries_after_batch es b)
    ∙ ap (λ o. cond (p q) o None) (find-applied q es b)
    ∙ sym (last_word_on-part p q b (find key_cmp q es))
    ∙ ap (last_word_on q (filter (λ e. p e.0) b)) (sym (find-where_key key_cmp p q (alike q) es))
    ∙ sym (find-applied q (filter (λ e. p e.0) es) (filter (λ e. p e.0) b)))
