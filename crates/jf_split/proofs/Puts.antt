-- A batch after a put, by whether its key is there already and by its place.
use Rattle.std.proofs.Common.{ℕ, suc, List, ◌∷◌, arith, Option, ◌≡◌, subst, T, Less, Greater, zero, [], set, ap, ◌∙◌, true, false, cond, refl, is_eq, is_none, Some, ◌&&◌, length, nat_le, None, sym, is_some, IsSome, true≢false, ◌≤◌, IfSome, ◌<◌}
use Rattle.std.proofs.lemmas.Bool.{lt-leb}
use Rattle.std.specs.Cmp.{tied_itself}
use Rattle.std.specs.Cmp.Lexicographic.{nat_list_cmp_total}
use Rattle.std.specs.FinMap.{is_sorted, put, find}
use Rattle.std.specs.FinMap.Entries.{by_order}
use Rattle.std.specs.List.{insert}
use Rattle.jf_path.specs.Keys.{key_cmp, IsKey, IsBytes}
use Rattle.jf_hash.specs.Maps.{Batch, IsBatch}
use Rattle.jf_hash.proofs.KeyOrder.{key_cmp-turned, below-rest, below-each, sorted-rest}
use Rattle.jf_split.specs.Places.{IsPlaceOf, IsGapFor}
use Rattle.jf_split.specs.Limits.{is_full, IsWithinLimits}
use Rattle.jf_split.proofs.BatchLaws.{IsBatch-put, IsWithinLimits-put}

-- ---- a key that is there
-- a place after the first entry, counted among the entries after it
place_in_rest : (k : List ℕ) (e : List ℕ × Option (List ℕ)) (b : Batch) (i : ℕ) → IsPlaceOf k (e ∷ b) (suc i) → IsPlaceOf k b i
place_in_rest k e b i place = record { within = omega (arith, place.within); same = λ d. place.same d }

above_first : (k : List ℕ) (e : List ℕ × Option (List ℕ)) (b : Batch) (i : ℕ) → T (is_sorted key_cmp (e ∷ b)) → IsPlaceOf k (e ∷ b) (suc i) → key_cmp k e.0 ≡ Greater
above_first k e b i sorted place =
    let first_less = below-each e.0 b i e (below-rest e b sorted) (omega (arith, place.within)) in
    key_cmp-turned e.0 k Less (subst (λ q. key_cmp e.0 q ≡ Less) (place.same e) first_less)

-- the value at its place is changed
pub put-place : (k : List ℕ) (v : Option (List ℕ)) (b : Batch) (i : ℕ) → T (is_sorted key_cmp b) → IsPlaceOf k b i → put key_cmp k v b ≡ set b i (k, v)
put-place k v [] i sorted place = absurd (omega (arith, place.within))
put-place k v (e ∷ es) zero sorted place =
    ap (λ q. by_order (key_cmp k q) ((k, v) ∷ e ∷ es) ((e.0, v) ∷ es) (e ∷ put key_cmp k v es)) (place.same e)
    ∙ ap (λ o. by_order o ((k, v) ∷ e ∷ es) ((e.0, v) ∷ es) (e ∷ put key_cmp k v es)) (tied_itself nat_list_cmp_total k)
    ∙ ap (λ q. (q, v) ∷ es) (place.same e)
put-place k v (e ∷ es) (suc i) sorted place =
    ap (λ o. by_order o ((k, v) ∷ e ∷ es) ((e.0, v) ∷ es) (e ∷ put key_cmp k v es)) (above_first k e es i sorted place)
    ∙ ap (λ t. e ∷ t) (put-place k v es i (sorted-rest e es sorted) (place_in_rest k e es i place))

found : (k : List ℕ) (b : Batch) (i : ℕ) → IsPlaceOf k b i → is_none (find key_cmp k b) ≡ false
found k [] i place = absurd (omega (arith, place.within))
found k (e ∷ es) zero place =
    ap (λ q. is_none (cond (is_eq (key_cmp k q)) (Some e.1) (find key_cmp k es))) (place.same e) ∙ ap (λ o. is_none (cond (is_eq o) (Some e.1) (find key_cmp k es))) (tied_itself nat_list_cmp_total k)
found k (e ∷ es) (suc i) place = elim (is_eq (key_cmp k e.0)) as (λ t. is_none (cond t (Some e.1) (find key_cmp k es)) ≡ false) [
  | true ↦ refl
  | false ↦ found k es i (place_in_rest k e es i place)
]

-- a key that is there always has room
pub is_full-place : (k : List ℕ) (b : Batch) (i : ℕ) → IsPlaceOf k b i → is_full k b ≡ false
is_full-place k b i place = ap (λ t. nat_le 10000 (length b) && t) (found k b i place) ∙ elim (nat_le 10000 (length b)) as (λ t. (t && false) ≡ false) [ true ↦ refl | false ↦ refl ]

-- ---- a key that is new
-- a gap after the first entry, counted among the entries after it
gap_in_rest : (k : List ℕ) (e : List ℕ × Option (List ℕ)) (b : Batch) (i : ℕ) → IsGapFor k (e ∷ b) (suc i) → IsGapFor k b i
gap_in_rest k e b i gap = record {
  within = omega (arith, gap.within);
  before = λ j d lt. gap.before (suc j) d (omega arith);
  behind = λ j d le lt. gap.behind (suc j) d (omega arith) (omega arith);
}

-- a new entry is inserted at the gap of its key
pub put-gap : (k : List ℕ) (v : Option (List ℕ)) (b : Batch) (i : ℕ) → IsGapFor k b i → put key_cmp k v b ≡ insert b i (k, v)
put-gap k v [] zero gap = refl
put-gap k v [] (suc i) gap = refl
put-gap k v (e ∷ es) zero gap =
    ap (λ o. by_order o ((k, v) ∷ e ∷ es) ((e.0, v) ∷ es) (e ∷ put key_cmp k v es)) (key_cmp-turned e.0 k Greater (gap.behind 0 e (omega arith) (omega arith)))
put-gap k v (e ∷ es) (suc i) gap =
    ap (λ o. by_order o ((k, v) ∷ e ∷ es) ((e.0, v) ∷ es) (e ∷ put key_cmp k v es)) (key_cmp-turned e.0 k Less (gap.before 0 e (omega arith)))
    ∙ ap (λ t. e ∷ t) (put-gap k v es i (gap_in_rest k e es i gap))

first_differs : (k : List ℕ) (e : List ℕ × Option (List ℕ)) (b : Batch) (i : ℕ) → IsGapFor k (e ∷ b) i → is_eq (key_cmp k e.0) ≡ false
first_differs k e b zero gap = ap is_eq (key_cmp-turned e.0 k Greater (gap.behind 0 e (omega arith) (omega arith)))
first_differs k e b (suc i) gap = ap is_eq (key_cmp-turned e.0 k Less (gap.before 0 e (omega arith)))

none_after : (k : List ℕ) (e : List ℕ × Option (List ℕ)) (b : Batch) → IsGapFor k (e ∷ b) 0 → IsGapFor k b 0
none_after k e b gap = record {
  within = omega arith;
  before = λ j d lt. absurd (omega arith);
  behind = λ j d le lt. gap.behind (suc j) d (omega arith) (omega arith);
}

-- no entry has a key that has a gap
pub find-gap : (k : List ℕ) (b : Batch) (i : ℕ) → IsGapFor k b i → find key_cmp k b ≡ None
find-gap k [] i gap = refl
find-gap k (e ∷ es) zero gap = ap (λ t. cond t (Some e.1) (find key_cmp k es)) (first_differs k e es 0 gap) ∙ find-gap k es 0 (none_after k e es gap)
find-gap k (e ∷ es) (suc i) gap = ap (λ t. cond t (Some e.1) (find key_cmp k es)) (first_differs k e es (suc i) gap) ∙ find-gap k es i (gap_in_rest k e es i gap)

pub not_there : (k : List ℕ) (b : Batch) (i : ℕ) → IsGapFor k b i → IsSome (find key_cmp k b) → ⊥
not_there k b i gap there = true≢false (sym there ∙ ap is_some (find-gap k b i gap))

-- a new key has room while there are fewer than 10,000
pub is_full-gap : (k : List ℕ) (b : Batch) (i : ℕ) → IsGapFor k b i → is_full k b ≡ nat_le 10000 (length b)
is_full-gap k b i gap = ap (λ t. nat_le 10000 (length b) && t) (ap is_none (find-gap k b i gap)) ∙ elim (nat_le 10000 (length b)) as (λ t. (t && true) ≡ t) [ true ↦ refl | false ↦ refl ]

-- ---- what a batch keeps
module _ (k q : List ℕ) (v : Option (List ℕ)) (b : Batch) (i : ℕ) (key : IsKey k) (bytes : IfSome v IsBytes) (short : IfSome v (λ w. length w ≤ 4096)) (batch : IsBatch b × IsWithinLimits b) where
  -- a put for which there is room keeps the batch's rules and limits
  put_batch : is_full k b ≡ false → IsBatch (put key_cmp k v b) × IsWithinLimits (put key_cmp k v b)
  put_batch room = (IsBatch-put k v b key bytes batch.0, IsWithinLimits-put k v b batch.0.sorted room short batch.1)

  -- setting the entry of a key that is there is a put, q being the key in that entry
  pub set-put : IsPlaceOf k b i → q ≡ k → set b i (q, v) ≡ put key_cmp k v b
  set-put place same = ap (λ x. set b i (x, v)) same ∙ sym (put-place k v b i batch.0.sorted place)

  pub set_batch : IsPlaceOf k b i → q ≡ k → IsBatch (set b i (q, v)) × IsWithinLimits (set b i (q, v))
  set_batch place same = subst (λ x. IsBatch x × IsWithinLimits x) (sym (set-put place same)) (put_batch (is_full-place k b i place))

  -- inserting a new entry keeps the batch's rules and limits
  pub insert_batch : IsGapFor k b i → length b < 10000 → IsBatch (insert b i (k, v)) × IsWithinLimits (insert b i (k, v))
  insert_batch gap room = subst (λ x. IsBatch x × IsWithinLimits x) (put-gap k v b i gap) (put_batch (is_full-gap k b i gap ∙ lt-leb 10000 (length b) room))
