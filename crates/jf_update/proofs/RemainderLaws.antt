-- What a batch leaves of at most one entry, by what it puts.
use Rattle.std.proofs.Common.{ℕ, List, ◌≡◌, ◌+◌, ◌-◌, [], ◌∷◌, ◌++◌, refl, ap, ap₂, ◌∙◌, sym, subst, zero, suc, ◌<◌, ◌≤◌, length, length-append, append-nil, get_or, arith, T, Bool, true, false, Some, None, take, drop, IfSome, Option, true≢false, add-one}
use Rattle.std.proofs.lemmas.List.{nil_from_length, take-append-drop}
use Rattle.std.specs.FinMap.{is_sorted}
use Rattle.std.specs.List.{AllZip}
use Rattle.std.specs.Option.{is_some}
use Rattle.std.specs.Prelude.{IsSome}
use Rattle.jf_path.proofs.ListLaws.{take-rest}
use Rattle.jf_path.specs.Keys.{key_cmp}
use Rattle.jf_path.specs.Limits.{max_value}
use Rattle.jf_hash.specs.Hashes.{V}
use Rattle.jf_hash.specs.Maps.{Batch}
use Rattle.jf_hash.specs.Slots.{Part}
use Rattle.jf_model.specs.Changes.{entries_after_batch, with_put}
use Rattle.jf_model.specs.Puts.{Change, puts, IsPlace, IsFirstKey}
use Rattle.jf_walk.proofs.PutLaws.{puts-append, push_step, kept_entry}
use Rattle.jf_walk.proofs.OneEntry.{applied-puts, applied-one}
use Rattle.jf_update.specs.Outcomes.{AreShort}
use Rattle.jf_update.specs.Remainders.{IsKeptEntry, IsFirstPut, ShowsRemainder}
use Rattle.jf_update.specs.declared.remainder.Remainder.{Remainder}
use Rattle.jf_update.specs.declared.remainder.Remainder.TheVariants.{Nothing, Old, Put, Several}
use Rattle.jf_update.specs.ValueHashes.{IsValueHash, AreValueHashes}

-- ---- the entry that was there
by_parts : (es : Part) (bs front back : Batch) (kept : Part) → front ++ back ≡ bs → entries_after_batch es bs ≡ puts front ++ (kept ++ puts back) → IsKeptEntry es bs kept
by_parts es bs front back kept all is =
    let cut : puts bs ≡ puts front ++ puts back = ap puts (sym all) ∙ puts-append front back in
    record {
      alone = λ none.
          let long : length (puts front) + length (puts back) ≡ 0 = sym (length-append (puts front) (puts back)) ∙ ap length (sym cut ∙ none) in
          is ∙ ap₂ (λ a b. a ++ (kept ++ b)) (nil_from_length (puts front) (omega arith)) (nil_from_length (puts back) (omega arith)) ∙ append-nil kept;
      gone = λ none. is ∙ ap (λ k. puts front ++ (k ++ puts back)) none ∙ sym cut;
      count = let e = ap length is in let f = ap length cut in omega (arith, length-append (puts front) (kept ++ puts back), length-append kept (puts back), length-append (puts front) (puts back));
    }

pub kept_none : (bs : Batch) → T (is_sorted key_cmp bs) → IsKeptEntry [] bs []
kept_none bs sorted = by_parts [] bs [] bs [] refl (applied-puts bs sorted)

pub kept_leaf : (q w : List ℕ) (bs : Batch) (r : ℕ) (named : Bool) → T (is_sorted key_cmp bs) → IsPlace q bs r → IsFirstKey q (drop r bs) named → IsKeptEntry ((q, w) ∷ []) bs (kept_entry named q w)
kept_leaf q w bs r named sorted place is = by_parts ((q, w) ∷ []) bs (take r bs) (drop r bs) (kept_entry named q w) (take-append-drop r bs) (applied-one q w bs r named sorted place is)

kept_by : (own : Part) (q w : List ℕ) (bs : Batch) (r : ℕ) (named : Bool) → own ≡ (q, w) ∷ [] → T (is_sorted key_cmp bs) → IsPlace q bs r → IsFirstKey q (take (length bs - r) (drop r bs)) named → IsKeptEntry own bs (kept_entry named q w)
kept_by own q w bs r named own_is sorted place is = subst (λ es. IsKeptEntry es bs (kept_entry named q w)) (sym own_is) (kept_leaf q w bs r named sorted place (subst (λ t. IsFirstKey q t named) (take-rest r bs) is))

pub kept_gone : (own : Part) (q w : List ℕ) (bs : Batch) (r : ℕ) (named : Bool) → own ≡ (q, w) ∷ [] → T (is_sorted key_cmp bs) → IsPlace q bs r → IsFirstKey q (take (length bs - r) (drop r bs)) named → named ≡ true → IsKeptEntry own bs []
kept_gone own q w bs r named own_is sorted place is on = subst (λ n. IsKeptEntry own bs (kept_entry n q w)) on (kept_by own q w bs r named own_is sorted place is)

pub kept_stays : (own : Part) (q w : List ℕ) (bs : Batch) (r : ℕ) (named : Bool) → own ≡ (q, w) ∷ [] → T (is_sorted key_cmp bs) → IsPlace q bs r → IsFirstKey q (take (length bs - r) (drop r bs)) named → named ≡ false → IsKeptEntry own bs own
kept_stays own q w bs r named own_is sorted place is off = subst (IsKeptEntry own bs) (sym own_is) (subst (λ n. IsKeptEntry own bs (kept_entry n q w)) off (kept_by own q w bs r named own_is sorted place is))

-- ---- the first change that puts a value
pub puts_at : (bs : Batch) (i : ℕ) (c : Change) (v : List ℕ) → i < length bs → puts (take i bs) ≡ [] → (get_or bs i c).1 ≡ Some v → puts bs ≡ ((get_or bs i c).0, v) ∷ puts (drop (suc i) bs)
puts_at [] i c v lt none is = absurd (omega arith)
puts_at (b ∷ bs) zero c v lt none is = ap (λ o. with_put b.0 o (puts bs)) is
puts_at (b ∷ bs) (suc i) c v lt none is =
    elim b.1 as (λ o. with_put b.0 o (puts (take i bs)) ≡ [] → with_put b.0 o (puts bs) ≡ ((get_or bs i c).0, v) ∷ puts (drop (suc i) bs)) [
      | None ↦ λ none. puts_at bs i c v (omega arith) none is
      | Some w ↦ λ none. absurd (let e = ap length none in omega arith)
    ] none

nothing_put : (k : List ℕ) (o : Option (List ℕ)) → is_some o ≡ false → with_put k o [] ≡ []
nothing_put k None off = refl
nothing_put k (Some v) off = absurd (true≢false off)

-- a change that puts nothing adds nothing
pub puts_more : (bs : Batch) (i : ℕ) (item : Change) → i < length bs → item ≡ get_or bs i item → is_some item.1 ≡ false → puts (take i bs) ≡ [] → puts (take (i + 1) bs) ≡ []
puts_more bs i item lt at off none = sym (push_step [] [] [] bs i item (sym none) lt at (sym (nothing_put item.0 item.1 off)))

pub get_or-any : {X : Type 0} (xs : List X) (i : ℕ) (a b : X) → i < length xs → get_or xs i a ≡ get_or xs i b
get_or-any [] i a b lt = absurd (omega arith)
get_or-any (x ∷ xs) zero a b lt = refl
get_or-any (x ∷ xs) (suc i) a b lt = get_or-any xs i a b (omega arith)

-- the only put
pub only_is : (bs : Batch) (i : ℕ) (c d : Change) (v : List ℕ) → i < length bs → puts (take i bs) ≡ [] → (get_or bs i c).1 ≡ Some v → puts (take (length bs - (i + 1)) (drop (i + 1) bs)) ≡ [] → puts bs ≡ ((get_or bs i d).0, v) ∷ []
only_is bs i c d v lt before is after =
    puts_at bs i c v lt before is ∙ ap (λ t. ((get_or bs i c).0, v) ∷ t) (ap (λ k. puts (drop k bs)) (sym (add-one i)) ∙ ap puts (sym (take-rest (i + 1) bs)) ∙ after)
    ∙ ap (λ (x : Change). (x.0, v) ∷ []) (get_or-any bs i c d lt)

pub some_puts : (bs : Batch) (i : ℕ) → IsFirstPut bs i → 1 ≤ length (puts bs)
some_puts bs i first = elim (get_or bs i ([], None)).1 as (λ o. (get_or bs i ([], None)).1 ≡ o → IsSome o → 1 ≤ length (puts bs)) [
  | None ↦ λ is h. absurd (true≢false (sym h))
  | Some v ↦ λ is h. omega (arith, ap length (puts_at bs i ([], None) v first.within first.before is))
] refl (first.value ([], None))

pub two_puts : (bs : Batch) (i j : ℕ) (c : Change) (v : List ℕ) → i < length bs → puts (take i bs) ≡ [] → (get_or bs i c).1 ≡ Some v → IsFirstPut (take (length bs - (i + 1)) (drop (i + 1) bs)) j → 2 ≤ length (puts bs)
two_puts bs i j c v lt before is next =
    let more = some_puts (drop (suc i) bs) j (subst (λ k. IsFirstPut (drop k bs) j) (add-one i) (subst (λ t. IsFirstPut t j) (take-rest (i + 1) bs) next)) in
    let e = ap length (puts_at bs i c v lt before is) in omega arith

-- what the puts show is what there is, if nothing is kept
pub shows_puts : (own now ps : Part) (r : Remainder) → now ≡ ps → ShowsRemainder [] ps r → ShowsRemainder own now r
shows_puts own now ps Nothing is h = is ∙ h
shows_puts own now ps (Old x) is h = absurd (let e = h.2 in omega arith)
shows_puts own now ps (Put k v x) is h = (is ∙ h.0, h.1, h.2)
shows_puts own now ps Several is h = omega (arith, ap length is, h)

-- ---- values and their hashes at a place
pub short_at : (bs : Batch) (i : ℕ) (c : Change) (v : List ℕ) → AreShort bs → i < length bs → (get_or bs i c).1 ≡ Some v → length v ≤ max_value
short_at [] i c v h lt is = absurd (omega arith)
short_at (b ∷ bs) zero c v h lt is = subst (λ o. IfSome o (λ w. length w ≤ max_value)) is h.0
short_at (b ∷ bs) (suc i) c v h lt is = short_at bs i c v h.1 (omega arith) is

hash_at : (bs : Batch) (hs : List (List ℕ)) (i : ℕ) (c : Change) (h v : List ℕ) → AllZip IsValueHash bs hs → i < length bs → (get_or bs i c).1 ≡ Some v → get_or hs i h ≡ V v
hash_at [] hs i c h v each lt is = absurd (omega arith)
hash_at (b ∷ bs) [] i c h v each lt is = absurd each
hash_at (b ∷ bs) (x ∷ hs) zero c h v each lt is = subst (λ o. IfSome o (λ w. x ≡ V w)) is each.0
hash_at (b ∷ bs) (x ∷ hs) (suc i) c h v each lt is = hash_at bs hs i c h v each.1 (omega arith) is

pub hashed_at : (bs : Batch) (hs : List (List ℕ)) (i : ℕ) (c : Change) (h v : List ℕ) → AreValueHashes bs hs → i < length bs → (get_or bs i c).1 ≡ Some v → get_or hs i h ≡ V v
hashed_at bs hs i c h v a lt is = hash_at bs hs i c h v a.each lt is

long : (bs : Batch) (hs : List (List ℕ)) → AllZip IsValueHash bs hs → length hs ≡ length bs
long [] [] h = refl
long [] (x ∷ hs) h = absurd h
long (b ∷ bs) [] h = absurd h
long (b ∷ bs) (x ∷ hs) h = ap suc (long bs hs h.1)

pub hashes_long : (bs : Batch) (hs : List (List ℕ)) → AreValueHashes bs hs → length hs ≡ length bs
hashes_long bs hs h = long bs hs h.each

front : (n : ℕ) (bs : Batch) (hs : List (List ℕ)) → AllZip IsValueHash bs hs → AllZip IsValueHash (take n bs) (take n hs)
front zero bs hs h = tt
front (suc n) [] [] h = tt
front (suc n) [] (x ∷ hs) h = absurd h
front (suc n) (b ∷ bs) [] h = absurd h
front (suc n) (b ∷ bs) (x ∷ hs) h = (h.0, front n bs hs h.1)

back : (n : ℕ) (bs : Batch) (hs : List (List ℕ)) → AllZip IsValueHash bs hs → AllZip IsValueHash (drop n bs) (drop n hs)
back zero bs hs h = h
back (suc n) [] [] h = tt
back (suc n) [] (x ∷ hs) h = absurd h
back (suc n) (b ∷ bs) [] h = absurd h
back (suc n) (b ∷ bs) (x ∷ hs) h = back n bs hs h.1

-- the hashes of a range of a batch
pub hashes_cut : (start n : ℕ) (bs : Batch) (hs cut : List (List ℕ)) → AreValueHashes bs hs → cut ≡ take n (drop start hs) → AreValueHashes (take n (drop start bs)) cut
hashes_cut start n bs hs cut h is = subst (AreValueHashes (take n (drop start bs))) (sym is) record { each = front n (drop start bs) (drop start hs) (back start bs hs h.each) }

-- the number of entries, if the entry that was there is kept
pub kept_and_put : (own kept : Part) (bs : Batch) (i : ℕ) → IsKeptEntry own bs kept → 1 ≤ length kept → IsFirstPut bs i → 2 ≤ length (entries_after_batch own bs)
kept_and_put own kept bs i k some first = omega (arith, k.count, some_puts bs i first)
