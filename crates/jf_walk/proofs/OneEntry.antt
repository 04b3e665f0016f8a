-- Applying a batch to at most one entry: the batch's puts, with the entry kept in its place unless the batch changes its key.
use Rattle.std.proofs.Common.{◌≡◌, ℕ, ◌-◌, List, T, Less, Greater, is_lt, not, cond, [], ◌∷◌, ◌++◌, refl, ap, ◌∙◌, is_eq, Option, None, Some, append_assoc, sym, append-nil, Equal, suc, arith, zero, Bool, true, false, take, drop, length, subst, ◌<◌, ◌≤◌, get_or, map, ap₂, true≢false}
use Rattle.std.proofs.lemmas.Slice.Eq.{bytes_eq-Decides}
use Rattle.std.specs.Cmp.{tied_itself}
use Rattle.std.specs.Cmp.Lexicographic.{nat_list_cmp_total}
use Rattle.std.specs.FinMap.{put, is_sorted}
use Rattle.std.specs.FinMap.Entries.{below_all, by_order}
use Rattle.std.specs.List.{AllByRecursion}
use Rattle.std.specs.Str.{bytes_eq}
use Rattle.jf_path.specs.Keys.{key_cmp}
use Rattle.jf_path.proofs.OrderLaws.{Less-from_is_lt, is_lt-from_Less}
use Rattle.jf_path.proofs.ListLaws.{All-append, take-rest}
use Rattle.jf_path.proofs.BoolLaws.{both_so}
use Rattle.jf_hash.specs.Slots.{Part}
use Rattle.jf_hash.specs.Maps.{Batch}
use Rattle.jf_hash.proofs.KeyOrder.{key_cmp-turned, below-first, below-later, below-rest, sorted-rest, same_key-exact, below_all-further}
use Rattle.jf_model.specs.Changes.{entries_after_change, with_put, entries_after_batch}
use Rattle.jf_model.specs.Puts.{Change, puts, IsPlace, IsFirstKey}
use Rattle.jf_model.proofs.ChangeLaws.{changed-none}
use Rattle.jf_walk.proofs.PutLaws.{with_put-append, kept_entry}

greater_so : (a b : List ℕ) → T (is_lt (key_cmp a b)) → key_cmp b a ≡ Greater
greater_so a b h = key_cmp-turned a b Less (Less-from_is_lt _ h)

-- each entry's key is below a key
abbrev AllBelow : List ℕ → Part → Type 0
AllBelow k xs = AllByRecursion (λ x. T (is_lt (key_cmp x.0 k))) xs

-- each entry's key is below all keys of a batch
abbrev AllBelowAll : Batch → Part → Type 0
AllBelowAll bs xs = AllByRecursion (λ x. T (below_all key_cmp x.0 bs)) xs

changed-after : (k : List ℕ) (v : Option (List ℕ)) (xs ys : Part) → AllBelow k xs → entries_after_change k v (xs ++ ys) ≡ xs ++ entries_after_change k v ys
changed-after k v [] ys h = refl
changed-after k (Some v) (x ∷ xs) ys h =
    ap (λ r. by_order r ((k, v) ∷ x ∷ (xs ++ ys)) ((x.0, v) ∷ (xs ++ ys)) (x ∷ put key_cmp k v (xs ++ ys))) (greater_so x.0 k h.0) ∙ ap (λ t. x ∷ t) (changed-after k (Some v) xs ys h.1)
changed-after k None (x ∷ xs) ys h =
    ap (λ r. cond (not (is_eq r)) (x ∷ entries_after_change k None (xs ++ ys)) (entries_after_change k None (xs ++ ys))) (greater_so x.0 k h.0) ∙ ap (λ t. x ∷ t) (changed-after k None xs ys h.1)

heads_below : (b : Change) (bs : Batch) (xs : Part) → AllBelowAll (b ∷ bs) xs → AllBelow b.0 xs
heads_below b bs [] h = tt
heads_below b bs (x ∷ xs) h = (is_lt-from_Less _ (below-first x.0 b bs h.0), heads_below b bs xs h.1)

rests_below : (b : Change) (bs : Batch) (xs : Part) → AllBelowAll (b ∷ bs) xs → AllBelowAll bs xs
rests_below b bs [] h = tt
rests_below b bs (x ∷ xs) h = (below-later x.0 b bs h.0, rests_below b bs xs h.1)

put_all : (P : List ℕ → Type 0) (k : List ℕ) (v : Option (List ℕ)) → P k → AllByRecursion (λ (e : List ℕ × List ℕ). P e.0) (with_put k v [])
put_all P k None p = tt
put_all P k (Some v) p = (p, tt)

more_below : (b : Change) (bs : Batch) (xs : Part) → T (below_all key_cmp b.0 bs) → AllBelowAll (b ∷ bs) xs → AllBelowAll bs (xs ++ with_put b.0 b.1 [])
more_below b bs xs sorted h = All-append (λ x. T (below_all key_cmp x.0 bs)) xs (with_put b.0 b.1 []) (rests_below b bs xs h) (put_all (λ k. T (below_all key_cmp k bs)) b.0 b.1 sorted)

put_after : (b : Change) (bs : Batch) (xs : Part) (ys : Part) → (xs ++ with_put b.0 b.1 []) ++ ys ≡ xs ++ with_put b.0 b.1 ys
put_after b bs xs ys = append_assoc xs (with_put b.0 b.1 []) ys ∙ ap (λ t. xs ++ t) (with_put-append b.0 b.1 [] ys)

applied-after : (xs : Part) (bs : Batch) → T (is_sorted key_cmp bs) → AllBelowAll bs xs → entries_after_batch xs bs ≡ xs ++ puts bs
unfolding entries_after_batch
applied-after xs [] sorted below = sym (append-nil xs)
applied-after xs (b ∷ bs) sorted below =
    ap (λ es. entries_after_batch (entries_after_change b.0 b.1 es) bs) (sym (append-nil xs))
    ∙ ap (λ es. entries_after_batch es bs) (changed-after b.0 b.1 xs [] (heads_below b bs xs below) ∙ ap (λ t. xs ++ t) (changed-none b.0 b.1))
    ∙ applied-after (xs ++ with_put b.0 b.1 []) bs (sorted-rest b bs sorted) (more_below b bs xs (below-rest b bs sorted) below)
    ∙ put_after b bs xs (puts bs)

-- applied to no entry, a batch gives what it puts
pub applied-puts : (bs : Batch) → T (is_sorted key_cmp bs) → entries_after_batch [] bs ≡ puts bs
applied-puts bs sorted = applied-after [] bs sorted tt

changed-before : (k q w : List ℕ) (v : Option (List ℕ)) → key_cmp k q ≡ Less → entries_after_change k v ((q, w) ∷ []) ≡ with_put k v ((q, w) ∷ [])
changed-before k q w (Some v) is = ap (λ r. by_order r ((k, v) ∷ (q, w) ∷ []) ((q, v) ∷ []) ((q, w) ∷ (k, v) ∷ [])) is
changed-before k q w None is = ap (λ r. cond (not (is_eq r)) ((q, w) ∷ []) []) is

changed-at : (k q w : List ℕ) (v : Option (List ℕ)) → k ≡ q → entries_after_change k v ((q, w) ∷ []) ≡ with_put k v []
changed-at k q w (Some v) is =
    ap (λ r. by_order r ((k, v) ∷ (q, w) ∷ []) ((q, v) ∷ []) ((q, w) ∷ (k, v) ∷ [])) (ap (key_cmp k) (sym is) ∙ tied_itself nat_list_cmp_total k) ∙ ap (λ z. (z, v) ∷ []) (sym is)
changed-at k q w None is = ap (λ r. cond (not (is_eq r)) ((q, w) ∷ []) []) (ap (key_cmp k) (sym is) ∙ tied_itself nat_list_cmp_total k)

not_before : (a b : List ℕ) → ¬ (key_cmp b a ≡ Less) → ¬ (b ≡ a) → key_cmp a b ≡ Less
not_before a b late differ = elim (key_cmp b a) as (λ r. key_cmp b a ≡ r → key_cmp a b ≡ Less) [
  | Less ↦ λ is. absurd (late is)
  | Equal ↦ λ is. absurd (differ (same_key-exact b a is))
  | Greater ↦ λ is. key_cmp-turned b a Greater is
] refl

later_place : (q : List ℕ) (b : Change) (bs : Batch) (r : ℕ) → IsPlace q (b ∷ bs) (suc r) → IsPlace q bs r
later_place q b bs r p = record { within = let w = p.within in omega arith; before = λ k x lt. p.before (suc k) x (omega arith); at = λ x lt. p.at x (omega arith) }

applied-own : (q w : List ℕ) (xs : Part) (bs : Batch) (r : ℕ) (named : Bool) → T (is_sorted key_cmp bs) → AllBelowAll bs xs → AllBelow q xs → IsPlace q bs r → IsFirstKey q (drop r bs) named
    → entries_after_batch (xs ++ (q, w) ∷ []) bs ≡ xs ++ (puts (take r bs) ++ (kept_entry named q w ++ puts (drop r bs)))
unfolding entries_after_batch
applied-own q w xs [] zero named sorted below under place is = ap (λ n. xs ++ (kept_entry n q w ++ [])) (sym is)
applied-own q w xs [] (suc r) named sorted below under place is = absurd (let w = place.within in omega arith)
applied-own q w xs (b ∷ bs) (suc r) named sorted below under place is =
    let first : key_cmp b.0 q ≡ Less = place.before 0 b (omega arith) in
    ap (λ es. entries_after_batch es bs) (changed-after b.0 b.1 xs ((q, w) ∷ []) (heads_below b bs xs below) ∙ ap (λ t. xs ++ t) (changed-before b.0 q w b.1 first) ∙ sym (put_after b bs xs ((q, w) ∷ [])))
    ∙ applied-own q w (xs ++ with_put b.0 b.1 []) bs r named (sorted-rest b bs sorted) (more_below b bs xs (below-rest b bs sorted) below)
    (All-append (λ x. T (is_lt (key_cmp x.0 q))) xs (with_put b.0 b.1 []) under (put_all (λ k. T (is_lt (key_cmp k q))) b.0 b.1 (is_lt-from_Less _ first)))
    (later_place q b bs r place) is
    ∙ put_after b bs xs (puts (take r bs) ++ (kept_entry named q w ++ puts (drop r bs)))
    ∙ ap (λ t. xs ++ t) (sym (with_put-append b.0 b.1 (puts (take r bs)) (kept_entry named q w ++ puts (drop r bs))))
applied-own q w xs (b ∷ bs) zero true sorted below under place is =
    ap (λ es. entries_after_batch es bs) (changed-after b.0 b.1 xs ((q, w) ∷ []) (heads_below b bs xs below) ∙ ap (λ t. xs ++ t) (changed-at b.0 q w b.1 (is.0 refl)))
    ∙ applied-after (xs ++ with_put b.0 b.1 []) bs (sorted-rest b bs sorted) (more_below b bs xs (below-rest b bs sorted) below)
    ∙ put_after b bs xs (puts bs)
applied-own q w xs (b ∷ bs) zero false sorted below under place is =
    let lt : key_cmp q b.0 ≡ Less = not_before q b.0 (place.at b (omega arith)) (is.1 refl) in
    applied-after (xs ++ (q, w) ∷ []) (b ∷ bs) sorted
    (All-append (λ x. T (below_all key_cmp x.0 (b ∷ bs))) xs ((q, w) ∷ []) below (both_so _ _ (is_lt-from_Less _ lt) (below_all-further q b.0 bs lt (below-rest b bs sorted)), tt))
    ∙ append_assoc xs ((q, w) ∷ []) (puts (b ∷ bs))

-- applied to one entry, a batch gives what it puts below it, the entry unless its key is changed, and what it puts from there on
pub applied-one : (q w : List ℕ) (bs : Batch) (r : ℕ) (named : Bool) → T (is_sorted key_cmp bs) → IsPlace q bs r → IsFirstKey q (drop r bs) named → entries_after_batch ((q, w) ∷ []) bs ≡ puts (take r bs) ++ (kept_entry named q w ++ puts (drop r bs))
applied-one q w bs r named sorted place is = applied-own q w [] bs r named sorted tt tt place is

-- a loop that appends these three pieces in turn applies the batch
pub merged_own : (q w : List ℕ) (bs : Batch) (r : ℕ) (named : Bool) (start first second third : Part) → T (is_sorted key_cmp bs) → IsPlace q bs r → IsFirstKey q (take (length bs - r) (drop r bs)) named
    → start ≡ [] → first ≡ start ++ puts (take r bs) → second ≡ first ++ kept_entry named q w → third ≡ second ++ puts (take (length bs - r) (drop r bs))
    → third ≡ entries_after_batch ((q, w) ∷ []) bs
merged_own q w bs r named start first second third sorted place is none a b c =
    let back = take-rest r bs in
    c ∙ ap (λ t. t ++ puts (take (length bs - r) (drop r bs))) (b ∙ ap (λ t. t ++ kept_entry named q w) (a ∙ ap (λ xs. xs ++ puts (take r bs)) none))
    ∙ ap (λ t. (puts (take r bs) ++ kept_entry named q w) ++ puts t) back
    ∙ append_assoc (puts (take r bs)) (kept_entry named q w) (puts (drop r bs))
    ∙ sym (applied-one q w bs r named sorted place (subst (λ t. IsFirstKey q t named) back is))

-- ---- whether entries are the single entry that was there
head_of : (List ℕ × List ℕ) → Part → (List ℕ × List ℕ)
head_of d [] = d
head_of d (e ∷ es) = e

module _ {X : Type 0} (view : X → List ℕ × List ℕ) where
  -- a single entry with the same key and value is that entry
  pub same_only : (xs : List X) (d : X) (k v : List ℕ) → 1 ≤ length xs → length xs < 2 → bytes_eq (view (get_or xs 0 d)).0 k ≡ true → bytes_eq (view (get_or xs 0 d)).1 v ≡ true → map view xs ≡ (k, v) ∷ []
  same_only [] d k v long short a b = absurd (omega arith)
  same_only (x ∷ []) d k v long short a b = ap₂ (λ k v. (k, v) ∷ []) ((bytes_eq-Decides (view x).0 k).0 a) ((bytes_eq-Decides (view x).1 v).0 b)
  same_only (x ∷ y ∷ xs) d k v long short a b = absurd (omega arith)

  -- entries whose first has another key are not that entry
  pub other_key : (xs : List X) (d : X) (k v : List ℕ) → 1 ≤ length xs → bytes_eq (view (get_or xs 0 d)).0 k ≡ false → ¬ (map view xs ≡ (k, v) ∷ [])
  unfolding head_of
  other_key [] d k v long a is = omega arith
  other_key (x ∷ xs) d k v long a is = true≢false (sym ((bytes_eq-Decides (view x).0 k).1 (ap (λ es. (head_of ([], []) es).0) is)) ∙ a)

  -- entries whose first has another value are not that entry
  pub other_value : (xs : List X) (d : X) (k v : List ℕ) → 1 ≤ length xs → bytes_eq (view (get_or xs 0 d)).1 v ≡ false → ¬ (map view xs ≡ (k, v) ∷ [])
  unfolding head_of
  other_value [] d k v long a is = omega arith
  other_value (x ∷ xs) d k v long a is = true≢false (sym ((bytes_eq-Decides (view x).1 v).1 (ap (λ es. (head_of ([], []) es).1) is)) ∙ a)
