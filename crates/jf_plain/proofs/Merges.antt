-- Merging a batch into entries, key by key: the entries below the key stay, the one with the key goes, and what is put comes.
use Rattle.std.proofs.Common.{◌≡◌, ℕ, List, ap, ◌∙◌, Less, Greater, ◌-◌, not, cond, ◌∷◌, is_eq, Option, None, Some, [], refl, T, zero, suc, drop, sym, subst, Equal, arith, ◌+◌, ◌++◌, take, zero-add, append_assoc, append-nil, ◌<◌, length, get_or, add-one, drop-cons, ◌≤◌, length-drop}
use Rattle.std.specs.Cmp.{tied_itself}
use Rattle.std.specs.Cmp.Lexicographic.{nat_list_cmp_total}
use Rattle.std.specs.FinMap.{put, is_sorted}
use Rattle.std.specs.FinMap.Entries.{by_order, below_all}
use Rattle.std.specs.Ordering.{ordering_reverse}
use Rattle.jf_path.specs.Keys.{key_cmp}
use Rattle.jf_path.proofs.BoolLaws.{left_so, right_so, both_so}
use Rattle.jf_path.proofs.OrderLaws.{Less-from_is_lt, is_lt-from_Less}
use Rattle.jf_path.proofs.ListLaws.{take-rest}
use Rattle.jf_hash.specs.Maps.{Batch}
use Rattle.jf_hash.proofs.KeyOrder.{below_all-further, same_key-exact}
use Rattle.jf_model.specs.Changes.{MapEntry, entries_after_change, entries_after_batch, with_put}
use Rattle.jf_model.proofs.ChangeLaws.{changed-none}
use Rattle.jf_plain.specs.Entries.{IsCountBelow, IsCountAt}

greater_so : (a b : List ℕ) → key_cmp a b ≡ Less → key_cmp b a ≡ Greater
greater_so a b h = nat_list_cmp_total.antisymm b a ∙ ap ordering_reverse h

-- a change of a later key leaves the first entry unchanged
changed-later : (k : List ℕ) (v : Option (List ℕ)) (e : MapEntry) (es : List MapEntry) → key_cmp e.0 k ≡ Less → entries_after_change k v (e ∷ es) ≡ e ∷ entries_after_change k v es
changed-later k (Some v) e es lt = ap (λ r. by_order r ((k, v) ∷ e ∷ es) ((e.0, v) ∷ es) (e ∷ put key_cmp k v es)) (greater_so e.0 k lt)
changed-later k None e es lt = ap (λ r. cond (not (is_eq r)) (e ∷ entries_after_change k None es) (entries_after_change k None es)) (greater_so e.0 k lt)

-- a batch of later keys leaves the first entry unchanged
applied-later : (e : MapEntry) (es : List MapEntry) (bs : Batch) → T (below_all key_cmp e.0 bs) → entries_after_batch (e ∷ es) bs ≡ e ∷ entries_after_batch es bs
unfolding entries_after_batch
applied-later e es [] below = refl
applied-later e es (b ∷ bs) below =
    ap (λ t. entries_after_batch t bs) (changed-later b.0 b.1 e es (Less-from_is_lt (key_cmp e.0 b.0) (left_so _ _ below))) ∙ applied-later e (entries_after_change b.0 b.1 es) bs (right_so _ _ below)

applied-put : (k : List ℕ) (v : Option (List ℕ)) (es : List MapEntry) (bs : Batch) → T (below_all key_cmp k bs) → entries_after_batch (with_put k v es) bs ≡ with_put k v (entries_after_batch es bs)
applied-put k (Some v) es bs below = applied-later (k, v) es bs below
applied-put k None es bs below = refl

drop-nil : (n : ℕ) → drop {A = MapEntry} n [] ≡ []
drop-nil zero = refl
drop-nil (suc n) = refl

-- a removal changes nothing of entries with later keys
none_removed : (k : List ℕ) (es : List MapEntry) → T (below_all key_cmp k es) → entries_after_change k None es ≡ es
none_removed k [] h = refl
none_removed k (e ∷ es) h =
    ap (λ r. cond (not (is_eq r)) (e ∷ entries_after_change k None es) (entries_after_change k None es)) (Less-from_is_lt (key_cmp k e.0) (left_so _ _ h)) ∙ ap (λ t. e ∷ t) (none_removed k es (right_so _ _ h))

changed-before : (k : List ℕ) (v : Option (List ℕ)) (e : MapEntry) (es : List MapEntry) → T (is_sorted key_cmp (e ∷ es)) → key_cmp k e.0 ≡ Less → entries_after_change k v (e ∷ es) ≡ with_put k v (e ∷ es)
changed-before k (Some v) e es sorted lt = ap (λ r. by_order r ((k, v) ∷ e ∷ es) ((e.0, v) ∷ es) (e ∷ put key_cmp k v es)) lt
changed-before k None e es sorted lt = none_removed k (e ∷ es) (both_so _ _ (is_lt-from_Less (key_cmp k e.0) lt) (below_all-further k e.0 es lt (left_so _ _ sorted)))

changed-at : (k : List ℕ) (v : Option (List ℕ)) (e : MapEntry) (es : List MapEntry) → T (is_sorted key_cmp (e ∷ es)) → k ≡ e.0 → entries_after_change k v (e ∷ es) ≡ with_put k v es
changed-at k (Some v) e es sorted same =
    ap (λ r. by_order r ((k, v) ∷ e ∷ es) ((e.0, v) ∷ es) (e ∷ put key_cmp k v es)) (ap (key_cmp k) (sym same) ∙ tied_itself nat_list_cmp_total k) ∙ ap (λ z. (z, v) ∷ es) (sym same)
changed-at k None e es sorted same =
    ap (λ r. cond (not (is_eq r)) (e ∷ entries_after_change k None es) (entries_after_change k None es)) (ap (key_cmp k) (sym same) ∙ tied_itself nat_list_cmp_total k)
    ∙ none_removed k es (subst (λ q. T (below_all key_cmp q es)) (sym same) (left_so _ _ sorted))

not_below : (a b : List ℕ) → (key_cmp a b ≡ Less → ⊥) → (b ≡ a → ⊥) → key_cmp b a ≡ Less
not_below a b late differ = elim (key_cmp a b) as (λ r. key_cmp a b ≡ r → key_cmp b a ≡ Less) [
  | Less ↦ λ is. absurd (late is)
  | Equal ↦ λ is. absurd (differ (sym (same_key-exact a b is)))
  | Greater ↦ λ is. nat_list_cmp_total.antisymm b a ∙ ap ordering_reverse is
] refl

changed-here : (k : List ℕ) (v : Option (List ℕ)) (n : ℕ) (es : List MapEntry) → T (is_sorted key_cmp es) → IsCountBelow k es 0 → IsCountAt k es n → entries_after_change k v es ≡ with_put k v (drop n es)
changed-here k v n [] sorted below at = changed-none k v ∙ ap (λ t. with_put k v t) (sym (drop-nil n))
changed-here k v zero (e ∷ es) sorted below at = changed-before k v e es sorted (not_below e.0 k (below.next e (omega arith)) (λ same. at.other e (omega arith) refl same))
changed-here k v (suc n) (e ∷ es) sorted below at =
    let one : n ≡ 0 = let w = at.one in omega arith in
    changed-at k v e es sorted (at.same e (omega arith)) ∙ ap (λ m. with_put k v (drop m es)) (sym one)

later_count : (k : List ℕ) (e : MapEntry) (es : List MapEntry) (i : ℕ) → IsCountBelow k (e ∷ es) (suc i) → IsCountBelow k es i
later_count k e es i h = record { within = let w = h.within in omega arith; before = λ j d lt. h.before (suc j) d (omega arith); next = λ d lt. h.next d (omega arith) }

-- a batch gives the entries below its next key, what it puts there, and then its rest's result for the entries after them
pub applied-step : (es : List MapEntry) (k : List ℕ) (v : Option (List ℕ)) (bs : Batch) (i n : ℕ) → T (is_sorted key_cmp es) → T (is_sorted key_cmp ((k, v) ∷ bs)) → IsCountBelow k es i → IsCountAt k (drop i es) n
    → entries_after_batch es ((k, v) ∷ bs) ≡ take i es ++ with_put k v (entries_after_batch (drop n (drop i es)) bs)
unfolding entries_after_batch
applied-step es k v bs zero n sorted rising below at = ap (λ t. entries_after_batch t bs) (changed-here k v n es sorted below at) ∙ applied-put k v (drop n es) bs (left_so _ _ rising)
applied-step [] k v bs (suc i) n sorted rising below at = absurd (let w = below.within in omega arith)
applied-step (e ∷ es) k v bs (suc i) n sorted rising below at =
    let lt : key_cmp e.0 k ≡ Less = below.before 0 e (omega arith) in
    applied-later e es ((k, v) ∷ bs) (both_so _ _ (is_lt-from_Less (key_cmp e.0 k) lt) (below_all-further e.0 k bs lt (left_so _ _ rising)))
    ∙ ap (λ t. e ∷ t) (applied-step es k v bs i n (right_so _ _ sorted) rising (later_count k e es i below) at)

-- ---- one turn of the merge
one_more : (a b : ℕ) → suc (a + b) ≡ suc a + b
one_more a b = omega arith

drop-drop : (a b : ℕ) (es : List MapEntry) → drop b (drop a es) ≡ drop (a + b) es
drop-drop zero b es = ap (λ n. drop n es) (sym (zero-add b))
drop-drop (suc a) b [] = drop-nil b ∙ sym (drop-nil (suc a + b))
drop-drop (suc a) b (e ∷ es) = drop-drop a b es ∙ ap (λ n. drop n (e ∷ es)) (one_more a b)

sorted-drop : (i : ℕ) (es : List MapEntry) → T (is_sorted key_cmp es) → T (is_sorted key_cmp (drop i es))
sorted-drop zero es h = h
sorted-drop (suc i) [] h = tt
sorted-drop (suc i) (e ∷ es) h = sorted-drop i es (right_so _ _ h)

sorted_after : (i : ℕ) (bs : Batch) → T (is_sorted key_cmp bs) → T (is_sorted key_cmp (drop i bs))
sorted_after zero bs h = h
sorted_after (suc i) [] h = tt
sorted_after (suc i) (b ∷ bs) h = sorted_after i bs (right_so _ _ h)

put_after : (k : List ℕ) (v : Option (List ℕ)) (xs ys : List MapEntry) → (xs ++ with_put k v []) ++ ys ≡ xs ++ with_put k v ys
put_after k (Some v) xs ys = append_assoc xs ((k, v) ∷ []) ys
put_after k None xs ys = ap (λ t. t ++ ys) (append-nil xs)

next_item : (bs : Batch) (j : ℕ) (item : List ℕ × Option (List ℕ)) → j < length bs → item ≡ get_or bs j item → drop j bs ≡ (item.0, item.1) ∷ drop (j + 1) bs
next_item bs j item lt at = drop-cons bs j item lt ∙ ap (λ x. (x.0, x.1) ∷ drop (suc j) bs) (sym at) ∙ ap (λ n. (item.0, item.1) ∷ drop n bs) (sym (add-one j))

applied-none : (es : List MapEntry) (bs : Batch) → bs ≡ [] → entries_after_batch es bs ≡ es
unfolding entries_after_batch
applied-none es [] e = refl
applied-none es (b ∷ bs) e = absurd (cc)

drop_all : (j : ℕ) (bs : Batch) → length bs ≤ j → drop j bs ≡ []
drop_all zero [] h = refl
drop_all zero (b ∷ bs) h = absurd (omega arith)
drop_all (suc j) [] h = refl
drop_all (suc j) (b ∷ bs) h = drop_all j bs (omega arith)

back : (i n : ℕ) → i + n - i ≡ n
back i n = omega arith

-- one turn of the merge, by the places that it has reached in the entries and in the batch
pub record IsMergeTurn (es : List MapEntry) (bs : Batch) (i j : ℕ) (item : List ℕ × Option (List ℕ)) (below at : ℕ) : Type 0 where
  pub entries : T (is_sorted key_cmp es)
  pub batch : T (is_sorted key_cmp bs)
  pub short : i ≤ length es
  pub more : j < length bs
  pub item_is : item ≡ get_or bs j item
  pub below_is : IsCountBelow item.0 (take (length es - i) (drop i es)) below
  pub at_is : IsCountAt item.0 (take (length es - (i + below)) (drop (i + below) es)) at

length_after : (i : ℕ) (es : List MapEntry) → length (take (length es - i) (drop i es)) ≡ length es - i
length_after i es = ap length (take-rest i es) ∙ length-drop i es

pub turn-within : (es : List MapEntry) (bs : Batch) (i j : ℕ) (item : List ℕ × Option (List ℕ)) (below at : ℕ) → IsMergeTurn es bs i j item below at → i + below + at ≤ length es
turn-within es bs i j item below at t =
    let short = t.short in let first = t.below_is.within in let second = t.at_is.within in
    omega (arith, length_after i es, length_after (i + below) es)

pub turn-whole : (es : List MapEntry) (bs : Batch) (i j : ℕ) (item : List ℕ × Option (List ℕ)) (below at : ℕ) (xs ys zs whole : List MapEntry) → IsMergeTurn es bs i j item below at
    → ys ≡ xs ++ take (i + below - i) (drop i es) → zs ≡ ys ++ with_put item.0 item.1 [] → xs ++ entries_after_batch (drop i es) (drop j bs) ≡ whole
    → zs ++ entries_after_batch (drop (i + below + at) es) (drop (j + 1) bs) ≡ whole
turn-whole es bs i j item below at xs ys zs whole t copied put was =
    let rest = drop i es in
    let later = entries_after_batch (drop (i + below + at) es) (drop (j + 1) bs) in
    let gone : drop at (drop below rest) ≡ drop (i + below + at) es = ap (λ l. drop at l) (drop-drop i below es) ∙ drop-drop (i + below) at es in
    let counted : IsCountBelow item.0 rest below = subst (λ l. IsCountBelow item.0 l below) (take-rest i es) t.below_is in
    let stands : IsCountAt item.0 (drop below rest) at = subst (λ l. IsCountAt item.0 l at) (take-rest (i + below) es ∙ sym (drop-drop i below es)) t.at_is in
    let rising : T (is_sorted key_cmp ((item.0, item.1) ∷ drop (j + 1) bs)) = subst (λ l. T (is_sorted key_cmp l)) (next_item bs j item t.more t.item_is) (sorted_after j bs t.batch) in
    let step : entries_after_batch rest (drop j bs) ≡ take below rest ++ with_put item.0 item.1 later =
    ap (entries_after_batch rest) (next_item bs j item t.more t.item_is) ∙ applied-step rest item.0 item.1 (drop (j + 1) bs) below at (sorted-drop i es t.entries) rising counted stands
    ∙ ap (λ l. take below rest ++ with_put item.0 item.1 (entries_after_batch l (drop (j + 1) bs))) gone in
    ap (λ l. l ++ later) (put ∙ ap (λ l. l ++ with_put item.0 item.1 []) (copied ∙ ap (λ n. xs ++ take n rest) (back i below)))
    ∙ put_after item.0 item.1 (xs ++ take below rest) later ∙ append_assoc xs (take below rest) (with_put item.0 item.1 later) ∙ ap (λ l. xs ++ l) (sym step) ∙ was

-- after the last key of the batch, the rest of the entries follows
pub turn-last : (es : List MapEntry) (bs : Batch) (i j : ℕ) (xs ys : List MapEntry) → length bs ≤ j → ys ≡ xs ++ take (length es - i) (drop i es) → xs ++ entries_after_batch (drop i es) (drop j bs) ≡ entries_after_batch es bs → ys ≡ entries_after_batch es bs
turn-last es bs i j xs ys through copied was =
    copied ∙ ap (λ l. xs ++ l) (take-rest i es) ∙ ap (λ l. xs ++ l) (sym (applied-none (drop i es) (drop j bs) (drop_all j bs through))) ∙ was
