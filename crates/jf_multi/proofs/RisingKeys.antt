-- Keys rise if each is below the next.
use Rattle.std.specs.Prelude.{◌≡◌, ℕ, suc, ◌+◌, ◌-◌, ◌<◌, ◌≤◌, Bool, true, false, ◌&&◌, List, [], ◌∷◌, length, drop, T}
use Rattle.std.specs.FinMap.{is_sorted}
use Rattle.std.specs.FinMap.Entries.{below_all}
use Rattle.std.specs.Ordering.{is_lt}
use Rattle.std.proofs.Common.{refl, sym, ap, ◌∙◌, arith, subst, get_or, drop-cons, add-one}
use Rattle.std.proofs.lemmas.List.{at_drop_more}
use Rattle.jf_path.specs.Keys.{key_cmp}
use Rattle.jf_path.proofs.BoolLaws.{true_from_T}
use Rattle.jf_path.proofs.OrderLaws.{Less-from_is_lt}
use Rattle.jf_hash.proofs.KeyOrder.{below-rest, below_all-further}
use Rattle.jf_multi.specs.SharedTrees.{as_entries}

both_or_less : (lt below sorted : Bool) → (lt ≡ true → sorted ≡ true → below ≡ true) → ((lt && below) && sorted) ≡ (lt && sorted)
both_or_less true true sorted h = refl
both_or_less true false true h = h refl refl
both_or_less true false false h = refl
both_or_less false below sorted h = refl

-- keys rise exactly if the first is below the second, and all after the first rise
sorted-pair : {X : Type 0} (e f : List ℕ × X) (es : List (List ℕ × X)) → is_sorted key_cmp (e ∷ f ∷ es) ≡ (is_lt (key_cmp e.0 f.0) && is_sorted key_cmp (f ∷ es))
sorted-pair e f es =
    both_or_less (is_lt (key_cmp e.0 f.0)) (below_all key_cmp e.0 es) (is_sorted key_cmp (f ∷ es)) (λ lt sorted.
    true_from_T _ (below_all-further e.0 f.0 es (Less-from_is_lt _ (subst T (sym lt) tt)) (below-rest f es (subst T (sym sorted) tt))))

two_next : (i : ℕ) (keys : List (List ℕ)) (a b : List ℕ) → 1 ≤ i → i < length keys → drop (i - 1) keys ≡ get_or keys (i - 1) a ∷ get_or keys i b ∷ drop (i + 1) keys
two_next i keys a b some lt =
    let n : suc (i - 1) ≡ i = omega arith in
    drop-cons keys (i - 1) a (omega arith)
    ∙ ap (λ (j : ℕ). get_or keys (i - 1) a ∷ drop j keys) n
    ∙ ap (λ (ks : List (List ℕ)). get_or keys (i - 1) a ∷ ks) (rw add-one (drop-cons keys i b lt))

next_keys : (i : ℕ) (keys : List (List ℕ)) (b : List ℕ) → i < length keys → drop i keys ≡ get_or keys i b ∷ drop (i + 1) keys
next_keys i keys b lt = at_drop_more (λ (ks : List (List ℕ)). ks) keys i b lt

-- whether keys rise from a place on, by the next two
rising_step : (i : ℕ) (keys : List (List ℕ)) (a b : List ℕ) → 1 ≤ i → i < length keys
    → is_sorted key_cmp (as_entries (drop (i - 1) keys)) ≡ (is_lt (key_cmp (get_or keys (i - 1) a) (get_or keys i b)) && is_sorted key_cmp (as_entries (drop i keys)))
rising_step i keys a b some lt =
    ap (λ (ks : List (List ℕ)). is_sorted key_cmp (as_entries ks)) (two_next i keys a b some lt)
    ∙ sorted-pair (get_or keys (i - 1) a, tt) (get_or keys i b, tt) (as_entries (drop (i + 1) keys))
    ∙ ap (λ (ks : List (List ℕ)). is_lt (key_cmp (get_or keys (i - 1) a) (get_or keys i b)) && is_sorted key_cmp (as_entries ks)) (sym (next_keys i keys b lt))

pub rising_stops : (i : ℕ) (keys : List (List ℕ)) (a b : List ℕ) → 1 ≤ i → i < length keys → is_lt (key_cmp (get_or keys (i - 1) a) (get_or keys i b)) ≡ false
    → is_sorted key_cmp (as_entries (drop (i - 1) keys)) ≡ false
rising_stops i keys a b some lt is = rising_step i keys a b some lt ∙ ap (λ t. t && is_sorted key_cmp (as_entries (drop i keys))) is

pub rising_goes_on : (i : ℕ) (keys : List (List ℕ)) (a b : List ℕ) → 1 ≤ i → i < length keys → is_lt (key_cmp (get_or keys (i - 1) a) (get_or keys i b)) ≡ true
    → is_sorted key_cmp (as_entries (drop (i - 1) keys)) ≡ is_sorted key_cmp (as_entries (drop i keys))
rising_goes_on i keys a b some lt is = rising_step i keys a b some lt ∙ ap (λ t. t && is_sorted key_cmp (as_entries (drop i keys))) is

-- at most one key rises
pub rising_end : (keys : List (List ℕ)) → length keys ≤ 1 → is_sorted key_cmp (as_entries keys) ≡ true
rising_end [] few = refl
rising_end (k ∷ []) few = refl
rising_end (k ∷ l ∷ ks) few = absurd (omega arith)
