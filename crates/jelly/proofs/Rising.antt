-- Leaves whose keys rise, one after another.
use Rattle.std.specs.Prelude.{◌≡◌, ◌+◌, ◌-◌, ◌<◌, ℕ, zero, suc, List, [], ◌∷◌, ◌++◌, take, drop, length, Bool, true, false, T}
use Rattle.std.proofs.Common.{sym, ap, subst, ◌∙◌, arith, get_or, Less, true≢false}
use Rattle.std.proofs.lemmas.List.{take_more, drop_more, drop-take, length-take-le}
use Rattle.std.specs.FinMap.{is_sorted}
use Rattle.std.specs.Ordering.{is_lt}
use Rattle.jf_path.specs.Keys.{key_cmp}
use Rattle.jf_path.proofs.OrderLaws.{Less-from_is_lt}
use Rattle.jf_path.proofs.BoolLaws.{not_so}
use Rattle.jf_hash.specs.Roots.{Leaf}
use Rattle.jf_hash.proofs.KeyOrder.{sorted-rises}
use Rattle.jf_evidence.proofs.RangeChecks.{sorted-more, sorted-after_last}

-- whether keys rise
abbrev pub rise : List Leaf → Bool
rise ls = is_sorted key_cmp ls

-- the last of the leaves up to a place
last_taken : (ls : List Leaf) (i : ℕ) (d : Leaf) → suc i < length ls → drop (length (take (suc i) ls) - 1) (take (suc i) ls) ≡ get_or ls i d ∷ []
last_taken ls i d within =
    let n : length (take (suc i) ls) - 1 ≡ i = omega (arith, length-take-le (suc i) ls (omega arith)) in
    let m : suc i ≡ i + 1 = omega arith in
    ap (λ k. drop k (take (suc i) ls)) n ∙ ap (λ k. drop i (take k ls)) m ∙ drop-take i 1 ls ∙ ap (take 1) (drop_more ls i d (omega arith))

-- keys that rise go on rising with one more above the last
pub rise-more : (ls : List Leaf) (i : ℕ) (d : Leaf) → 0 < i → i < length ls → is_lt (key_cmp (get_or ls (i - 1) d).0 (get_or ls i d).0) ≡ true → T (rise (take i ls)) → T (rise (take (i + 1) ls))
rise-more ls zero d some within lt rises = absurd (omega arith)
rise-more ls (suc i) d some within lt rises =
    let before : suc i - 1 ≡ i = omega arith in
    let less : key_cmp (get_or ls i d).0 (get_or ls (suc i) d).0 ≡ Less = Less-from_is_lt _ (subst T (sym (ap (λ k. is_lt (key_cmp (get_or ls k d).0 (get_or ls (suc i) d).0)) (sym before) ∙ lt)) tt) in
    subst (λ (xs : List Leaf). T (rise xs)) (sym (take_more ls (suc i) d within))
    (sorted-after_last (take (suc i) ls) (get_or ls (suc i) d ∷ []) rises
    (subst (λ (xs : List Leaf). T (rise (xs ++ get_or ls (suc i) d ∷ []))) (sym (last_taken ls i d within)) (sorted-more (get_or ls i d) (get_or ls (suc i) d) [] less tt)))

-- keys don't rise if one isn't above the one before it
pub rise-broken : (ls : List Leaf) (i : ℕ) (d : Leaf) → 0 < i → i < length ls → is_lt (key_cmp (get_or ls (i - 1) d).0 (get_or ls i d).0) ≡ false → false ≡ rise ls
rise-broken ls i d some within other = not_so _ (λ rises. true≢false (sym (ap is_lt (sorted-rises ls (i - 1) i d rises (omega arith) within)) ∙ other))
