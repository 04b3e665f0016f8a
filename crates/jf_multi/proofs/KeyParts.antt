-- Keys in order, cut by their next bit.
use Rattle.std.specs.Prelude.{◌≡◌, ℕ, ◌+◌, ◌-◌, ◌<◌, Bool, true, false, not, cond, List, [], ◌∷◌, length, filter, map, take, drop, T}
use Rattle.std.specs.List.{AllByRecursion}
use Rattle.std.specs.FinMap.{is_sorted}
use Rattle.std.proofs.Common.{refl, sym, ap, ◌∙◌, arith, subst, take_all, length-drop, get_or}
use Rattle.std.proofs.lemmas.List.{take-map, drop-map, get_or-map, length-map}
use Rattle.jf_path.specs.Keys.{bit, key_cmp, IsKey}
use Rattle.jf_hash.specs.Parts.{IsPart, IsFirstOne}
use Rattle.jf_hash.proofs.Split.{zeros_ones, zeros_part, ones_part}
use Rattle.jf_multi.specs.SharedTrees.{as_entries, zero_keys, one_keys}

abbrev Entry : Type 0
Entry = List ℕ × Unit {0}

-- a test on keys keeps the entries of the keys that it keeps
filter-as_entries : (p : List ℕ → Bool) (keys : List (List ℕ)) → filter (λ (e : Entry). p e.0) (as_entries keys) ≡ as_entries (filter p keys)
filter-as_entries p [] = refl
filter-as_entries p (k ∷ ks) =
    elim (p k) as (λ b. cond b ((k, tt) ∷ filter (λ (e : Entry). p e.0) (as_entries ks)) (filter (λ (e : Entry). p e.0) (as_entries ks)) ≡ as_entries (cond b (k ∷ filter p ks) (filter p ks))) [
      | true ↦ ap (λ (t : List Entry). (k, tt) ∷ t) (filter-as_entries p ks)
      | false ↦ filter-as_entries p ks
    ]

keys_of : (keys : List (List ℕ)) → map (λ (e : Entry). e.0) (as_entries keys) ≡ keys
keys_of [] = refl
keys_of (k ∷ ks) = ap (λ (t : List (List ℕ)). k ∷ t) (keys_of ks)

same_keys : (a b : List (List ℕ)) → as_entries a ≡ as_entries b → a ≡ b
same_keys a b e = sym (keys_of a) ∙ ap (map (λ (e : Entry). e.0)) e ∙ keys_of b

-- the keys with bit 0 stand before those with bit 1
pub zero_keys-take : (d p : ℕ) (keys : List (List ℕ)) → IsPart d (as_entries keys) → IsFirstOne d p (as_entries keys) → zero_keys d keys ≡ take p keys
zero_keys-take d p keys part first =
    same_keys _ _ (sym (filter-as_entries (λ k. not (bit k d)) keys) ∙ (zeros_ones d p (as_entries keys) part first).0 ∙ take-map (λ (k : List ℕ). (k, tt)) p keys)

pub one_keys-drop : (d p : ℕ) (keys : List (List ℕ)) → IsPart d (as_entries keys) → IsFirstOne d p (as_entries keys) → one_keys d keys ≡ take (length keys - p) (drop p keys)
one_keys-drop d p keys part first =
    same_keys _ _ (sym (filter-as_entries (λ k. bit k d) keys) ∙ (zeros_ones d p (as_entries keys) part first).1 ∙ drop-map (λ (k : List ℕ). (k, tt)) p keys)
    ∙ sym (take_all (length keys - p) (drop p keys) (omega (arith, length-drop p keys)))

pub zero_keys-IsPart : (d next p : ℕ) (keys : List (List ℕ)) → next ≡ d + 1 → IsPart d (as_entries keys) → IsFirstOne d p (as_entries keys) → IsPart next (as_entries (take p keys))
zero_keys-IsPart d next p keys e part first =
    subst (λ n. IsPart n (as_entries (take p keys))) (sym e) (
    subst (IsPart (d + 1)) (filter-as_entries (λ k. not (bit k d)) keys ∙ ap as_entries (zero_keys-take d p keys part first)) (zeros_part d (as_entries keys) part))

pub one_keys-IsPart : (d next p : ℕ) (keys : List (List ℕ)) → next ≡ d + 1 → IsPart d (as_entries keys) → IsFirstOne d p (as_entries keys) → IsPart next (as_entries (take (length keys - p) (drop p keys)))
one_keys-IsPart d next p keys e part first =
    subst (λ n. IsPart n (as_entries (take (length keys - p) (drop p keys)))) (sym e) (
    subst (IsPart (d + 1)) (filter-as_entries (λ k. bit k d) keys ∙ ap as_entries (one_keys-drop d p keys part first)) (ones_part d (as_entries keys) part))

-- keys that rise strictly are the part of depth 0
all_keys : (keys : List (List ℕ)) → AllByRecursion IsKey keys → AllByRecursion (λ (e : Entry). IsKey e.0) (as_entries keys)
all_keys [] all = tt
all_keys (k ∷ ks) all = (all.0, all_keys ks all.1)

none_agree : (keys : List (List ℕ)) → AllByRecursion (λ (e : Entry). (i : ℕ) → i < 0 → bit e.0 i ≡ false) (as_entries keys)
none_agree [] = tt
none_agree (k ∷ ks) = (λ i lt. absurd (omega arith), none_agree ks)

pub IsPart-sorted : (depth : ℕ) (keys : List (List ℕ)) → depth ≡ 0 → T (is_sorted key_cmp (as_entries keys)) → AllByRecursion IsKey keys → IsPart depth (as_entries keys)
IsPart-sorted depth keys e sorted all =
    subst (λ n. IsPart n (as_entries keys)) (sym e) (record { sorted = sorted; keys = all_keys keys all; path = λ i. false; agree = none_agree keys })

-- ---- the first key whose bit is 1
pub get_or-as_entries : (keys : List (List ℕ)) (i : ℕ) (x : Entry) (d : List ℕ) → i < length keys → (get_or (as_entries keys) i x).0 ≡ get_or keys i d
get_or-as_entries keys i x d lt = ap (λ (e : Entry). e.0) (get_or-map (λ (k : List ℕ). (k, tt)) keys i d x lt)

pub length-as_entries : (keys : List (List ℕ)) → length (as_entries keys) ≡ length keys
length-as_entries keys = length-map keys (λ (k : List ℕ). (k, tt))
