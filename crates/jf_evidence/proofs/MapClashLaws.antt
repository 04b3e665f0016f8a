-- Two lists of entries with one root hash two different lists to one hash, or are the same.
use Rattle.std.specs.Prelude.{◌≡◌, ℕ, zero, suc, ◌-◌, List, [], ◌∷◌, length, map, ◌+◌, ◌≤◌, ◌<◌, ◌++◌, Bool, false, T, ◌≢◌}
use Rattle.std.proofs.Common.{◌∙◌, arith, sym, ap₂, refl, ap, append_assoc, subst}
use Rattle.std.proofs.lemmas.List.{append-nil}
use Rattle.std.specs.FinMap.{is_sorted, entries}
use Rattle.std.specs.FinMap as fin
use Rattle.std.specs.List.{AllByRecursion}
use Rattle.sha2.specs.Sha256.{sha256}
use Rattle.jf_path.specs.Keys.{IsKey, bit, key_cmp, IsBytes}
use Rattle.jf_hash.specs.Roots.{Leaf, root_below, part_root, leaves_root, leaf_of, zeros, ones, root}
use Rattle.jf_hash.specs.Hashes.{V}
use Rattle.jf_hash.specs.Parts.{IsPart}
use Rattle.jf_hash.specs.Maps.{Map, IsMap}
use Rattle.jf_hash.proofs.HashLaws.{E-IsKey, L-IsKey, N-IsKey}
use Rattle.jf_hash.proofs.RootLaws.{part_root-none, part_root-one, part_root-split, root-part_root}
use Rattle.jf_hash.proofs.Split.{deeper, zeros_part, ones_part}
use Rattle.jf_hash.proofs.MapLaws.{map-from_entries}
use Rattle.jf_evidence.specs.Ranges.{Entries, KeyAndValue}
use Rattle.jf_evidence.specs.Inputs.{none_input, leaf_input, pair_input, value_input, first_difference, Collides}
use Rattle.jf_evidence.specs.MapClashes.{part_inputs, entries_clash, maps_clash}
use Rattle.jf_evidence.proofs.InputLaws.{E-input, L-input, N-input, V-input}
use Rattle.jf_evidence.proofs.ClashLaws.{fronts, step}
use Rattle.jf_evidence.proofs.PartLaws.{same-halves}

-- ---- roots
root_below-long : (n d : ℕ) (es : List Leaf) → length (root_below n d es) ≡ 32
unfolding root_below
root_below-long n d [] = E-IsKey.long
root_below-long n d (e ∷ []) = (L-IsKey e.0 e.1).long
root_below-long zero d (e ∷ f ∷ es) = E-IsKey.long
root_below-long (suc n) d (e ∷ f ∷ es) = (N-IsKey _ _).long

-- a root has 32 bytes
pub part_root-long : (d : ℕ) (es : Entries) → length (part_root d es) ≡ 32
unfolding part_root leaves_root
part_root-long d es = root_below-long (256 - d) d (map leaf_of es)

-- what hashes to the root of no entry
pub root-none_input : (d : ℕ) → part_root d [] ≡ sha256 none_input
root-none_input d = part_root-none d ∙ E-input

pub root-leaf_input : (d : ℕ) (e : KeyAndValue) → part_root d (e ∷ []) ≡ sha256 (leaf_input e.0 (V e.1))
root-leaf_input d e = part_root-one d e.0 e.1 ∙ L-input e.0 (V e.1)

pub root-pair_input : (d : ℕ) (e f : KeyAndValue) (es : Entries) → IsPart d (e ∷ f ∷ es)
    → part_root d (e ∷ f ∷ es) ≡ sha256 (pair_input (part_root (d + 1) (zeros d (e ∷ f ∷ es))) (part_root (d + 1) (ones d (e ∷ f ∷ es))))
root-pair_input d e f es part =
    let two : 2 ≤ length (e ∷ f ∷ es) = omega arith in
    part_root-split d (e ∷ f ∷ es) (deeper d (e ∷ f ∷ es) part two) two ∙ N-input _ _

-- ---- two parts
-- if two pairs of roots hash the same list, the roots are the same
pub same-pair : (a b c d : List ℕ) → length a ≡ length c → pair_input a b ≡ pair_input c d → (a ≡ c) × (b ≡ d)
same-pair a b c d long same = fronts a c b d long (cc)

pub same-leaf : (a b c d : List ℕ) → length a ≡ length c → leaf_input a b ≡ leaf_input c d → (a ≡ c) × (b ≡ d)
same-leaf a b c d long same = fronts a c b d long (cc)

-- two leaves with one hash are the same entry, or collide
pub leaves-collide : (e f : KeyAndValue) (u v : List (List ℕ)) → IsKey e.0 → IsKey f.0 → sha256 (leaf_input e.0 (V e.1)) ≡ sha256 (leaf_input f.0 (V f.1))
    → (e ≡ f → Collides (first_difference u v))
    → Collides (first_difference (leaf_input e.0 (V e.1) ∷ value_input e.1 ∷ u) (leaf_input f.0 (V f.1) ∷ value_input f.1 ∷ v))
leaves-collide e f u v key key' meet rest =
    step _ _ (value_input e.1 ∷ u) (value_input f.1 ∷ v) meet (λ one.
    let same = same-leaf e.0 (V e.1) f.0 (V f.1) (key.long ∙ sym key'.long) one in
    step _ _ u v (sym (V-input e.1) ∙ same.1 ∙ V-input f.1) (λ value.
    let values : e.1 ≡ f.1 = cc in
    rest (ap₂ (λ (a b : List ℕ). (a, b)) same.0 values)))

-- of entries that agree in all 256 bits there is at most one
pub too_deep : (d : ℕ) (e f : KeyAndValue) (es : Entries) → IsPart d (e ∷ f ∷ es) → zero ≡ 256 - d → ⊥
too_deep d e f es part fuel = let lt : d < 256 = deeper d (e ∷ f ∷ es) part (omega arith) in absurd (omega arith)

-- what the two halves of a part hash
abbrev below_inputs : ℕ → ℕ → Entries → List (List ℕ)
below_inputs n d es = part_inputs n (d + 1) (zeros d es) ++ part_inputs n (d + 1) (ones d es)

-- parts of one root are the same, or what they hash collides
pub parts-collide : (n d : ℕ) (es fs : Entries) (u v : List (List ℕ)) → n ≡ 256 - d → IsPart d es → IsPart d fs → part_root d es ≡ part_root d fs
    → (es ≡ fs → Collides (first_difference u v)) → Collides (first_difference (part_inputs n d es ++ u) (part_inputs n d fs ++ v))
unfolding part_inputs
parts-collide n d [] [] u v fuel part part' meet rest = step none_input none_input u v refl (λ one. rest refl)
parts-collide n d [] (f ∷ []) u v fuel part part' meet rest =
    step _ _ u (value_input f.1 ∷ v) (sym (root-none_input d) ∙ meet ∙ root-leaf_input d f) (λ one. absurd (cc))
parts-collide n d (e ∷ []) [] u v fuel part part' meet rest =
    step _ _ (value_input e.1 ∷ u) v (sym (root-leaf_input d e) ∙ meet ∙ root-none_input d) (λ one. absurd (cc))
parts-collide n d (e ∷ []) (f ∷ []) u v fuel part part' meet rest =
    leaves-collide e f u v part.keys.0 part'.keys.0 (sym (root-leaf_input d e) ∙ meet ∙ root-leaf_input d f) (λ same. rest (ap (λ (x : KeyAndValue). x ∷ []) same))
parts-collide zero d es (f ∷ g ∷ fs) u v fuel part part' meet rest = absurd (too_deep d f g fs part' fuel)
parts-collide zero d (e ∷ f ∷ es) fs u v fuel part part' meet rest = absurd (too_deep d e f es part fuel)
parts-collide (suc n) d [] (f ∷ g ∷ fs) u v fuel part part' meet rest =
    step _ _ u (below_inputs n d (f ∷ g ∷ fs) ++ v) (sym (root-none_input d) ∙ meet ∙ root-pair_input d f g fs part') (λ one. absurd (cc))
parts-collide (suc n) d (e ∷ []) (f ∷ g ∷ fs) u v fuel part part' meet rest =
    step _ _ (value_input e.1 ∷ u) (below_inputs n d (f ∷ g ∷ fs) ++ v) (sym (root-leaf_input d e) ∙ meet ∙ root-pair_input d f g fs part') (λ one. absurd (cc))
parts-collide (suc n) d (e ∷ f ∷ es) [] u v fuel part part' meet rest =
    step _ _ (below_inputs n d (e ∷ f ∷ es) ++ u) v (sym (root-pair_input d e f es part) ∙ meet ∙ root-none_input d) (λ one. absurd (cc))
parts-collide (suc n) d (e ∷ f ∷ es) (g ∷ []) u v fuel part part' meet rest =
    step _ _ (below_inputs n d (e ∷ f ∷ es) ++ u) (value_input g.1 ∷ v) (sym (root-pair_input d e f es part) ∙ meet ∙ root-leaf_input d g) (λ one. absurd (cc))
parts-collide (suc n) d (e ∷ f ∷ es) (g ∷ h ∷ fs) u v fuel part part' meet rest =
    let xs : Entries = e ∷ f ∷ es in
    let ys : Entries = g ∷ h ∷ fs in
    let more : n ≡ 256 - (d + 1) = omega arith in
    let zx = part_inputs n (d + 1) (zeros d xs) in
    let ox = part_inputs n (d + 1) (ones d xs) in
    let zy = part_inputs n (d + 1) (zeros d ys) in
    let oy = part_inputs n (d + 1) (ones d ys) in
    step _ _ ((zx ++ ox) ++ u) ((zy ++ oy) ++ v) (sym (root-pair_input d e f es part) ∙ meet ∙ root-pair_input d g h fs part') (λ one.
    let same = same-pair _ _ _ _ (part_root-long (d + 1) (zeros d xs) ∙ sym (part_root-long (d + 1) (zeros d ys))) one in
    rw (append_assoc zx ox u, append_assoc zy oy v)
    (parts-collide n (d + 1) (zeros d xs) (zeros d ys) (ox ++ u) (oy ++ v) more (zeros_part d xs part) (zeros_part d ys part') same.0 (λ z.
    parts-collide n (d + 1) (ones d xs) (ones d ys) u v more (ones_part d xs part) (ones_part d ys part') same.1 (λ o.
    rest (same-halves d xs ys part part' z o)))))

-- ---- whole maps
agree_none : (path : ℕ → Bool) (es : Entries) → AllByRecursion (λ e. (i : ℕ) → i < 0 → bit e.0 i ≡ path i) es
agree_none path [] = tt
agree_none path (e ∷ es) = (λ i lt. absurd (omega arith), agree_none path es)

-- entries in the order of their keys are a part at the top
pub whole-IsPart : (es : Entries) → T (is_sorted key_cmp es) → AllByRecursion (λ e. IsKey e.0) es → IsPart 0 es
whole-IsPart es sorted keys = record { sorted = sorted; keys = keys; path = λ i. false; agree = agree_none (λ i. false) es }

-- two lists of entries with one root are the same, or collide
pub entries-collide : (es fs : Entries) → T (is_sorted key_cmp es) → T (is_sorted key_cmp fs) → AllByRecursion (λ e. IsKey e.0) es → AllByRecursion (λ e. IsKey e.0) fs
    → part_root 0 es ≡ part_root 0 fs → es ≢ fs → Collides (entries_clash es fs)
unfolding entries_clash
entries-collide es fs sorted sorted' keys keys' meet differ =
    let found = parts-collide 256 0 es fs [] [] refl (whole-IsPart es sorted keys) (whole-IsPart fs sorted' keys') meet (λ same. absurd (differ same)) in
    subst (λ xs. Collides (first_difference xs (part_inputs 256 0 fs))) (append-nil (part_inputs 256 0 es))
    (subst (λ ys. Collides (first_difference (part_inputs 256 0 es ++ []) ys)) (append-nil (part_inputs 256 0 fs)) found)

pub keys-of_map : (es : Entries) → AllByRecursion (λ e. IsKey e.0 × IsBytes e.1) es → AllByRecursion (λ e. IsKey e.0) es
keys-of_map [] all = tt
keys-of_map (e ∷ es) all = (all.0.0, keys-of_map es all.1)

-- two maps of one root are the same, or collide
pub maps-collide : (m m' : Map) → IsMap m → IsMap m' → root m ≡ root m' → m ≢ m' → Collides (maps_clash m m')
maps-collide m m' is_map is_map' meet differ =
    entries-collide (entries m) (entries m') (fin.entries_sorted m) (fin.entries_sorted m') (keys-of_map (entries m) is_map) (keys-of_map (entries m') is_map')
    (sym (root-part_root m) ∙ meet ∙ root-part_root m') (λ same. absurd (differ (map-from_entries m m' same)))
