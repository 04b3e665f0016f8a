-- An accepted chunk whose entries, after the known ones, aren't the first of the map gives a collision.
use Rattle.std.specs.Prelude.{◌≡◌, ◌++◌, [], ◌∷◌, ℕ, nat_le, List, reverse, ◌≢◌, false, take, length, T, None}
use Rattle.std.proofs.Common.{ap, ap₂, sym, ◌∙◌, refl, subst, append_assoc}
use Rattle.std.proofs.lemmas.List.{reverse-reverse, take_at}
use Rattle.std.specs.FinMap.{entries, is_sorted}
use Rattle.std.specs.FinMap as fin
use Rattle.std.specs.List.{list_any, AllByRecursion}
use Rattle.jf_path.specs.Nibbles.{common_bits}
use Rattle.jf_path.specs.Keys.{key_cmp, IsKey}
use Rattle.jf_hash.specs.Maps.{Map, IsMap}
use Rattle.jf_hash.specs.Parts.{IsPart}
use Rattle.jf_hash.specs.Roots.{root}
use Rattle.jf_hash.proofs.RootLaws.{root-part_root}
use Rattle.jf_evidence.specs.Ranges.{KeyAndValue, Entries, last_key, is_crowded, range_root, range_root_below, range_refusal}
use Rattle.jf_evidence.specs.declared.range_proof.RangeProof.{RangeProof}
use Rattle.jf_evidence.specs.Inputs.{first_difference, Collides}
use Rattle.jf_evidence.specs.FrontClashes.{range_inputs, front_inputs, front_clash}
use Rattle.jf_evidence.proofs.ChainLaws.{last_entry-push, all_but_last-push, chain_root, range_root_below-chain, chain_inputs, range_inputs-chain}
use Rattle.jf_evidence.proofs.CrowdLaws.{is_near}
use Rattle.jf_evidence.proofs.MapClashLaws.{whole-IsPart, keys-of_map}
use Rattle.jf_evidence.proofs.FrontClashLaws.{front-collides}
use Rattle.jf_evidence.proofs.RangeChecks.{accepted-chunk, sorted-after_last, last-of_some}

-- ---- by the entries before the last
pub last_key-push : (xs : Entries) (x : KeyAndValue) → last_key (xs ++ x ∷ []) ≡ x.0
last_key-push xs x = ap (λ (e : KeyAndValue). e.0) (last_entry-push xs x)

-- whether another entry is near the last one
pub is_crowded-near : (xs : Entries) (x : KeyAndValue) (proof : RangeProof) → is_crowded (xs ++ x ∷ []) proof ≡ is_near proof.depth 256 0 x.0 xs
unfolding common_bits
is_crowded-near xs x proof =
    ap₂ (λ (k : List ℕ) (es : Entries). list_any (λ e. nat_le proof.depth (common_bits e.0 k)) es) (last_key-push xs x) (all_but_last-push xs x)

pub range_root-chain : (xs : Entries) (x : KeyAndValue) (proof : RangeProof) → range_root (xs ++ x ∷ []) proof ≡ chain_root proof.depth 0 xs x (reverse proof.siblings)
unfolding range_root
range_root-chain xs x proof =
    ap₂ (λ (k : List ℕ) (s : List (List ℕ)). range_root_below proof.depth 0 k (xs ++ x ∷ []) s) (last_key-push xs x) (sym (reverse-reverse proof.siblings))
    ∙ range_root_below-chain proof.depth 0 xs x (reverse proof.siblings)

front_clash-chain : (m : Map) (xs : Entries) (x : KeyAndValue) (proof : RangeProof)
    → front_clash m (xs ++ x ∷ []) proof ≡ first_difference (chain_inputs proof.depth 0 xs x (reverse proof.siblings)) (front_inputs proof.depth 0 x.0 (entries m))
unfolding front_clash
front_clash-chain m xs x proof =
    ap (λ (k : List ℕ). first_difference (range_inputs proof.depth 0 k (xs ++ x ∷ []) proof.siblings) (front_inputs proof.depth 0 k (entries m))) (last_key-push xs x)
    ∙ ap (λ (s : List (List ℕ)). first_difference (range_inputs proof.depth 0 x.0 (xs ++ x ∷ []) s) (front_inputs proof.depth 0 x.0 (entries m))) (sym (reverse-reverse proof.siblings))
    ∙ ap (λ (us : List (List ℕ)). first_difference us (front_inputs proof.depth 0 x.0 (entries m))) (range_inputs-chain proof.depth 0 xs x (reverse proof.siblings))

collides_by_last : (m : Map) (xs : Entries) (x : KeyAndValue) (proof : RangeProof) → IsMap m → IsPart 0 (xs ++ x ∷ []) → is_crowded (xs ++ x ∷ []) proof ≡ false → range_root (xs ++ x ∷ []) proof ≡ root m
    → take (length (xs ++ x ∷ [])) (entries m) ≢ xs ++ x ∷ [] → Collides (front_clash m (xs ++ x ∷ []) proof)
collides_by_last m xs x proof is_map part lone top other =
    subst Collides (sym (front_clash-chain m xs x proof))
    (front-collides proof.depth 0 xs x (reverse proof.siblings) (entries m) part (whole-IsPart (entries m) (fin.entries_sorted m) (keys-of_map (entries m) is_map)) (sym (is_crowded-near xs x proof) ∙ lone)
    (sym (range_root-chain xs x proof) ∙ top ∙ root-part_root m)
    (λ ys is. other (ap (take (length (xs ++ x ∷ []))) (is ∙ sym (append_assoc xs (x ∷ []) ys)) ∙ take_at (xs ++ x ∷ []) ys (length (xs ++ x ∷ [])) refl)))

-- ---- any chunk
pub wrong-chunk : (m : Map) (known fresh : Entries) (proof : RangeProof) → IsMap m → T (is_sorted key_cmp known) → AllByRecursion (λ e. IsKey e.0) (known ++ fresh) → range_refusal (root m) known fresh proof ≡ None
    → take (length (known ++ fresh)) (entries m) ≢ known ++ fresh → Collides (front_clash m (known ++ fresh) proof)
wrong-chunk m known fresh proof is_map sorted keys accepted other =
    let ok = accepted-chunk (root m) known fresh proof accepted in
    let found = last-of_some fresh ok.some in
    let is : known ++ fresh ≡ (known ++ found.0) ++ found.1 ∷ [] = ap (λ (es : Entries). known ++ es) found.2 ∙ sym (append_assoc known found.0 (found.1 ∷ [])) in
    let part : IsPart 0 (known ++ fresh) = whole-IsPart (known ++ fresh) (sorted-after_last known fresh sorted ok.ordered) keys in
    let by_last = subst (λ (es : Entries). IsPart 0 es → is_crowded es proof ≡ false → range_root es proof ≡ root m → take (length es) (entries m) ≢ es → Collides (front_clash m es proof)) (sym is)
    (collides_by_last m (known ++ found.0) found.1 proof is_map) in
    by_last part ok.lone ok.top other
