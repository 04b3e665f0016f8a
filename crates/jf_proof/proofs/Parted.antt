-- The honest proof in a node of the binary tree, from the proof in one half.
use Rattle.std.specs.Prelude.{◌≡◌, ℕ, List, [], map, None, ◌∷◌, Some, ◌<◌, ◌≤◌, ◌+◌, Bool, true, false, not, cond, length}
use Rattle.std.proofs.Common.{sym, ap, ◌∙◌, refl, arith, ap₂}
use Rattle.std.specs.FinMap.{entries}
use Rattle.jf_path.specs.Keys.{bit}
use Rattle.jf_hash.specs.Roots.{leaf_of, leaves_root, part_root, zeros, ones}
use Rattle.jf_hash.specs.Slots.{Part}
use Rattle.jf_hash.specs.Hashes.{V}
use Rattle.jf_hash.specs.Maps.{Map}
use Rattle.jf_hash.proofs.RootLaws.{length-leaves, filter-leaves}
use Rattle.jf_node.specs.RangeValue.{RangeValue}
use Rattle.jf_evidence.specs.Proofs.{alone, honest_from, under_root, honest}
use Rattle.jf_evidence.specs.declared.proof.Proof.{Proof}
use Rattle.jf_evidence.proofs.ProofLaws.{honest_from-none, honest_from-one, honest_from-split}

pub proof_none : (d : ℕ) (key : List ℕ) (es : Part) → es ≡ [] → alone None ≡ honest_from d key (map leaf_of es)
proof_none d key es none = sym (ap (λ fs. honest_from d key (map leaf_of fs)) none ∙ honest_from-none d key)

pub proof_one : (d : ℕ) (key own value hash : List ℕ) (es : Part) → es ≡ (own, value) ∷ [] → hash ≡ V value → alone (Some (own, hash)) ≡ honest_from d key (map leaf_of es)
proof_one d key own value hash es one hashed = ap (λ h. alone (Some (own, h))) hashed ∙ sym (ap (λ fs. honest_from d key (map leaf_of fs)) one ∙ honest_from-one d key (own, V value))

root_of : (d : ℕ) (es : Part) → leaves_root d (map leaf_of es) ≡ part_root d es
unfolding part_root
root_of d es = refl

split_at : (d : ℕ) (key : List ℕ) (es : Part) (b : Bool) → bit key d ≡ b → d < 256 → 2 ≤ length es
    → honest_from d key (map leaf_of es) ≡ under_root (honest_from (d + 1) key (map leaf_of (cond b (ones d es) (zeros d es)))) (part_root (d + 1) (cond b (zeros d es) (ones d es)))
split_at d key es true is deep two =
    honest_from-split d key (map leaf_of es) deep (omega (arith, length-leaves es))
    ∙ ap₂ (λ n f. under_root (honest_from (d + 1) key n) (leaves_root (d + 1) f))
    (ap (λ b. cond b (ones d (map leaf_of es)) (zeros d (map leaf_of es))) is ∙ filter-leaves (λ k. bit k d) es)
    (ap (λ b. cond b (zeros d (map leaf_of es)) (ones d (map leaf_of es))) is ∙ filter-leaves (λ k. not (bit k d)) es)
    ∙ ap (under_root (honest_from (d + 1) key (map leaf_of (ones d es)))) (root_of (d + 1) (zeros d es))
split_at d key es false is deep two =
    honest_from-split d key (map leaf_of es) deep (omega (arith, length-leaves es))
    ∙ ap₂ (λ n f. under_root (honest_from (d + 1) key n) (leaves_root (d + 1) f))
    (ap (λ b. cond b (ones d (map leaf_of es)) (zeros d (map leaf_of es))) is ∙ filter-leaves (λ k. not (bit k d)) es)
    (ap (λ b. cond b (zeros d (map leaf_of es)) (ones d (map leaf_of es))) is ∙ filter-leaves (λ k. bit k d) es)
    ∙ ap (under_root (honest_from (d + 1) key (map leaf_of (zeros d es)))) (root_of (d + 1) (ones d es))

-- the proof is that in the half that has the key, with the hash of the other half
pub proof_more : (d : ℕ) (key hash : List ℕ) (es : Part) (b : Bool) (proof : Proof) (half other : RangeValue) → bit key d ≡ b → d < 256 → 2 ≤ length es
    → half ≡ record { depth = d + 1; entries = cond b (ones d es) (zeros d es) } → other ≡ record { depth = d + 1; entries = cond b (zeros d es) (ones d es) }
    → proof ≡ honest_from half.depth key (map leaf_of half.entries) → hash ≡ part_root other.depth other.entries → under_root proof hash ≡ honest_from d key (map leaf_of es)
proof_more d key hash es b proof half other is deep two h o p r =
    ap₂ (λ q s. under_root q s) (p ∙ ap (λ v. honest_from v.depth key (map leaf_of v.entries)) h) (r ∙ ap (λ v. part_root v.depth v.entries) o)
    ∙ sym (split_at d key es b is deep two)

pub honest-entries : (m : Map) (key : List ℕ) (v : RangeValue) → v ≡ record { depth = 0; entries = entries m } → honest_from v.depth key (map leaf_of v.entries) ≡ honest m key
unfolding honest
honest-entries m key v is = ap (λ w. honest_from w.depth key (map leaf_of w.entries)) is
