-- What the flat parts of a claim represent, its verdict as a number, and what follows from one.
use Rattle.std.specs.Prelude.{◌≡◌, ◌≢◌, ℕ, ◌==◌, List, Option, Some, None, if◌then◌else◌}
use Rattle.std.specs.FinMap.{get}
use Rattle.jf_hash.specs.Hashes.{K}
use Rattle.jf_hash.specs.Maps.{Map, IsMap}
use Rattle.jf_hash.specs.Roots.{Leaf, root}
use Rattle.jf_evidence.specs.Proofs.{honest}
use Rattle.jf_evidence.specs.Inputs.{Collides}
use Rattle.jf_evidence.specs.Clashes.{clash}
use Rattle.jf_evidence.specs.declared.proof.Proof.{Proof}
use Rattle.jf_evidence.specs.declared.proof.ProofFault.{ProofFault}
use Rattle.jf_ask.specs.Lookups.{lookup_number}
use Rattle.jf_ask.specs.declared.lookup.LookupFault.TheVariants as fault

-- a claimed value, or its absence for 0
abbrev pub flat_claim : ℕ → List ℕ → Option (List ℕ)
flat_claim has_value value = if has_value == 0 then None else Some value

-- the leaf that was found, or none for 0
abbrev pub flat_leaf : ℕ → List ℕ → List ℕ → Option Leaf
flat_leaf has_leaf key hash = if has_leaf == 0 then None else Some (key, hash)

-- a proof in parts
abbrev pub flat_proof : ℕ → List ℕ → List ℕ → List (List ℕ) → Proof
flat_proof has_leaf key hash siblings = record { leaf = flat_leaf has_leaf key hash; siblings = siblings }

-- 0 for an accepted claim, and otherwise the number of the first check that fails
abbrev pub verdict_number : Option ProofFault → ℕ
verdict_number None = 0
verdict_number (Some why) = lookup_number (fault.Claim why)

-- a claim that is accepted under the root of a map is what the map says of the name, or it and the map's honest proof give two different lists with one SHA-256
abbrev pub IsSoundVerdict : List ℕ → List ℕ → Option (List ℕ) → Proof → ℕ → Type 0
IsSoundVerdict top name claim proof number =
    (m : Map) → IsMap m → root m ≡ top → number ≡ 0 → claim ≢ get m (K name) → Collides (clash (K name) claim proof (get m (K name)) (honest m (K name)))

-- what a map says of a name is accepted under its root with its honest proof
abbrev pub IsFairVerdict : List ℕ → List ℕ → Option (List ℕ) → Proof → ℕ → Type 0
IsFairVerdict top name claim proof number = (m : Map) → IsMap m → root m ≡ top → claim ≡ get m (K name) → proof ≡ honest m (K name) → number ≡ 0
