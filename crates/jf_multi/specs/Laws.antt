-- What holds of all claims on many keys, as statements for calls that do nothing and ensure them.
use Rattle.std.specs.Prelude.{◌≡◌, ℕ, ◌≤◌, ◌↔◌, List, Option, Some, None}
use Rattle.std.specs.List.{AllByRecursion}
use Rattle.jf_hash.specs.Maps.{Map, IsMap}
use Rattle.jf_hash.specs.Roots.{root}
use Rattle.jf_evidence.specs.Proofs.{leaves, honest, refusal}
use Rattle.jf_evidence.specs.declared.proof.Proof.{Proof}
use Rattle.jf_multi.specs.declared.item.Item.{Item}
use Rattle.jf_multi.specs.Trees.{Tree, preorder, tree_height, single_proof}
use Rattle.jf_multi.specs.SharedTrees.{shared_tree, shared_proof, own_claims}
use Rattle.jf_multi.specs.Verdicts.{ClaimList, many_refusal}

-- a claim's single proof in a tree is accepted under a root
abbrev pub IsShown : List ℕ → Tree → List ℕ × Option (List ℕ) → Type 0
IsShown root tree c = (proof : Proof) × (single_proof 0 c.0 tree ≡ Some proof) × (refusal root c.0 c.1 proof ≡ None)

-- the items are those of one tree, whose forks stand above depth 256, and the single proof of each claim in it is accepted
pub record AreShown (root : List ℕ) (claims : ClaimList) (items : List Item) : Type 0 where
  pub tree : Tree
  pub spelling : items ≡ preorder tree
  pub low : tree_height tree ≤ 256
  pub each : AllByRecursion (IsShown root tree) claims

-- claims are accepted exactly if the items are one tree and each claim's single proof is accepted
abbrev pub AcceptedClaimsAreShown : Type 0
AcceptedClaimsAreShown = (root : List ℕ) (claims : ClaimList) (items : List Item) → (many_refusal root claims items ≡ None) ↔ AreShown root claims items

-- what a map says of keys is accepted with the honest proof of them
abbrev pub OwnClaimsAreAccepted : Type 0
OwnClaimsAreAccepted = (m : Map) (keys : List (List ℕ)) → IsMap m → many_refusal (root m) (own_claims m keys) (shared_proof m keys) ≡ None

-- of each key that is asked for, the honest proof of many keys has the honest proof of that one
abbrev pub SharedProofsHoldSingleOnes : Type 0
SharedProofsHoldSingleOnes = (m : Map) (keys : List (List ℕ)) → AllByRecursion (λ k. single_proof 0 k (shared_tree 0 (leaves m) keys) ≡ Some (honest m k)) keys
