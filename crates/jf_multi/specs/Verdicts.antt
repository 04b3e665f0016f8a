-- When claims on many keys are refused.
use Rattle.std.specs.Prelude.{ℕ, ◌+◌, if◌then◌else◌, List, [], ◌∷◌, Option, Some, None, option_map}
use Rattle.std.specs.Option.{is_some, option_or, option_and_then}
use Rattle.jf_evidence.specs.Proofs.{refusal}
use Rattle.jf_evidence.specs.declared.proof.ProofFault.{ProofFault}
use Rattle.jf_multi.specs.declared.item.Item.{Item}
use Rattle.jf_multi.specs.declared.item.ManyFault.{ManyFault}
use Rattle.jf_multi.specs.declared.item.ManyFault.TheVariants as fault
use Rattle.jf_multi.specs.Trees.{Tree, single_proof, tree_of}

-- claims on keys: of each a value, or its absence
abbrev pub ClaimList : Type 0
ClaimList = List (List ℕ × Option (List ℕ))

-- the first claim, counted from i, whose key's path ends in a rest
abbrev pub first_missing : ℕ → Tree → ClaimList → Option ManyFault
first_missing i tree [] = None
first_missing i tree (c ∷ cs) = if is_some (single_proof 0 c.0 tree) then first_missing (i + 1) tree cs else Some (fault.Missing i)

-- why the single proof of a claim is refused, if there is one
abbrev pub single_refusal : List ℕ → Tree → List ℕ × Option (List ℕ) → Option ProofFault
single_refusal root tree c = option_and_then (λ proof. refusal root c.0 c.1 proof) (single_proof 0 c.0 tree)

-- the first claim, counted from i, whose single proof is refused
abbrev pub first_single_refusal : List ℕ → ℕ → Tree → ClaimList → Option ManyFault
first_single_refusal root i tree [] = None
first_single_refusal root i tree (c ∷ cs) = option_or (option_map (λ why. fault.Single i why) (single_refusal root tree c)) (first_single_refusal root (i + 1) tree cs)

-- why claims are refused under a root, by the tree that the items spell, if they do
abbrev pub tree_refusal : List ℕ → ClaimList → Option Tree → Option ManyFault
tree_refusal root claims None = Some fault.Shape
tree_refusal root claims (Some tree) = option_or (first_missing 0 tree claims) (first_single_refusal root 0 tree claims)

-- why claims are refused under a root: the first check that fails
unfoldable pub many_refusal : List ℕ → ClaimList → List Item → Option ManyFault
many_refusal root claims items = tree_refusal root claims (tree_of items)
