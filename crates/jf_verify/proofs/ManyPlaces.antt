-- The claim that a refusal of many claims names is one of them.
use Rattle.std.proofs.Common.{ℕ, ◌+◌, ◌≤◌, true, false, cond, List, [], ◌∷◌, Option, Some, None, option_map, length, arith}
use Rattle.std.specs.Option.{is_some, option_or}
use Rattle.jf_evidence.specs.declared.proof.ProofFault.{ProofFault}
use Rattle.jf_multi.specs.declared.item.Item.{Item}
use Rattle.jf_multi.specs.declared.item.ManyFault.{ManyFault}
use Rattle.jf_multi.specs.declared.item.ManyFault.TheVariants as fault
use Rattle.jf_multi.specs.Trees.{Tree, single_proof, tree_of}
use Rattle.jf_multi.specs.Verdicts.{ClaimList, first_missing, single_refusal, first_single_refusal, tree_refusal, many_refusal}
use Rattle.jf_verify.specs.Verdicts.{NamesOneOf}

names_first : (n : ℕ) (a b : Option ManyFault) → NamesOneOf n a → NamesOneOf n b → NamesOneOf n (option_or a b)
names_first n None b one other = other
names_first n (Some why) b one other = one

module _ (n : ℕ) (tree : Tree) where
  missing_names : (i : ℕ) (cs : ClaimList) → i + length cs ≤ n → NamesOneOf n (first_missing i tree cs)
  missing_names i [] few = tt
  missing_names i (c ∷ cs) few =
      let more = missing_names (i + 1) cs (omega arith) in
      elim (is_some (single_proof 0 c.0 tree)) as (λ t. NamesOneOf n (cond t (first_missing (i + 1) tree cs) (Some (fault.Missing i)))) [ true ↦ more | false ↦ omega arith ]

  single_names : (root : List ℕ) (i : ℕ) (cs : ClaimList) → i + length cs ≤ n → NamesOneOf n (first_single_refusal root i tree cs)
  single_names root i [] few = tt
  single_names root i (c ∷ cs) few =
      let more = single_names root (i + 1) cs (omega arith) in
      elim (single_refusal root tree c) as (λ (o : Option ProofFault). NamesOneOf n (option_or (option_map (λ why. fault.Single i why) o) (first_single_refusal root (i + 1) tree cs))) [ None ↦ more | Some why ↦ omega arith ]

pub many_refusal_names : (root : List ℕ) (claims : ClaimList) (items : List Item) → NamesOneOf (length claims) (many_refusal root claims items)
unfolding many_refusal
many_refusal_names root claims items =
    elim (tree_of items) as (λ (o : Option Tree). NamesOneOf (length claims) (tree_refusal root claims o)) [
      | None ↦ tt
      | Some tree ↦ names_first (length claims) (first_missing 0 tree claims) (first_single_refusal root 0 tree claims) (missing_names (length claims) tree 0 claims (omega arith)) (single_names (length claims) tree root 0 claims (omega arith))
    ]
