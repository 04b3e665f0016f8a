-- Claims are accepted exactly if each one's single proof is, and a map's own claims are accepted.
use Rattle.std.specs.Prelude.{◌≡◌, ℕ, ◌+◌, List, [], ◌∷◌, cond, Option, Some, None, option_map}
use Rattle.std.specs.List.{AllByRecursion}
use Rattle.std.specs.Option.{is_some, option_or, option_and_then}
use Rattle.std.specs.FinMap as fin
use Rattle.std.proofs.Common.{refl, ap, ap₂, ◌∙◌}
use Rattle.jf_hash.specs.Maps.{Map}
use Rattle.jf_hash.specs.Roots.{root}
use Rattle.jf_evidence.specs.Proofs.{leaves, honest, refusal}
use Rattle.jf_evidence.specs.Laws.{HonestClaimsAreAccepted}
use Rattle.jf_evidence.specs.declared.proof.Proof.{Proof}
use Rattle.jf_evidence.specs.declared.proof.ProofFault.{ProofFault}
use Rattle.jf_multi.specs.declared.item.Item.{Item}
use Rattle.jf_multi.specs.declared.item.ManyFault.{ManyFault}
use Rattle.jf_multi.specs.declared.item.ManyFault.TheVariants as fault
use Rattle.jf_multi.specs.Trees.{Tree, single_proof, tree_of}
use Rattle.jf_multi.specs.SharedTrees.{shared_tree, shared_proof, own_claims}
use Rattle.jf_multi.specs.Verdicts.{ClaimList, first_missing, first_single_refusal, tree_refusal, many_refusal}
use Rattle.jf_multi.specs.Laws.{IsShown, AreShown, AcceptedClaimsAreShown, OwnClaimsAreAccepted}
use Rattle.jf_multi.proofs.TreeLaws.{tree_of-preorder, preorder-tree_of}
use Rattle.jf_multi.proofs.SharedLaws.{single_proof-shared, tree_height-shared_tree}

-- ---- one claim
shown_or_not : (r : List ℕ) (tree : Tree) (i j : ℕ) (c : List ℕ × Option (List ℕ)) (cs : ClaimList) → first_missing i tree (c ∷ cs) ≡ None → first_single_refusal r j tree (c ∷ cs) ≡ None
    → IsShown r tree c × (first_missing (i + 1) tree cs ≡ None) × (first_single_refusal r (j + 1) tree cs ≡ None)
shown_or_not r tree i j c cs there fine =
    elim (single_proof 0 c.0 tree) as (λ o. cond (is_some o) (first_missing (i + 1) tree cs) (Some (fault.Missing i)) ≡ None
    → option_or (option_map (λ why. fault.Single j why) (option_and_then (λ proof. refusal r c.0 c.1 proof) o)) (first_single_refusal r (j + 1) tree cs) ≡ None
    → ((proof : Proof) × (o ≡ Some proof) × (refusal r c.0 c.1 proof ≡ None)) × (first_missing (i + 1) tree cs ≡ None) × (first_single_refusal r (j + 1) tree cs ≡ None)) [
      | None ↦ λ a b. absurd (none_some a)
      | Some p ↦ λ a b.
          (elim (refusal r c.0 c.1 p) as (λ (w : Option ProofFault). refusal r c.0 c.1 p ≡ w → option_or (option_map (λ why. fault.Single j why) w) (first_single_refusal r (j + 1) tree cs) ≡ None
          → ((proof : Proof) × (Some p ≡ Some proof) × (refusal r c.0 c.1 proof ≡ None)) × (first_missing (i + 1) tree cs ≡ None) × (first_single_refusal r (j + 1) tree cs ≡ None)) [
            | None ↦ λ is f. ((p, refl, is), a, f)
            | Some why ↦ λ is f. absurd (none_some f)
          ] refl b)
    ] there fine
  where
    none_some : {X : Type 0} {x : X} → Some x ≡ None → ⊥
    none_some e = absurd (cc)

each_shown : (r : List ℕ) (tree : Tree) (i j : ℕ) (cs : ClaimList) → first_missing i tree cs ≡ None → first_single_refusal r j tree cs ≡ None → AllByRecursion (IsShown r tree) cs
each_shown r tree i j [] there fine = tt
each_shown r tree i j (c ∷ cs) there fine =
    let here = shown_or_not r tree i j c cs there fine in
    (here.0, each_shown r tree (i + 1) (j + 1) cs here.1 here.2)

none_missing : (r : List ℕ) (tree : Tree) (i : ℕ) (cs : ClaimList) → AllByRecursion (IsShown r tree) cs → first_missing i tree cs ≡ None
none_missing r tree i [] all = refl
none_missing r tree i (c ∷ cs) all =
    ap (λ (o : Option Proof). cond (is_some o) (first_missing (i + 1) tree cs) (Some (fault.Missing i))) all.0.1
    ∙ none_missing r tree (i + 1) cs all.1

none_refused : (r : List ℕ) (tree : Tree) (i : ℕ) (cs : ClaimList) → AllByRecursion (IsShown r tree) cs → first_single_refusal r i tree cs ≡ None
none_refused r tree i [] all = refl
none_refused r tree i (c ∷ cs) all =
    ap (λ (o : Option Proof). option_or (option_map (λ why. fault.Single i why) (option_and_then (λ proof. refusal r c.0 c.1 proof) o)) (first_single_refusal r (i + 1) tree cs)) all.0.1
    ∙ ap (λ (w : Option ProofFault). option_or (option_map (λ why. fault.Single i why) w) (first_single_refusal r (i + 1) tree cs)) all.0.2
    ∙ none_refused r tree (i + 1) cs all.1

-- ---- all claims
either_none : {X : Type 0} (a b : Option X) → option_or a b ≡ None → (a ≡ None) × (b ≡ None)
either_none None b h = (refl, h)
either_none (Some x) b h = absurd (cc)

shown_in : (r : List ℕ) (claims : ClaimList) (items : List Item) (o : Option Tree) → tree_of items ≡ o → tree_refusal r claims o ≡ None → AreShown r claims items
shown_in r claims items None is f = absurd (cc)
shown_in r claims items (Some tree) is f =
    let whole = tree_of-preorder items tree is in
    let both = either_none (first_missing 0 tree claims) (first_single_refusal r 0 tree claims) f in
    record { tree = tree; spelling = whole.0; low = whole.1; each = each_shown r tree 0 0 claims both.0 both.1 }

shown_if_accepted : (r : List ℕ) (claims : ClaimList) (items : List Item) → many_refusal r claims items ≡ None → AreShown r claims items
unfolding many_refusal
shown_if_accepted r claims items h = shown_in r claims items (tree_of items) refl h

accepted_if_shown : (r : List ℕ) (claims : ClaimList) (items : List Item) → AreShown r claims items → many_refusal r claims items ≡ None
unfolding many_refusal
accepted_if_shown r claims items s =
    ap (tree_refusal r claims) (ap tree_of s.spelling ∙ preorder-tree_of s.tree s.low)
    ∙ ap₂ (λ (a b : Option ManyFault). option_or a b) (none_missing r s.tree 0 claims s.each) (none_refused r s.tree 0 claims s.each)

pub accepted-shown : AcceptedClaimsAreShown
accepted-shown r claims items = (shown_if_accepted r claims items, accepted_if_shown r claims items)

own_shown : (m : Map) (tree : Tree) (keys : List (List ℕ)) → ((k : List ℕ) → refusal (root m) k (fin.get m k) (honest m k) ≡ None) → AllByRecursion (λ k. single_proof 0 k tree ≡ Some (honest m k)) keys → AllByRecursion (IsShown (root m) tree) (own_claims m keys)
own_shown m tree [] fine all = tt
own_shown m tree (k ∷ ks) fine all = ((honest m k, all.0, fine k), own_shown m tree ks fine all.1)

pub own-accepted : HonestClaimsAreAccepted → OwnClaimsAreAccepted
unfolding shared_proof
own-accepted single m keys is_map =
    accepted_if_shown (root m) (own_claims m keys) (shared_proof m keys) (record {
      tree = shared_tree 0 (leaves m) keys;
      spelling = refl;
      low = tree_height-shared_tree (leaves m) keys;
      each = own_shown m (shared_tree 0 (leaves m) keys) keys (λ k. single m k is_map) (single_proof-shared m keys);
    })
