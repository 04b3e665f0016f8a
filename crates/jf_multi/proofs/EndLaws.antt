-- The end of a key's path, and the single proof of the key.
use Rattle.std.specs.Prelude.{◌≡◌, ℕ, ◌+◌, ◌≤◌, true, false, cond, List, [], ◌∷◌, ◌++◌, length, Option, Some, None, option_map, nat_lt}
use Rattle.std.specs.Option.{option_and_then}
use Rattle.std.proofs.Common.{refl, sym, ap, ◌∙◌, arith, length-append}
use Rattle.std.proofs.lemmas.Bool.Decides.{nat_tests}
use Rattle.std.proofs.lemmas.Option.{same_Some}
use Rattle.jf_path.specs.Keys.{bit}
use Rattle.jf_hash.specs.Hashes.{N}
use Rattle.jf_evidence.specs.Proofs.{join, start_of, under_root, proof_root, refusal}
use Rattle.jf_evidence.specs.declared.proof.Proof.{Proof}
use Rattle.jf_evidence.specs.declared.proof.ProofFault.{ProofFault}
use Rattle.jf_evidence.proofs.ProofLaws.{climb_to, climb-climb_to, climb_to-push}
use Rattle.jf_multi.specs.declared.path_end.PathEnd.{PathEnd}
use Rattle.jf_multi.specs.Trees.{Tree, Rest, End, Fork, tree_height, tree_root, single_proof}
use Rattle.jf_multi.specs.Ends.{end_in, end_refusal}
use Rattle.jf_multi.specs.Verdicts.{single_refusal}
use Rattle.jf_multi.proofs.TreeLaws.{option_map-some}

-- the end that a proof from depth d shows
abbrev pub end_of_proof : ℕ → Proof → PathEnd
end_of_proof d p = record { leaf = p.leaf; depth = d + length p.siblings }

one_longer : (d : ℕ) (o : Option Proof) (s : List ℕ) → option_map (end_of_proof (d + 1)) o ≡ option_map (end_of_proof d) (option_map (λ p. under_root p s) o)
one_longer d None s = refl
one_longer d (Some p) s =
    let e : (d + 1) + length p.siblings ≡ d + length (p.siblings ++ s ∷ []) = omega (arith, length-append p.siblings (s ∷ [])) in
    ap (λ (n : ℕ). Some (record { leaf = p.leaf; depth = n })) e

-- a key's path ends where its single proof begins, below one fork for each sibling
pub end_in-single_proof : (d : ℕ) (key : List ℕ) (tree : Tree) → end_in d key tree ≡ option_map (end_of_proof d) (single_proof d key tree)
unfolding end_in single_proof
end_in-single_proof d key (Rest hash) = refl
end_in-single_proof d key (End leaf) =
    let e : d ≡ d + 0 = omega arith in
    ap (λ (n : ℕ). Some (record { leaf = leaf; depth = n })) e
end_in-single_proof d key (Fork left right) =
    elim (bit key d) as (λ b. cond b (end_in (d + 1) key right) (end_in (d + 1) key left)
    ≡ option_map (end_of_proof d) (cond b (option_map (λ p. under_root p (tree_root left)) (single_proof (d + 1) key right)) (option_map (λ p. under_root p (tree_root right)) (single_proof (d + 1) key left)))) [
      | true ↦ end_in-single_proof (d + 1) key right ∙ one_longer d (single_proof (d + 1) key right) (tree_root left)
      | false ↦ end_in-single_proof (d + 1) key left ∙ one_longer d (single_proof (d + 1) key left) (tree_root right)
    ]

-- a single proof results in the root of the tree, and has a sibling for each fork above its end
pub record IsSingle (d : ℕ) (key : List ℕ) (tree : Tree) (p : Proof) : Type 0 where
  pub top : climb_to d key (start_of p.leaf) p.siblings ≡ tree_root tree
  pub short : length p.siblings ≤ tree_height tree

pushed : (d : ℕ) (key : List ℕ) (part tree : Tree) (s : List ℕ) (q p : Proof) → under_root q s ≡ p → join key d (tree_root part) s ≡ tree_root tree → tree_height part + 1 ≤ tree_height tree → IsSingle (d + 1) key part q → IsSingle d key tree p
pushed d key part tree s q p e top low h = record {
  top = ap (λ (r : Proof). climb_to d key (start_of r.leaf) r.siblings) (sym e) ∙ climb_to-push d key (start_of q.leaf) q.siblings s ∙ ap (λ (x : List ℕ). join key d x s) h.top ∙ top;
  short =
      let short = h.short in
      let long : length p.siblings ≡ length q.siblings + 1 = ap (λ (r : Proof). length r.siblings) (sym e) ∙ length-append q.siblings (s ∷ []) in
      omega arith;
}

pub single_proof-IsSingle : (d : ℕ) (key : List ℕ) (tree : Tree) (p : Proof) → single_proof d key tree ≡ Some p → IsSingle d key tree p
unfolding single_proof tree_root tree_height
single_proof-IsSingle d key (Rest hash) p h = absurd (cc)
single_proof-IsSingle d key (End leaf) p h =
    let e = same_Some (record { leaf = leaf; siblings = [] }) p h in
    record {
      top = ap (λ (r : Proof). climb_to d key (start_of r.leaf) r.siblings) (sym e);
      short = (let long : length p.siblings ≡ 0 = ap (λ (r : Proof). length r.siblings) (sym e) in omega arith);
    }
single_proof-IsSingle d key (Fork left right) p h =
    elim (bit key d) as (λ b. bit key d ≡ b → cond b (option_map (λ q. under_root q (tree_root left)) (single_proof (d + 1) key right)) (option_map (λ q. under_root q (tree_root right)) (single_proof (d + 1) key left)) ≡ Some p → IsSingle d key (Fork left right) p) [
      | true ↦ λ is f.
          let q = option_map-some (λ q. under_root q (tree_root left)) (single_proof (d + 1) key right) p f in
          pushed d key right (Fork left right) (tree_root left) q.0 p q.2 (ap (λ b. cond b (N (tree_root left) (tree_root right)) (N (tree_root right) (tree_root left))) is) (omega arith) (single_proof-IsSingle (d + 1) key right q.0 q.1)
      | false ↦ λ is f.
          let q = option_map-some (λ q. under_root q (tree_root right)) (single_proof (d + 1) key left) p f in
          pushed d key left (Fork left right) (tree_root right) q.0 p q.2 (ap (λ b. cond b (N (tree_root right) (tree_root left)) (N (tree_root left) (tree_root right))) is) (omega arith) (single_proof-IsSingle (d + 1) key left q.0 q.1)
    ] refl h

-- ---- verdicts
-- a proof with at most 256 siblings is refused as its end is
pub refusal-end : (root top : List ℕ) (c : List ℕ × Option (List ℕ)) (p : Proof) → length p.siblings ≤ 256 → proof_root c.0 p ≡ top → refusal root c.0 c.1 p ≡ end_refusal root top c (record { leaf = p.leaf; depth = length p.siblings })
unfolding refusal
refusal-end root top c p short is =
    let low : nat_lt 256 (length p.siblings) ≡ false = grind (arith, nat_tests) in
    rw (low, is) refl

-- why a claim is refused whose key's path ends so, if not in a rest
abbrev pub refusal_at : List ℕ → List ℕ → List ℕ × Option (List ℕ) → Option PathEnd → Option ProofFault
refusal_at root top c None = None
refusal_at root top c (Some end) = end_refusal root top c end

-- a claim's single proof is refused as the end of its key's path is
pub single_refusal-end : (root : List ℕ) (tree : Tree) (c : List ℕ × Option (List ℕ)) → tree_height tree ≤ 256 → single_refusal root tree c ≡ refusal_at root (tree_root tree) c (end_in 0 c.0 tree)
single_refusal-end root tree c low =
    elim (single_proof 0 c.0 tree) as (λ o. single_proof 0 c.0 tree ≡ o → option_and_then (λ proof. refusal root c.0 c.1 proof) o ≡ refusal_at root (tree_root tree) c (option_map (end_of_proof 0) o)) [
      | None ↦ λ is. refl
      | Some p ↦ λ is.
          let single = single_proof-IsSingle 0 c.0 tree p is in
          let short = single.short in
          let e : length p.siblings ≡ 0 + length p.siblings = omega arith in
          refusal-end root (tree_root tree) c p (omega arith) (climb-climb_to c.0 (start_of p.leaf) p.siblings ∙ single.top)
          ∙ ap (λ (n : ℕ). end_refusal root (tree_root tree) c (record { leaf = p.leaf; depth = n })) e
    ] refl
    ∙ ap (refusal_at root (tree_root tree) c) (sym (end_in-single_proof 0 c.0 tree))
