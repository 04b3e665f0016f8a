-- The block of what a map says of names: its parts, one after another, and that it is accepted.
use Rattle.std.proofs.Common.{◌≡◌, ◌∙◌, ℕ, suc, List, [], ◌∷◌, ◌++◌, length, Option, refl, ap, ap₂, sym}
use Rattle.std.proofs.lemmas.List.{append_assoc}
use Rattle.std.specs.FinMap as fin
use Rattle.jf_hash.specs.Maps.{Map}
use Rattle.jf_hash.specs.Roots.{root}
use Rattle.jf_multi.specs.Laws.{OwnClaimsAreAccepted}
use Rattle.jf_multi.specs.SharedTrees.{shared_proof, own_claims}
use Rattle.jf_multi.specs.Verdicts.{many_refusal}
use Rattle.jf_multi.specs.declared.item.Item.{Item}
use Rattle.jf_many_blocks.specs.ManyBlocks.{on_keys, many_line_text, named_claim_text, named_claim_lines, item_lines, many_block}
use Rattle.jf_names.specs.Laws.{AnswersAreAccepted}
use Rattle.jf_names.specs.Names.{names_by_key, keys_in, claims_in, names_block}
use Rattle.jf_names.proofs.NamesLaws.{KeyedNames, AreKeyed, names_by_key-keyed}

-- the line of one claim more. The lines so far, and those of the names that are still to come, are all
pub claims_in-more : (before out new : List ℕ) (m : Map) (key name given : List ℕ) (claim : Option (List ℕ)) (all rest iter : KeyedNames) → iter ≡ (key, name) ∷ rest → given ≡ name → claim ≡ fin.get m key
    → new ≡ out ++ named_claim_text (given, claim) → out ++ named_claim_lines (claims_in m iter) ≡ before ++ named_claim_lines (claims_in m all)
    → new ++ named_claim_lines (claims_in m rest) ≡ before ++ named_claim_lines (claims_in m all)
claims_in-more before out new m key name given claim all rest iter steps is says e whole =
    ap (λ (t : List ℕ). t ++ named_claim_lines (claims_in m rest)) (e ∙ ap₂ (λ (n : List ℕ) (c : Option (List ℕ)). out ++ named_claim_text (n, c)) is says)
    ∙ append_assoc out (named_claim_text (name, fin.get m key)) (named_claim_lines (claims_in m rest))
    ∙ ap (λ (es : KeyedNames). out ++ named_claim_lines (claims_in m es)) (sym steps)
    ∙ whole

length-claims_in : (m : Map) (es : KeyedNames) → length (claims_in m es) ≡ length es
length-claims_in m [] = refl
length-claims_in m (e ∷ es) = ap suc (length-claims_in m es)

-- the block is its first line, then the claims, then the items
pub names_block-parts : (m : Map) (es : KeyedNames) (items : List Item) (n i : ℕ) → n ≡ length es → i ≡ length items → items ≡ shared_proof m (keys_in es)
    → (many_line_text n i ++ named_claim_lines (claims_in m es)) ++ item_lines items ≡ names_block m es
unfolding names_block many_block
names_block-parts m es items n i ns is same =
    append_assoc (many_line_text n i) (named_claim_lines (claims_in m es)) (item_lines items)
    ∙ ap₂ (λ (n i : ℕ). many_line_text n i ++ (named_claim_lines (claims_in m es) ++ item_lines items)) (ns ∙ sym (length-claims_in m es)) is
    ∙ ap (λ (items : List Item). many_line_text (length (claims_in m es)) (length items) ++ (named_claim_lines (claims_in m es) ++ item_lines items)) same

-- ---- acceptance
on_keys-claims_in : (m : Map) (es : KeyedNames) → AreKeyed es → on_keys (claims_in m es) ≡ own_claims m (keys_in es)
on_keys-claims_in m [] all = refl
on_keys-claims_in m (e ∷ es) all = ap₂ (λ (k : List ℕ) (t : List (List ℕ × Option (List ℕ))). (k, fin.get m e.0) ∷ t) (sym all.0) (on_keys-claims_in m es all.1)

pub claims_in-accepted : OwnClaimsAreAccepted → AnswersAreAccepted
claims_in-accepted own m names is_map =
    ap (λ cs. many_refusal (root m) cs (shared_proof m (keys_in (names_by_key names)))) (on_keys-claims_in m (names_by_key names) (names_by_key-keyed names))
    ∙ own m (keys_in (names_by_key names)) is_map
