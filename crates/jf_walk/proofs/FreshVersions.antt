-- The nodes that a landing writes are those to which it gives the new version.
use Rattle.std.proofs.Common.{◌≡◌, ℕ, true, false, not, ◌&&◌, ◌∷◌, sym, ap, ap₂, ◌∙◌, refl, cond, inl, inr, Option, Some}
use Rattle.jf_hash.specs.Slots.{Part}
use Rattle.jf_model.specs.Nodes.{Path, under, is_node, same_part, is_fresh}
use Rattle.jf_model.specs.ChildEntries.{sub}
use Rattle.jf_model.specs.NodeVersions.{VersionFollows}
use Rattle.jf_walk.proofs.SameParts.{same_part-refl, same_part-exact, same_or_other}
use Rattle.jf_walk.proofs.SubLaws.{sub-under, is_node-sub, sub-is_node_below}

-- a node with the part of before is not fresh
pub is_fresh-same : (old new : Part) (n : ℕ) (p : Path) → is_node 0 (n ∷ p) new ≡ true → sub 0 (n ∷ p) old ≡ sub 0 (n ∷ p) new → is_fresh old new (n ∷ p) ≡ false
unfolding is_fresh
is_fresh-same old new n p node same =
    let was : is_node 0 (n ∷ p) old ≡ true = is_node-sub 0 (n ∷ p) old (λ none. sub-is_node_below 0 n p new node (sym same ∙ none)) in
    let parts : under 0 (n ∷ p) old ≡ under 0 (n ∷ p) new = sym (sub-under 0 (n ∷ p) old was) ∙ same ∙ sub-under 0 (n ∷ p) new node in
    ap₂ (λ a b. a && not (b && same_part (under 0 (n ∷ p) old) (under 0 (n ∷ p) new))) node was ∙ ap (λ es. not (same_part es (under 0 (n ∷ p) new))) parts ∙ ap not (same_part-refl (under 0 (n ∷ p) new))

-- a node below the top whose part has changed is fresh
pub is_fresh-other : (old new : Part) (n : ℕ) (p : Path) → is_node 0 (n ∷ p) new ≡ true → ¬ (sub 0 (n ∷ p) old ≡ sub 0 (n ∷ p) new) → is_fresh old new (n ∷ p) ≡ true
unfolding is_fresh
is_fresh-other old new n p node other =
    ap (λ a. a && not (is_node 0 (n ∷ p) old && same_part (under 0 (n ∷ p) old) (under 0 (n ∷ p) new))) node
    ∙ (elim (is_node 0 (n ∷ p) old) as (λ b. is_node 0 (n ∷ p) old ≡ b → not (b && same_part (under 0 (n ∷ p) old) (under 0 (n ∷ p) new)) ≡ true) [
      | true ↦ λ was. elim (same_part (under 0 (n ∷ p) old) (under 0 (n ∷ p) new)) as (λ b. same_part (under 0 (n ∷ p) old) (under 0 (n ∷ p) new) ≡ b → not b ≡ true) [
        | true ↦ λ same. absurd (other (sub-under 0 (n ∷ p) old was ∙ same_part-exact _ _ same ∙ sym (sub-under 0 (n ∷ p) new node)))
        | false ↦ λ differ. refl
      ] refl
      | false ↦ λ none. refl
    ] refl)

-- each node below the top has the new version if it is fresh, and otherwise the version that it had
pub VersionFollows-is_fresh : (version : ℕ) (old new : Part) (n : ℕ) (p : Path) (before now : Option ℕ) → VersionFollows version (sub 0 (n ∷ p) old) (sub 0 (n ∷ p) new) before now → is_node 0 (n ∷ p) new ≡ true → now ≡ cond (is_fresh old new (n ∷ p)) (Some version) before
VersionFollows-is_fresh version old new n p before now h node = elim (same_or_other (sub 0 (n ∷ p) old) (sub 0 (n ∷ p) new)) [
  | inl same ↦ h.kept (sub-is_node_below 0 n p new node) same ∙ ap (λ b. cond b (Some version) before) (sym (is_fresh-same old new n p node same))
  | inr other ↦ h.fresh (sub-is_node_below 0 n p new node) other ∙ ap (λ b. cond b (Some version) before) (sym (is_fresh-other old new n p node other))
]
