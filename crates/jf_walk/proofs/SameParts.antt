-- Comparing parts entry by entry decides whether they are the same.
use Rattle.std.proofs.Common.{◌≡◌, true, ◌&&◌, [], ◌∷◌, refl, ap₂, ◌∙◌, sym, true≢false, false, inl, inr, ◌⊎◌, ap, ◌≤◌, length, arith, not}
use Rattle.std.proofs.lemmas.Slice.Eq.{bytes_eq-Decides}
use Rattle.std.specs.Str.{bytes_eq}
use Rattle.jf_path.proofs.BoolLaws.{left_true, right_true}
use Rattle.jf_hash.specs.Slots.{Part}
use Rattle.jf_model.specs.Nodes.{same_part}
use Rattle.jf_model.specs.Walk.{differs}

-- the comparison finds a part the same as itself
pub same_part-refl : (es : Part) → same_part es es ≡ true
same_part-refl [] = refl
same_part-refl (e ∷ es) = ap₂ (λ a b. a && b && same_part es es) ((bytes_eq-Decides e.0 e.0).1 refl) ((bytes_eq-Decides e.1 e.1).1 refl) ∙ same_part-refl es

-- the comparison finds two parts the same only if they are
pub same_part-exact : (es fs : Part) → same_part es fs ≡ true → es ≡ fs
same_part-exact [] [] h = refl
same_part-exact [] (f ∷ fs) h = absurd (true≢false (sym h))
same_part-exact (e ∷ es) [] h = absurd (true≢false (sym h))
same_part-exact (e ∷ es) (f ∷ fs) h =
    let heads = left_true _ _ h in
    ap₂ (λ x t. x ∷ t)
    (ap₂ (λ k v. (k, v)) ((bytes_eq-Decides e.0 f.0).0 (left_true _ _ heads)) ((bytes_eq-Decides e.1 f.1).0 (right_true (bytes_eq e.0 f.0) _ heads)))
    (same_part-exact es fs (right_true (bytes_eq e.0 f.0 && bytes_eq e.1 f.1) _ h))

-- two parts are the same or not
pub same_or_other : (old new : Part) → (old ≡ new) ⊎ (¬ (old ≡ new))
same_or_other old new = elim (same_part old new) as (λ b. same_part old new ≡ b → (old ≡ new) ⊎ (¬ (old ≡ new))) [
  | true ↦ λ is. inl (same_part-exact old new is)
  | false ↦ λ is. inr (λ same. true≢false (sym (same_part-refl new) ∙ ap (λ es. same_part es new) (sym same) ∙ is))
] refl

-- a part has no entry, or at least one
pub some_entry : (es : Part) → (es ≡ []) ⊎ (1 ≤ length es)
some_entry [] = inl refl
some_entry (e ∷ es) = inr (omega arith)

-- a part with at least one entry isn't the empty one
pub not_empty : (es : Part) → 1 ≤ length es → ¬ (es ≡ [])
not_empty es some none = let e = ap length none in omega arith

-- a part does not differ from itself
pub differs-same : (es : Part) → differs es es ≡ false
differs-same [] = refl
differs-same (e ∷ es) = ap not (same_part-refl (e ∷ es))

-- a node differs from the old one, or has the same part
pub differs_or_same : (old new : Part) → 1 ≤ length new → (differs old new ≡ true) ⊎ (old ≡ new)
differs_or_same old [] some = absurd (omega arith)
differs_or_same old (e ∷ es) some = elim (same_part old (e ∷ es)) as (λ b. same_part old (e ∷ es) ≡ b → (not b ≡ true) ⊎ (old ≡ e ∷ es)) [
  | true ↦ λ is. inr (same_part-exact old (e ∷ es) is)
  | false ↦ λ is. inl refl
] refl

-- parts of which one differs from the other are not the same
pub differs-other : (old new : Part) → differs old new ≡ true → ¬ (old ≡ new)
differs-other old new differ same = true≢false (sym differ ∙ ap (λ es. differs es new) same ∙ differs-same new)
