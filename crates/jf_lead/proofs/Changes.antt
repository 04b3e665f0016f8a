-- A change of a key above all of a batch stands at its end.
use Rattle.std.proofs.Common.{◌≡◌, ℕ, ◌-◌, true, Bool, List, [], ◌∷◌, ◌++◌, length, Option, Some, None, T, is_lt, slice_get, arith, ◌∙◌, get_or, refl, subst}
use Rattle.std.specs.FinMap.{is_sorted, put}
use Rattle.std.proofs.lemmas.Option.{slice_get-get_or}
use Rattle.std.proofs.lemmas.List.Edits.{insert_end}
use Rattle.jf_path.specs.Keys.{key_cmp}
use Rattle.jf_hash.specs.Maps.{Batch}
use Rattle.jf_model.specs.Puts.{Change}
use Rattle.jf_split.specs.Places.{IsGapFor}
use Rattle.jf_split.proofs.Puts.{put-gap}
use Rattle.jf_split.proofs.Searches.{gap-end}
use Rattle.jf_lead.specs.Reading.{is_above}

no_gap : (key : List ℕ) → IsGapFor key [] 0
no_gap key = record { within = omega arith; before = λ k e lt. absurd (omega arith); behind = λ k e le lt. absurd (omega arith) }

gap-last : (key : List ℕ) (b : Batch) (o : Option Change) → T (is_sorted key_cmp b) → slice_get b (length b - 1) ≡ o → (d : Change) → o ≡ Some d
    → elim o as (λ x. Bool) [ Some last ↦ is_lt (key_cmp last.0 key) | None ↦ true ] ≡ true → IsGapFor key b (length b)
gap-last key b o sorted is d e above = gap-end key b d sorted (is ∙ e) (subst (λ x. elim x as (λ y. Bool) [ Some last ↦ is_lt (key_cmp last.0 key) | None ↦ true ] ≡ true) e above)

-- a key above the last one has its gap at the end
pub gap-above : (key : List ℕ) (b : Batch) → T (is_sorted key_cmp b) → is_above key b ≡ true → IsGapFor key b (length b)
gap-above key [] sorted above = no_gap key
gap-above key (e ∷ es) sorted above =
    gap-last key (e ∷ es) (slice_get (e ∷ es) (length (e ∷ es) - 1)) sorted refl (get_or (e ∷ es) (length (e ∷ es) - 1) e) (slice_get-get_or (e ∷ es) (length (e ∷ es) - 1) e (omega arith)) above

-- such a change is put there
pub put-above : (key : List ℕ) (value : Option (List ℕ)) (b : Batch) → T (is_sorted key_cmp b) → is_above key b ≡ true → put key_cmp key value b ≡ b ++ (key, value) ∷ []
put-above key value b sorted above = put-gap key value b (length b) (gap-above key b sorted above) ∙ insert_end b (key, value)
