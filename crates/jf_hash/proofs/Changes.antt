-- Whether a place changed is determined by how many bits are set.
use Rattle.std.specs.Prelude.{◌≡◌, Bool, true, false, List, [], ◌∷◌}
use Rattle.std.specs.List.{count_by}
use Rattle.std.proofs.Common.{arith, refl, ◌∙◌, sym}
use Rattle.jf_path.proofs.BitmapLaws.{count_by-set, count_by-clear}
use Rattle.jf_hash.specs.Ranges.{has_change}

pub has_change-count : (changes : List Bool) → count_by (λ bit. bit) changes ≡ 0 → has_change changes ≡ false
has_change-count [] none = refl
has_change-count (true ∷ changes) none = absurd (omega (arith, count_by-set changes))
has_change-count (false ∷ changes) none = has_change-count changes (sym (count_by-clear changes) ∙ none)

pub has_change-counted : (changes : List Bool) → ¬ (count_by (λ bit. bit) changes ≡ 0) → has_change changes ≡ true
has_change-counted [] some = absurd (some refl)
has_change-counted (true ∷ changes) some = refl
has_change-counted (false ∷ changes) some = has_change-counted changes (λ none. some (count_by-clear changes ∙ none))
