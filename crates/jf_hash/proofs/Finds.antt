-- What a search finds in two lists of entries, one behind the other.
use Rattle.std.specs.Prelude.{◌≡◌, ℕ, cond, List, [], ◌∷◌, ◌++◌, Some, None, true, false, refl}
use Rattle.std.proofs.Common.{ap}
use Rattle.std.specs.FinMap.{find}
use Rattle.std.specs.Ordering.{is_eq}
use Rattle.jf_path.specs.Keys.{key_cmp}
use Rattle.jf_hash.specs.Slots.{Part}

pub find-left : (key : List ℕ) (es fs : Part) → find key_cmp key fs ≡ None → find key_cmp key (es ++ fs) ≡ find key_cmp key es
find-left key [] fs h = h
find-left key (e ∷ es) fs h = ap (λ r. cond (is_eq (key_cmp key e.0)) (Some e.1) r) (find-left key es fs h)

pub find-right : (key : List ℕ) (es fs : Part) → find key_cmp key es ≡ None → find key_cmp key (es ++ fs) ≡ find key_cmp key fs
find-right key [] fs h = refl
find-right key (e ∷ es) fs h =
    elim (is_eq (key_cmp key e.0)) as (λ b. cond b (Some e.1) (find key_cmp key es) ≡ None → cond b (Some e.1) (find key_cmp key (es ++ fs)) ≡ find key_cmp key fs) [
      | true ↦ λ no. (cc)
      | false ↦ λ no. find-right key es fs no
    ] h
