-- Laws on the state of a run: what its entries have made so far.
use Rattle.std.specs.Prelude.{◌≡◌, List, [], ◌∷◌, length, take, ℕ}
use Rattle.std.proofs.Common.{refl, ap, sym, ◌∙◌, le_refl}
use Rattle.jf_model.specs.Versions.{Versions, IsVersions}
use Rattle.jf_model.specs.States.{versions, state_when_opened, IsState}

-- ---- laws
take-all : {X : Type 0} (xs : List X) → take (length xs) xs ≡ xs
take-all [] = refl
take-all (x ∷ xs) = ap (λ t. x ∷ t) (take-all xs)

-- a store that was opened has the versions that were found
pub versions-opened : (v : Versions) (g : ℕ) → IsVersions v → versions (state_when_opened v g) ≡ v
versions-opened v g sound =
    ap (λ ms. record { base = v.base; floor = v.floor; head = v.head; roots = v.roots; maps = ms }) (ap (λ n. take n v.maps) (sym sound.map_each) ∙ take-all v.maps)

-- the state of a store that was opened is sound
pub opened-IsState : (v : Versions) (g : ℕ) → IsVersions v → IsState (state_when_opened v g)
opened-IsState v g sound = record { sound = sound; first = le_refl v.floor; floor_low = le_refl v.floor; retired_low = sound.floor_first; live = tt; batches = tt }
