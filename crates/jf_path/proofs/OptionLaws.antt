-- What a test lets through, and what is there.
use Rattle.std.proofs.Common.{◌≡◌, Bool, true, false, cond, Option, Some, None, refl}

-- a check that let reading go on was true
pub guard_kept : {A : Type 0} (b : Bool) (r : Option A) (y : A) → cond b r None ≡ Some y → (b ≡ true) × (r ≡ Some y)
guard_kept true r y e = (refl, e)
guard_kept false r y e = absurd cc

-- one thing alone is what is there
pub some_same : {A : Type 0} (a b : A) → Some a ≡ Some b → a ≡ b
some_same a b e = cc
