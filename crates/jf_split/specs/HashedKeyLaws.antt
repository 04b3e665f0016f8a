-- Equal keys are hashed alike.
use Rattle.std.specs.Prelude.{◌≡◌, ℕ, List, [], ◌∷◌, IsTrue}
use Rattle.std.proofs.Common.{ap}
use Rattle.jf_path.proofs.OrderLaws.{Equal-from_is_eq}
use Rattle.jf_hash.proofs.KeyOrder.{same_key-exact}
use Rattle.jf_hash.specs.Maps.{same_key}

-- what a key feeds to a hasher is the same for equal keys
pub same_input : (x y : List ℕ) → IsTrue (same_key x y) → ◌≡◌ {A = List (List ℕ)} (x ∷ []) (y ∷ [])
same_input x y h = ap (λ k. k ∷ []) (same_key-exact x y (Equal-from_is_eq _ h))
