-- How many bytes lists take.
use Rattle.std.proofs.Common.{◌≡◌, ℕ, ◌*◌, List, [], ◌∷◌, length, refl, arith}
use Rattle.std.proofs.lemmas.List.{length-append}
use Rattle.std.specs.List.{flat_map, AllByRecursion}
use Rattle.jf_path.specs.Keys.{IsKey}

pub hashes_length : (hs : List (List ℕ)) → AllByRecursion IsKey hs → length (flat_map (λ h. h) hs) ≡ length hs * 32
hashes_length [] all = refl
hashes_length (h ∷ hs) all = omega (arith, length-append h (flat_map (λ x. x) hs), all.0.long, hashes_length hs all.1)
