-- The results of one function on each of several pieces.
use Rattle.std.specs.Prelude.{◌≡◌, ℕ, ◌<◌, List, length, slice_index_or}
use Rattle.std.specs.List.{AllZip}
use Rattle.std.specs.Fn.{Shared, FnReturnsAt}
use denote.Ref.{Bor}

-- f may be called on each of the pieces
abbrev pub TakesEach : {F T R : Type 0} → Shared F (Bor T × Unit {0}) R → F → List T → Type 0
TakesEach {F} {T} g f xs = (i : ℕ) (d : T) (p : Bor T) → i < length xs → p.now ≡ slice_index_or xs i d → g.pre f (p, tt)

-- as many results as pieces, each of which f may return for the piece at its place
pub record AnswersEach {F T R : Type 0} (g : Shared F (Bor T × Unit {0}) R) (f : F) (xs : List T) (rs : List R) : Type 0 where
  pub each : AllZip (λ x r. FnReturnsAt g f x r) xs rs
