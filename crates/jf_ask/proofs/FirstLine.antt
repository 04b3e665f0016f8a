-- Bytes that have no line.
use Rattle.std.proofs.Common.{◌≡◌, ℕ, List, [], ◌∷◌, length, refl, arith}
use Rattle.jf_io.specs.Lines.{lines}

pub lines-empty : (bytes : List ℕ) → length bytes ≡ 0 → lines bytes ≡ []
unfolding lines
lines-empty [] none = refl
lines-empty (b ∷ bytes) none = absurd (omega arith)
