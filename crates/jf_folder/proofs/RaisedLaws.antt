-- Counts that stay at their greatest.
use Rattle.std.proofs.Common.{◌≡◌, ℕ, ◌+◌, ◌-◌, ◌<◌, ◌^◌, min, refl, arith}
use Rattle.jf_folder.specs.Calls.{count_after_call}

-- a sum that stays at its greatest is a raised count
pub raised-below : (n : ℕ) → n < 2 ^ 64 → min (n + 1) (2 ^ 64 - 1) ≡ count_after_call n
unfolding count_after_call
raised-below n below = grind arith

-- the first call is counted
pub raised_zero : count_after_call 0 ≡ 1
unfolding count_after_call
raised_zero = refl
