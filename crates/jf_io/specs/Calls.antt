-- The calls of a source or a sink in memory, numbered from 0, of which listed ones fail.
use Rattle.std.specs.Prelude.{ℕ, List, ◌+◌, ◌-◌, ◌^◌, min, Contains}

-- the calls made so far, and the numbers of those that fail
pub record CallsMade : Type 0 where
  -- how many calls were made, which is the number of the next call
  pub made : ℕ
  -- the numbers of the calls that fail
  pub failing : List ℕ
  -- how many calls failed
  pub faults : ℕ

-- a count of 64 bits after one more call: it stays at the greatest number
abbrev pub counted_up : ℕ → ℕ
counted_up n = min (n + 1) (2 ^ 64 - 1)

-- the number of the next call is listed
abbrev pub IsNextListed : CallsMade → Type 0
IsNextListed calls = Contains calls.failing calls.made

-- after a call that succeeded
abbrev pub after_success : CallsMade → CallsMade
after_success calls = record calls { made = counted_up calls.made }

-- after a call that failed
abbrev pub after_fault : CallsMade → CallsMade
after_fault calls = record calls { made = counted_up calls.made; faults = counted_up calls.faults }
