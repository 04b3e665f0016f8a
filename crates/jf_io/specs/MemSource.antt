-- A source in memory as its callers see it, and what its next call does.
use Rattle.std.specs.Prelude.{◌≡◌, ◌⊎◌, ℕ, ◌+◌, ◌-◌, ◌^◌, min, List, length, drop}
use Rattle.jf_io.specs.Calls.{CallsMade, IsNextListed, after_success, after_fault}

-- a source in memory between two calls
pub record Input : Type 0 where
  -- the bytes still to come
  pub rest : List ℕ
  -- how many bytes were given so far
  pub given : ℕ
  -- the most bytes that one call gives
  pub piece : ℕ
  -- the calls so far
  pub calls : CallsMade

-- the next call fails: it is listed, or the count of bytes given stands at its greatest
abbrev pub FailsNextTake : Input → Type 0
FailsNextTake input = IsNextListed input.calls ⊎ (input.given ≡ 2 ^ 64 - 1)

-- how many bytes the next call gives into a buffer of `room` bytes, unless it fails
abbrev pub next_take_amount : Input → ℕ → ℕ
next_take_amount input room = min (length input.rest) (min room input.piece)

-- after a call that gave n bytes
abbrev pub after_take : Input → ℕ → Input
after_take input n = record input { rest = drop n input.rest; given = input.given + n; calls = after_success input.calls }

-- after a call that failed
abbrev pub after_failed_take : Input → Input
after_failed_take input = record input { calls = after_fault input.calls }
