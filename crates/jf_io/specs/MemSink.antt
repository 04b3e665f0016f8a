-- A sink in memory as its callers see it, and what its next call does.
use Rattle.std.specs.Prelude.{◌≡◌, ◌⊎◌, ℕ, ◌-◌, min, List, ◌++◌, length, take}
use Rattle.jf_io.specs.Calls.{CallsMade, IsNextListed, after_success, after_fault}

-- a sink in memory between two calls
pub record Output : Type 0 where
  -- the bytes taken so far
  pub text : List ℕ
  -- how many more bytes it can take
  pub room : ℕ
  -- the most bytes that one call takes
  pub piece : ℕ
  -- the calls so far
  pub calls : CallsMade

-- the next call fails: it is listed, or no room is left
abbrev pub FailsNextPut : Output → Type 0
FailsNextPut output = IsNextListed output.calls ⊎ (output.room ≡ 0)

-- how many of these bytes the next call takes, unless it fails
abbrev pub next_put_amount : Output → List ℕ → ℕ
next_put_amount output bytes = min (length bytes) (min output.piece output.room)

-- after a call that took the first n of these bytes
abbrev pub after_put : Output → ℕ → List ℕ → Output
after_put output n bytes =
    record output { text = output.text ++ take n bytes; room = output.room - n; calls = after_success output.calls }

-- after a call that failed
abbrev pub after_failed_put : Output → Output
after_failed_put output = record output { calls = after_fault output.calls }
