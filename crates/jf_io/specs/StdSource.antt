-- A source over a reader of std has no known bytes: only its counts are known.
use Rattle.std.specs.Prelude.{ℕ}

-- the counts of a source
pub record SourceCounts : Type 0 where
  -- how many bytes were given
  pub given : ℕ
  -- how many calls failed
  pub faults : ℕ
