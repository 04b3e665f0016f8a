-- What a sink has taken if it failed before all was put.
use Rattle.std.specs.Prelude.{◌≡◌, ℕ, ◌<◌, List, ◌++◌, length, Option, option_map}

-- a front of `bytes`, but not all of them, was appended to the text, if the text is known
pub record IsCutShort (old new : Option (List ℕ)) (bytes : List ℕ) : Type 0 where
  pub front : List ℕ
  pub missing : List ℕ
  pub whole : front ++ missing ≡ bytes
  pub is_short : 0 < length missing
  pub appended : new ≡ option_map (λ t. t ++ front) old
