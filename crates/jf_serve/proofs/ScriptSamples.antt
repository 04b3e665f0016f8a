-- Worked inputs, and the scripts that they are cut into.
use Rattle.std.proofs.Common.{◌≡◌, [], ◌∷◌, ◌++◌, refl, codes}
use Rattle.jf_io.specs.Lines.{lines}
use Rattle.jf_serve.specs.SessionScripts.{scripts_in}

-- no bytes: one session without lines
no_bytes : scripts_in [] ≡ [] ∷ []
unfolding lines
no_bytes = refl

-- the same with a line feed or a session line alone
one_feed : scripts_in (10 ∷ []) ≡ ([] ∷ []) ∷ []
unfolding lines
one_feed = refl

session_alone : scripts_in (codes "session") ≡ [] ∷ []
unfolding lines
session_alone = refl

-- lines before the first session line are a session
two : scripts_in (codes "drop f0" ++ 10 ∷ codes "session" ++ 10 ∷ codes "commit" ++ 10 ∷ []) ≡ (codes "drop f0" ∷ []) ∷ (codes "commit" ∷ []) ∷ []
unfolding lines
two = refl

-- two session lines are two sessions without lines
two_empty : scripts_in (codes "session" ++ 10 ∷ codes "session") ≡ [] ∷ [] ∷ []
unfolding lines
two_empty = refl

-- lines that almost are session lines
almost : scripts_in (codes "session " ++ 10 ∷ codes "sessions" ++ 10 ∷ codes "Session") ≡ (codes "session " ∷ codes "sessions" ∷ codes "Session" ∷ []) ∷ []
unfolding lines
almost = refl
