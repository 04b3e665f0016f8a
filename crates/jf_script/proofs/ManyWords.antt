-- Lines of more than four words are no commands.
use Rattle.std.proofs.Common.{◌≡◌, ℕ, None, List, ◌∷◌, refl}
use Rattle.jf_text.specs.Words.{words}
use Rattle.jf_text.proofs.Spaces.{words-some}
use Rattle.jf_script.specs.Commands.{command_of}

-- a line of five words or more is outside the grammar
pub command_of-many : (line r1 r2 r3 r4 w a b c : List ℕ) → words line ≡ w ∷ words r1 → words r1 ≡ a ∷ words r2 → words r2 ≡ b ∷ words r3 → words r3 ≡ c ∷ words r4 → command_of line ≡ None
unfolding command_of
command_of-many line r1 r2 r3 r4 w a b c e1 e2 e3 e4 = let more = words-some r4 in rw (e1, e2, e3, e4, more.2) refl
