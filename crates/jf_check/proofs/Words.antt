-- The words of numbers, one label and number after another.
use Rattle.std.specs.Prelude.{codes}
use Rattle.std.proofs.Common.{◌≡◌, List, ℕ, [], ◌∷◌, ◌++◌, append_assoc}
use Rattle.std.proofs.lemmas.List.{append-nil}
use Rattle.jf_text.specs.Words.{spaced_words}
use Rattle.jf_text.proofs.Spaces.{spaced-append}

pub four_spaced : (out a b c d : List ℕ) → (((out ++ (codes " generation " ++ a)) ++ (codes " base " ++ b)) ++ (codes " floor " ++ c)) ++ (codes " head " ++ d) ≡ out ++ spaced_words (codes "generation" ∷ a ∷ codes "base" ∷ b ∷ codes "floor" ∷ c ∷ codes "head" ∷ d ∷ [])
four_spaced out a b c d = simp (append_assoc, append-nil)

pub whole_spaced : (out size records behind : List ℕ) (numbers : List (List ℕ)) → (((out ++ (codes " size " ++ size)) ++ spaced_words numbers) ++ (codes " records " ++ records)) ++ (codes " behind " ++ behind) ≡ out ++ spaced_words (codes "size" ∷ size ∷ numbers ++ codes "records" ∷ records ∷ codes "behind" ∷ behind ∷ [])
whole_spaced out size records behind numbers = rw (spaced-append numbers (codes "records" ∷ records ∷ codes "behind" ∷ behind ∷ [])) (simp (append_assoc, append-nil))
