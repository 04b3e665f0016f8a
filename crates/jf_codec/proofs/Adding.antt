-- Bytes that are added to keep what they held.
use Rattle.std.proofs.Common.{◌≡◌, ℕ, List, [], ◌∷◌, ◌++◌, length, take, refl, ap, ap₂, ◌∙◌, subst}
use Rattle.jf_codec.specs.Adding.{Keeps}

-- nothing was added yet
pub keeps_same : (old new : List ℕ) → new ≡ old → Keeps old new
keeps_same [] new same = refl
keeps_same (o ∷ old) new same = ap (take (length (o ∷ old))) same ∙ ap (λ xs. o ∷ xs) (keeps_same old old refl)

both : (old x new : List ℕ) → Keeps (old ++ x) new → Keeps old new
both [] x new kept = refl
both (o ∷ old) x [] kept = absurd (cc)
both (o ∷ old) x (n ∷ new) kept = let e : n ≡ o = cc in let es : Keeps (old ++ x) new = cc in ap₂ (λ y ys. y ∷ ys) e (both old x new es)

-- a later call keeps what the earlier ones kept
pub keeps_more : (old mid x new : List ℕ) → mid ≡ old ++ x → Keeps mid new → Keeps old new
keeps_more old mid x new is kept = both old x new (subst (λ m. Keeps m new) is kept)
