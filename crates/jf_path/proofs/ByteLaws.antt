-- Bytes place by place, and what is taken from their front.
use Rattle.std.proofs.Common.{ℕ, ◌<◌, List, get_or, ◌+◌, drop, take, arith, inl, inr, suc, ◌∷◌, [], zero, ◌≡◌, ◌++◌, sym, ap, ◌∙◌, append_assoc}
use Rattle.std.proofs.lemmas.Bool.{cases_lt}
use Rattle.std.proofs.lemmas.List.{get_or-drop, length-take, get_or-take, get_or_past}
use Rattle.jf_path.specs.Keys.{IsBytes}

-- each number is a byte: it is below 256
abbrev pub AreBytes : List ℕ → Type 0
AreBytes bytes = (i : ℕ) → get_or bytes i 0 < 256

pub AreBytes-drop : (n : ℕ) (bytes : List ℕ) → AreBytes bytes → AreBytes (drop n bytes)
AreBytes-drop n bytes h i = rw get_or-drop (h (n + i))

pub AreBytes-take : (n : ℕ) (bytes : List ℕ) → AreBytes bytes → AreBytes (take n bytes)
AreBytes-take n bytes h i =
    elim (cases_lt i n) [
      | inl lt ↦ rw (get_or-take n bytes i 0 lt) (h i)
      | inr le ↦ rw (get_or_past (take n bytes) i 0 (omega (arith, length-take n bytes))) (omega arith)
    ]

pub AreBytes-rest : (b : ℕ) (bytes : List ℕ) → AreBytes (b ∷ bytes) → AreBytes bytes
AreBytes-rest b bytes h i = h (suc i)

pub IsBytes-from_places : (bytes : List ℕ) → AreBytes bytes → IsBytes bytes
IsBytes-from_places [] h = tt
IsBytes-from_places (b ∷ bytes) h = (h 0, IsBytes-from_places bytes (AreBytes-rest b bytes h))

pub AreBytes-at_places : (bytes : List ℕ) → IsBytes bytes → AreBytes bytes
AreBytes-at_places [] h i = omega arith
AreBytes-at_places (b ∷ bytes) h zero = h.0
AreBytes-at_places (b ∷ bytes) h (suc i) = AreBytes-at_places bytes h.1 i

-- what a reader took from the front of bytes
pub record Takes (bytes text rest : List ℕ) : Type 0 where
  pub parts : bytes ≡ text ++ rest
  pub rest_fits : AreBytes rest

pub Takes-then : (a x b y c : List ℕ) → Takes a x b → Takes b y c → Takes a (x ++ y) c
Takes-then a x b y c p q = record { parts = p.parts ∙ ap (λ (t : List ℕ). x ++ t) q.parts ∙ sym (append_assoc x y c); rest_fits = q.rest_fits }

pub IsBytes-append : (xs ys : List ℕ) → IsBytes xs → IsBytes ys → IsBytes (xs ++ ys)
IsBytes-append [] ys p q = q
IsBytes-append (x ∷ xs) ys p q = (p.0, IsBytes-append xs ys p.1 q)
