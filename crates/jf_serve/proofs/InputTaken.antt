-- What was taken of an input, and what is still to come.
use Rattle.std.proofs.Common.{◌≡◌, ℕ, ◌<◌, List, [], ◌++◌, Option, Some, length, refl, sym, ap, ◌∙◌, append-nil, length-append, arith}

-- the bytes taken and those to come are the input, if that is known
abbrev pub IsFrontTaken : Option (List ℕ) → Option (List ℕ) → List ℕ → Type 0
IsFrontTaken rest rest' bytes = (input : List ℕ) → rest ≡ Some input → (left : List ℕ) × (rest' ≡ Some left) × (bytes ++ left ≡ input)

-- nothing was taken yet
pub taken-none : (rest : Option (List ℕ)) → IsFrontTaken rest rest []
taken-none rest input e = (input, e, refl)

module _ (rest rest' : Option (List ℕ)) (bytes : List ℕ) (taken : IsFrontTaken rest rest' bytes) where
  -- some more was taken
  pub taken-more : (rest'' : Option (List ℕ)) (bytes' : List ℕ) → ((to_come : List ℕ) → rest' ≡ Some to_come → (left : List ℕ) × (rest'' ≡ Some left) × (bytes' ++ left ≡ bytes ++ to_come)) → IsFrontTaken rest rest'' bytes'
  taken-more rest'' bytes' more input e = let before = taken input e in let after = more before.0 before.1 in (after.0, after.1, after.2 ∙ before.2)

  -- all was taken
  pub taken-all : ((left : List ℕ) → rest' ≡ Some left → left ≡ []) → (input : List ℕ) → rest ≡ Some input → (rest' ≡ Some []) × (bytes ≡ input)
  taken-all none input e =
      let now = taken input e in
      let over : now.0 ≡ [] = none now.0 now.1 in
      (now.1 ∙ ap (λ left. Some left) over, sym (append-nil bytes) ∙ ap (λ left. bytes ++ left) (sym over) ∙ now.2)

  -- an input is no shorter than what was taken
  pub taken-long : (n : ℕ) → n < length bytes → (input : List ℕ) → rest ≡ Some input → n < length input
  taken-long n lt input e = let now = taken input e in omega (arith, lt, ap length now.2, length-append bytes now.0)
