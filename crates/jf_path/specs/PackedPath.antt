-- How a path is kept: its nibbles packed into 32 bytes, and zeros after them.
use Rattle.std.proofs.Common.{◌≡◌, ℕ, ◌*◌, ◌-◌, ◌<◌, ◌≤◌, List, [], ◌∷◌, length, drop, get_or, replicate, ◌++◌, take, refl, sym, ap, ap₂, ◌∙◌, arith}
use Rattle.std.proofs.lemmas.List.{length-take, take-append-drop}
use Rattle.jf_path.specs.Paths.{halves, packed_nibbles}

-- the first `count` halves of 32 bytes are the nibbles, and the halves after them are zero
pub record ArePackedNibbles (count : ℕ) (bytes : List ℕ) : Type 0 where
  pub short : count ≤ 64
  pub long : length bytes ≡ 32
  pub small : (i : ℕ) → get_or bytes i 0 < 256
  pub zeros : drop count (halves bytes) ≡ replicate (64 - count) 0

pub length-halves : (bytes : List ℕ) → length (halves bytes) ≡ 2 * length bytes
length-halves [] = refl
length-halves (b ∷ bytes) = omega (arith, length-halves bytes)

packed-halves : (bytes : List ℕ) → packed_nibbles (halves bytes) ≡ bytes
packed-halves [] = refl
packed-halves (b ∷ bytes) = ap₂ (λ (c : ℕ) (cs : List ℕ). c ∷ cs) (omega arith) (packed-halves bytes)

-- as many nibbles as the count says
pub kept_count : (count : ℕ) (bytes : List ℕ) → ArePackedNibbles count bytes → length (take count (halves bytes)) ≡ count
kept_count count bytes kept = let short = kept.short in let long = kept.long in omega (arith, length-take count (halves bytes), length-halves bytes)

-- the halves are the nibbles and zeros after them
pub kept_halves : (count : ℕ) (bytes : List ℕ) → ArePackedNibbles count bytes → take count (halves bytes) ++ replicate (64 - count) 0 ≡ halves bytes
kept_halves count bytes kept = ap (λ (xs : List ℕ). take count (halves bytes) ++ xs) (sym kept.zeros) ∙ take-append-drop count (halves bytes)

-- the bytes and the count are known from the nibbles alone
pub kept_again : {X : Type 0} (make : List ℕ → ℕ → X) (count : ℕ) (bytes : List ℕ) → ArePackedNibbles count bytes
    → make (packed_nibbles (take count (halves bytes) ++ replicate (64 - length (take count (halves bytes))) 0)) (length (take count (halves bytes))) ≡ make bytes count
kept_again make count bytes kept =
    let same = kept_count count bytes kept in
    ap₂ make (ap (λ n. packed_nibbles (take count (halves bytes) ++ replicate (64 - n) 0)) same ∙ ap packed_nibbles (kept_halves count bytes kept) ∙ packed-halves bytes) same
