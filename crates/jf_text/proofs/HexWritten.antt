-- Hexadecimal text is written in parts.
use Rattle.std.proofs.Common.{arith, ◌≡◌, ◌∙◌, ap, ℕ, ◌-◌, ◌≤◌, List, [], ◌∷◌, ◌++◌, take, drop, refl, sym}
use Rattle.std.proofs.lemmas.List.{append_assoc, append-nil}
use Rattle.std.proofs.Math.Seq.{take-add}
use Rattle.hex.specs.Hex.{encode_with, encode_lower, lower_digits}

encode_with-append : (t xs ys : List ℕ) → encode_with t (xs ++ ys) ≡ encode_with t xs ++ encode_with t ys
unfolding encode_with
encode_with-append t [] ys = refl
encode_with-append t (x ∷ xs) ys = rw (encode_with-append t xs ys) refl

-- one more part adds its digits
pub encode-more : (before out bytes : List ℕ) (start end : ℕ) → start ≤ end → out ≡ before ++ encode_lower (take start bytes)
    → out ++ encode_lower (take (end - start) (drop start bytes)) ≡ before ++ encode_lower (take end bytes)
encode-more before out bytes start end le e =
    let whole : take end bytes ≡ take start bytes ++ take (end - start) (drop start bytes) =
    ap (λ n. take n bytes) (omega (arith, le)) ∙ take-add start (end - start) bytes in
    rw (e, whole, encode_with-append lower_digits (take start bytes) (take (end - start) (drop start bytes)))
    (simp append_assoc)

-- before the first part nothing is added
pub encode-none : (out bytes : List ℕ) → out ≡ out ++ encode_lower (take 0 bytes)
unfolding encode_with
encode-none out bytes = sym (append-nil out)
