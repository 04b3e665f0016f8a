-- Texts to which a front of some bytes was appended.
use Rattle.std.proofs.Common.{◌≡◌, ℕ, ◌+◌, ◌-◌, ◌<◌, ◌≤◌, List, ◌++◌, length, take, drop, Option, Some, None, refl, arith, ap, ◌∙◌, append_assoc, length-drop}
use Rattle.std.specs.Prelude.{option_map}
use Rattle.std.proofs.lemmas.List.{take-append-drop, take_all}
use Rattle.std.proofs.Math.Seq.{take-add}
use Rattle.jf_io.specs.Sink.{IsCutShort}

-- the first d bytes and the next n bytes are the first d + n
take-take-drop : (bytes : List ℕ) (d n : ℕ) → take d bytes ++ take n (take (length bytes - d) (drop d bytes)) ≡ take (d + n) bytes
take-take-drop bytes d n =
    let all : length (drop d bytes) ≤ length bytes - d = omega (arith, length-drop d bytes) in
    rw (take_all (length bytes - d) (drop d bytes) all, take-add) refl

-- appending the first d bytes and then the next n appends the first d + n
option_map-append_more : (old : Option (List ℕ)) (bytes : List ℕ) (d n : ℕ)
    → option_map (λ t. t ++ take n (take (length bytes - d) (drop d bytes))) (option_map (λ t. t ++ take d bytes) old) ≡ option_map (λ t. t ++ take (d + n) bytes) old
option_map-append_more None bytes d n = refl
option_map-append_more (Some t) bytes d n = ap Some (rw append_assoc (ap (λ xs. t ++ xs) (take-take-drop bytes d n)))

-- appending in two steps, with the text after each step named
pub appended_more : (old mid new : Option (List ℕ)) (bytes : List ℕ) (d n : ℕ)
    → mid ≡ option_map (λ t. t ++ take d bytes) old → new ≡ option_map (λ t. t ++ take n (take (length bytes - d) (drop d bytes))) mid
    → new ≡ option_map (λ t. t ++ take (d + n) bytes) old
appended_more old mid new bytes d n first more =
    more ∙ (ap (option_map (λ t. t ++ take n (take (length bytes - d) (drop d bytes)))) first ∙ option_map-append_more old bytes d n)

-- a text to which only the first d bytes were appended, and d is less than all
pub is_cut_short : (old mid new : Option (List ℕ)) (bytes : List ℕ) (d : ℕ) → d < length bytes
    → mid ≡ option_map (λ t. t ++ take d bytes) old → new ≡ mid → IsCutShort old new bytes
is_cut_short old mid new bytes d short first same =
    record {
      front = take d bytes;
      missing = drop d bytes;
      whole = take-append-drop d bytes;
      is_short = omega (arith, length-drop d bytes);
      appended = same ∙ first;
    }
