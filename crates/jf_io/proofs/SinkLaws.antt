-- A text that is cut short of some bytes, and of others that they are a front of.
use Rattle.std.proofs.Common.{◌≡◌, ℕ, ◌<◌, List, [], ◌++◌, length, Option, refl, sym, ap, subst, ◌∙◌, append_assoc, length-append, arith}
use Rattle.jf_io.specs.Sink.{IsCutShort}
use Rattle.jf_io.proofs.Written.{nothing_written}

-- a sink that took nothing is short of any bytes
pub cut_short-none : (text : Option (List ℕ)) (bytes : List ℕ) → 0 < length bytes → IsCutShort text text bytes
cut_short-none text bytes some = record { front = []; missing = bytes; whole = refl; is_short = some; appended = nothing_written text }

-- a text that is cut short is cut short of a longer one
pub cut_short-longer : (text text' : Option (List ℕ)) (bytes more : List ℕ) → IsCutShort text text' bytes → IsCutShort text text' (bytes ++ more)
cut_short-longer text text' bytes more cut =
    record {
      front = cut.front;
      missing = cut.missing ++ more;
      whole = sym (append_assoc cut.front cut.missing more) ∙ ap (λ t. t ++ more) cut.whole;
      is_short = omega (arith, cut.is_short, length-append cut.missing more);
      appended = cut.appended;
    }

-- if the bytes are a front of others, it is cut short of those
pub cut_short-in : (text text' : Option (List ℕ)) (held bytes more whole : List ℕ) → bytes ++ more ≡ whole → IsCutShort text text' (held ++ bytes) → IsCutShort text text' (held ++ whole)
cut_short-in text text' held bytes more whole e cut =
    subst (λ (t : List ℕ). IsCutShort text text' t) (append_assoc held bytes more ∙ ap (λ t. held ++ t) e) (cut_short-longer text text' (held ++ bytes) more cut)
