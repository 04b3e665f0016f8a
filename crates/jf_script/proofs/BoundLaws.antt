-- Each command of the grammar keeps the limits on values and chunks.
use Rattle.std.specs.Prelude.{Option, Some, None, ℕ, ◌≤◌, List, length, ◌≡◌, Bool, true, ◌&&◌, nat_le, false, cond, if◌then◌else◌, option_and_then, option_map, codes, ◌==◌, [], ◌∷◌}
use Rattle.std.proofs.Common.{arith, refl, subst}
use Rattle.jf_path.specs.Limits.{max_value}
use Rattle.jf_text.specs.Words.{unhex, value_of, bytes_within, number, number_upto, number_from, max_chunk, is_word, name_of, both}
use Rattle.jf_script.specs.declared.command.Question.{Question}
use Rattle.jf_script.specs.declared.command.Question.TheVariants as question
use Rattle.jf_script.specs.declared.command.Command.{Command}
use Rattle.jf_script.specs.Bounds.{IsBoundedQuestion, IsBoundedCommand}
use Rattle.jf_script.specs.Commands.{question_of_words, command_of}
use Rattle.jf_script.proofs.EachCommand.{OfEachCommand, command_of-each}

-- a value, if there is one, has at most 4,096 bytes
abbrev Short : Option (List ℕ) → Type 0
Short None = Unit {0}
Short (Some value) = length value ≤ max_value

both_so : (a b : Bool) (m n : ℕ) → (a && nat_le m n) ≡ true → m ≤ n
both_so a b m n e = grind (arith)

short_within : (o : Option (List ℕ)) → Short (option_and_then (λ bytes. if nat_le 0 (length bytes) && nat_le (length bytes) max_value then Some bytes else None) o)
short_within None = tt
short_within (Some bytes) =
    elim (nat_le 0 (length bytes) && nat_le (length bytes) max_value) as (λ b. (nat_le 0 (length bytes) && nat_le (length bytes) max_value) ≡ b → Short (cond b (Some bytes) None)) [
      | true ↦ λ e. both_so (nat_le 0 (length bytes)) true (length bytes) max_value e
      | false ↦ λ e. tt
    ] refl

short_value : (w : List ℕ) → Short (value_of w)
short_value [] = tt
short_value (sign ∷ digits) = elim (sign == 61) as (λ b. Short (cond b (bytes_within 0 max_value digits) None)) [ true ↦ short_within (unhex digits) | false ↦ tt ]

-- a value that is read has at most 4,096 bytes
pub value_of-short : (w value : List ℕ) → value_of w ≡ Some value → length value ≤ max_value
value_of-short w value e = subst Short e (short_value w)

-- a number, if there is one, is from `least` to `most`
abbrev Within : ℕ → ℕ → Option ℕ → Type 0
Within least most None = Unit {0}
Within least most (Some n) = (least ≤ n) × (n ≤ most)

at_most : (b : Bool) (n most : ℕ) → (b ≡ true → n ≤ most) → Within 0 most (cond b (Some n) None)
at_most true n most h = (omega arith, h refl)
at_most false n most h = tt

upto_within : (most : ℕ) (o : Option ℕ) → Within 0 most (option_and_then (λ n. if nat_le n most then Some n else None) o)
upto_within most None = tt
upto_within most (Some n) = at_most (nat_le n most) n most (λ e. both_so true true n most e)

at_least : (b : Bool) (least n most : ℕ) → (b ≡ true → least ≤ n) → n ≤ most → Within least most (cond b (Some n) None)
at_least true least n most h few = (h refl, few)
at_least false least n most h few = tt

from_within : (least most : ℕ) (o : Option ℕ) → Within 0 most o → Within least most (option_and_then (λ n. if nat_le least n then Some n else None) o)
from_within least most None h = tt
from_within least most (Some n) h = at_least (nat_le least n) least n most (λ e. both_so true true least n e) h.1

number_within : (least most : ℕ) (w : List ℕ) → Within least most (number_from least most w)
number_within least most w = from_within least most (number_upto most w) (upto_within most (number w))

-- a question, if there is one, keeps its limit
abbrev Fits : Option Question → Type 0
Fits None = Unit {0}
Fits (Some q) = IsBoundedQuestion q

fits_mapped : {X : Type 0} (f : X → Question) (o : Option X) → ((x : X) → IsBoundedQuestion (f x)) → Fits (option_map f o)
fits_mapped f None h = tt
fits_mapped f (Some x) h = h x

fits_chunk : (o p : Option ℕ) → Within 1 max_chunk p → Fits (both (λ start count. question.Chunk start count) o p)
fits_chunk (Some start) (Some count) h = h
fits_chunk (Some start) None h = tt
fits_chunk None p h = tt

fits_chosen : (b : Bool) (x y : Option Question) → Fits x → Fits y → Fits (cond b x y)
fits_chosen true x y p q = p
fits_chosen false x y p q = q

fits_words : (w : List ℕ) (ws : List (List ℕ)) → Fits (question_of_words w ws)
fits_words w [] = fits_chosen (is_word w (codes "root")) _ _ tt (fits_chosen (is_word w (codes "count")) _ _ tt tt)
fits_words w (a ∷ []) =
    fits_chosen (is_word w (codes "get")) _ _ (fits_mapped (λ name. question.Get name) (name_of a) (λ name. tt))
    (fits_chosen (is_word w (codes "prove")) _ _ (fits_mapped (λ name. question.Prove name) (name_of a) (λ name. tt))
    (fits_chosen (is_word w (codes "nth")) _ _ (fits_mapped (λ place. question.Nth place) (number a) (λ place. tt)) tt))
fits_words w (a ∷ b ∷ []) = fits_chosen (is_word w (codes "chunk")) _ _ (fits_chunk (number a) (number_from 1 max_chunk b) (number_within 1 max_chunk b)) tt
fits_words w (a ∷ b ∷ c ∷ ws) = tt

bounded : OfEachCommand IsBoundedCommand
bounded = record {
  put = λ w name value is. value_of-short w value is;
  del = λ name. tt;
  unpin = λ place. tt;
  read = λ on q w ws is. subst Fits is (fits_words w ws);
  read_fork = λ id q. tt;
  look = tt;
  pin = λ version. tt;
  change = λ c. tt;
}

-- the command of a line keeps its limits
pub command_of-IsBoundedCommand : (line : List ℕ) (c : Command) → command_of line ≡ Some c → IsBoundedCommand c
command_of-IsBoundedCommand line c is = command_of-each IsBoundedCommand bounded line c is
