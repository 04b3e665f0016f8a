-- What reads names, as a machine that takes lines and adds nothing to a text.
use Rattle.std.specs.Prelude.{◌≡◌, ℕ, ◌+◌, if◌then◌else◌, nat_le, List, [], Option, Some, None, option_map, Result, Ok, Err}
use Rattle.jf_text.specs.Words.{name_of}
use Rattle.jf_names.specs.Names.{max_names, with_new_name, names_by_key}
use Rattle.jf_names.specs.Answers.{AsksFor, IsRefusedAt, ReadsToRefusal}
use Rattle.jf_names.specs.declared.fault.NamesFault.{NamesFault}
use Rattle.jf_names.specs.declared.fault.NamesFault.TheVariants as fault

-- the number of the next line, and the names so far by their keys
pub record NamesSoFar : Type 0 where
  pub at : ℕ
  pub names : List (List ℕ × List ℕ)

-- before the first line
abbrev pub no_names : NamesSoFar
no_names = record { at = 1; names = [] }

-- after a line with a name
abbrev pub after_name : NamesSoFar → List ℕ → NamesSoFar
after_name s name = record { at = s.at + 1; names = with_new_name s.names name }

-- after a line, if it is a name and not one too many
abbrev pub after_name_line : NamesSoFar → List ℕ → Option NamesSoFar
after_name_line s line = if nat_le s.at max_names then option_map (after_name s) (name_of line) else None

-- the effect of a line on it: a name is added; or the line is refused, or memory ran out
abbrev pub TakesName : NamesSoFar → List ℕ → NamesSoFar → Result (List ℕ) NamesFault → Type 0
TakesName s line next (Ok text) = (after_name_line s line ≡ Some next) × (text ≡ [])
TakesName s line next (Err (fault.Line at)) = (at ≡ s.at) × (after_name_line s line ≡ None)
TakesName s line next (Err fault.Memory) = Unit {0}
TakesName s line next (Err (fault.Outside least head)) = ⊥
TakesName s line next (Err fault.ReadFault) = ⊥
TakesName s line next (Err fault.WriteFault) = ⊥

-- the end of the input makes nothing of it
abbrev pub EndsNames : NamesSoFar → NamesSoFar → Result (List ℕ) NamesFault → Type 0
EndsNames s next (Ok text) = (next ≡ s) × (text ≡ [])
EndsNames s next (Err why) = ⊥

-- the input, if it is known, has names that result in these in the order of their keys, and was read to its end
abbrev pub HasNames : List (List ℕ × List ℕ) → Option (List ℕ) → Option (List ℕ) → Type 0
HasNames es rest rest' = (names : List (List ℕ)) × AsksFor names rest rest' × (es ≡ names_by_key names)

-- why names are read no further: a line is refused, the source failed, or memory ran out
abbrev pub StopsNames : NamesFault → Option (List ℕ) → Option (List ℕ) → Type 0
StopsNames (fault.Line at) rest rest' = IsRefusedAt at rest × ReadsToRefusal at rest rest'
StopsNames fault.ReadFault rest rest' = Unit {0}
StopsNames fault.Memory rest rest' = Unit {0}
StopsNames (fault.Outside least head) rest rest' = ⊥
StopsNames fault.WriteFault rest rest' = ⊥
