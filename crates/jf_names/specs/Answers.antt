-- What is written of the names of an input, by how it ended.
use Rattle.std.specs.Prelude.{◌≡◌, ◌⊎◌, ℕ, ◌≤◌, List, [], length, Option, Some, Result, Ok, Err}
use Rattle.jf_model.specs.Versions.{Versions, map_of}
use Rattle.jf_io.specs.Sink.{IsCutShort}
use Rattle.jf_io.specs.declared.piece.TheConstants.{USUAL_PIECE}
use Rattle.jf_input.specs.Feeds.{Appends, ReadsFew}
use Rattle.jf_names.specs.Names.{names_of, many_text}
use Rattle.jf_names.specs.declared.fault.NamesFault.{NamesFault}
use Rattle.jf_names.specs.declared.fault.NamesFault.TheVariants as fault

-- a version from the floor to the head
abbrev pub IsInside : Versions → ℕ → Type 0
IsInside v version = (v.floor ≤ version) × (version ≤ v.head)

-- the input, if it is known, has these names and was read to its end
abbrev pub AsksFor : List (List ℕ) → Option (List ℕ) → Option (List ℕ) → Type 0
AsksFor names rest rest' = (input : List ℕ) → rest ≡ Some input → (names_of input ≡ Ok names) × (rest' ≡ Some [])

-- the input, if it is known, is refused at this line
abbrev pub IsRefusedAt : ℕ → Option (List ℕ) → Type 0
IsRefusedAt at rest = (input : List ℕ) → rest ≡ Some input → names_of input ≡ Err at

-- of the input, if it is known, the lines up to this one were read, and less than a piece beyond it
abbrev pub ReadsToRefusal : ℕ → Option (List ℕ) → Option (List ℕ) → Type 0
ReadsToRefusal at rest rest' = (ls : List (List ℕ)) × (length ls ≡ at) × ReadsFew USUAL_PIECE rest rest' ls

-- exactly if the version isn't inside, nothing was read or written. Otherwise the input was read before anything was written: to its
-- end, or up to the line that is refused and less than a piece beyond it; then the block of its names, or a front of it if the sink failed
abbrev pub AnswersNames : Result (Unit {0}) NamesFault → Versions → ℕ → Option (List ℕ) → Option (List ℕ) → Option (List ℕ) → Option (List ℕ) → Type 0
AnswersNames (Ok u) v version rest rest' text text' =
    IsInside v version × ((names : List (List ℕ)) × AsksFor names rest rest' × Appends text text' (many_text (map_of v version) names))
AnswersNames (Err (fault.Outside least head)) v version rest rest' text text' =
    (IsInside v version → ⊥) × (least ≡ v.floor) × (head ≡ v.head) × (rest' ≡ rest) × (text' ≡ text)
AnswersNames (Err (fault.Line at)) v version rest rest' text text' = IsInside v version × IsRefusedAt at rest × ReadsToRefusal at rest rest' × (text' ≡ text)
AnswersNames (Err fault.ReadFault) v version rest rest' text text' = IsInside v version × (text' ≡ text)
AnswersNames (Err fault.WriteFault) v version rest rest' text text' =
    IsInside v version × ((names : List (List ℕ)) × AsksFor names rest rest' × IsCutShort text text' (many_text (map_of v version) names))
AnswersNames (Err fault.Memory) v version rest rest' text text' = IsInside v version × (text' ≡ text)

-- the first line that is no name or comes after 10,000 is named, unless the source failed or memory ran out before
abbrev pub RefusesLine : Result (Unit {0}) NamesFault → Option (List ℕ) → Type 0
RefusesLine result rest = (input : List ℕ) (at : ℕ) → rest ≡ Some input → names_of input ≡ Err at
    → (result ≡ Err (fault.Line at)) ⊎ (result ≡ Err fault.ReadFault) ⊎ (result ≡ Err fault.Memory)
