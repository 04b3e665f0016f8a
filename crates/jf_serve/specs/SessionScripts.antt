-- An input that is cut into the scripts of several sessions (docs/FORMATS.md, "Several sessions").
use Rattle.std.specs.Prelude.{◌≡◌, ◌⊎◌, ℕ, ◌<◌, ◌≤◌, Bool, if◌then◌else◌, List, [], ◌∷◌, map, length, Option, Some, codes, bytes_eq}
use Rattle.std.specs.List.{onto_first}
use Rattle.jf_path.specs.Limits.{max_sessions}
use Rattle.jf_io.specs.Lines.{lines}

-- the most bytes of an input
abbrev pub max_input : ℕ
max_input = 67108864

-- a line that begins a session
abbrev pub is_session_line : List ℕ → Bool
is_session_line line = bytes_eq line (codes "session")

-- lines cut at each line that begins a session: those before the first such line, and then those after each
abbrev pub cut_at_sessions : List (List ℕ) → List (List (List ℕ))
cut_at_sessions [] = [] ∷ []
cut_at_sessions (l ∷ ls) = if is_session_line l then [] ∷ cut_at_sessions ls else onto_first l (cut_at_sessions ls)

-- the scripts among lines: the first session begins with the first line, or after it if that line begins a session
abbrev pub scripts_among : List (List ℕ) → List (List (List ℕ))
scripts_among [] = [] ∷ []
scripts_among (l ∷ ls) = cut_at_sessions (if is_session_line l then ls else l ∷ ls)

-- the scripts of an input, each as its lines
abbrev pub scripts_in : List ℕ → List (List (List ℕ))
scripts_in input = scripts_among (lines input)

-- an input has too many bytes or too many sessions
abbrev pub IsTooLarge : List ℕ → Type 0
IsTooLarge input = (max_input < length input) ⊎ (max_sessions < length (scripts_in input))

-- an input, if it is known, was read to its end and isn't too large, and these, given as their bytes, are its scripts
abbrev pub HasReadScripts : Option (List ℕ) → Option (List ℕ) → List (List ℕ) → Type 0
HasReadScripts rest rest' scripts = (input : List ℕ) → rest ≡ Some input → (rest' ≡ Some []) × (length input ≤ max_input) × (map lines scripts ≡ scripts_in input)
