-- What standard error says of a call beside its status.
use Rattle.std.specs.Prelude.{ℕ, Bool, false, ◌&&◌, if◌then◌else◌, nat_lt, List, [], ◌∷◌, ◌++◌, Option, Some, None, String, string_bytes, codes, bytes_eq, decimal}
use Rattle.std.specs.declared.alloc.Global.{Global}
use Rattle.jf_main.specs.Help.{example_text}
use Rattle.jf_main.specs.declared.note.CallNote.{CallNote}
use Rattle.jf_main.specs.declared.note.CallNote.TheVariants as note

-- the line of a note, without its line feed
abbrev pub note_text : CallNote → List ℕ
note_text note.Example = example_text
note_text (note.InUse head) = codes "note: the store was in use already, at version " ++ decimal head ++ codes ": generate lands on it, and may retire older versions"

-- whether the words after the folder name the mode `generate`
abbrev pub names_generate : List (String Global) → Bool
names_generate [] = false
names_generate (mode ∷ words) = bytes_eq (string_bytes mode) (codes "generate")

-- after a call over these words that opened a store with this newest version: a note exactly if the mode is `generate` and the
-- store wasn't new
abbrev pub generate_note : List (String Global) → Option ℕ → Option CallNote
generate_note words None = None
generate_note words (Some head) = if nat_lt 0 head && names_generate words then Some (note.InUse head) else None
