-- All that standard error says of an end, line by line.
use Rattle.std.specs.Prelude.{ℕ, List, [], ◌++◌, Option, Some, None, codes}
use Rattle.jf_run.specs.declared.status.Status.{Status}
use Rattle.jf_run.specs.declared.status.Status.TheVariants as status
use Rattle.jf_main.specs.Help.{usage_text, more_usage_text}
use Rattle.jf_main.specs.Lines.{status_text}
use Rattle.jf_main.specs.Notes.{note_text}
use Rattle.jf_main.specs.declared.note.CallNote.{CallNote}

-- nothing after a good end, and otherwise the line of the status; after faulty words a second one
abbrev pub status_lines : Status → List ℕ
status_lines status.Done = []
status_lines status.Usage = usage_text ++ codes "\n" ++ more_usage_text ++ codes "\n"
status_lines s = status_text s ++ codes "\n"

-- the line of a cause, by its words
abbrev pub cause_lines : Option (List ℕ) → List ℕ
cause_lines None = []
cause_lines (Some words) = codes "because: " ++ words ++ codes "\n"

-- the line of a note
abbrev pub note_lines : Option CallNote → List ℕ
note_lines None = []
note_lines (Some n) = note_text n ++ codes "\n"

-- an end with this status, the words for its cause, and this note
abbrev pub ending_text : Status → Option (List ℕ) → Option CallNote → List ℕ
ending_text s words n = status_lines s ++ cause_lines words ++ note_lines n
