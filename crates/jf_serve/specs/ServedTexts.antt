-- The text of the outputs of several sessions and of the entries that they made (docs/FORMATS.md, "Several sessions").
use Rattle.std.specs.Prelude.{ℕ, List, [], ◌∷◌, ◌++◌, map, length, codes, decimal}
use Rattle.std.specs.List.{concat}
use Rattle.hex.specs.Hex.{encode_lower}
use Rattle.jf_model.specs.declared.entries.Entry.{Entry}
use Rattle.jf_model.specs.declared.entries.Entry.TheVariants as entry
use Rattle.jf_model.specs.declared.entries.Landing.{Landing}
use Rattle.jf_model.specs.declared.entries.Landing.TheVariants as landing
use Rattle.jf_model.specs.declared.entries.Parent.{Parent}
use Rattle.jf_model.specs.declared.entries.Parent.TheVariants as parent
use Rattle.jf_text.specs.Words.{line_text}
use Rattle.jf_script.specs.Replies.{fork_word}

-- the word for what a fork stands on
abbrev pub parent_word : Parent → List ℕ
parent_word parent.Head = codes "head"
parent_word (parent.Fork id) = fork_word id

-- the word for what was landed
abbrev pub landing_word : Landing → List ℕ
landing_word (landing.Direct batch) = codes "head"
landing_word (landing.Fork id) = fork_word id

-- the words of an entry
abbrev pub entry_words : Entry → List (List ℕ)
entry_words (entry.Made owner fork on batch root) = codes "made" ∷ decimal owner ∷ fork_word fork ∷ parent_word on ∷ encode_lower root ∷ []
entry_words (entry.Landed owner version how root moment) = codes "landed" ∷ decimal owner ∷ decimal version ∷ encode_lower root ∷ landing_word how ∷ []
entry_words (entry.Dropped owner fork) = codes "dropped" ∷ decimal owner ∷ fork_word fork ∷ []
entry_words (entry.Retired owner bound floor) = codes "retired" ∷ decimal owner ∷ decimal bound ∷ decimal floor ∷ []
entry_words (entry.Compacted owner generation) = codes "compacted" ∷ decimal owner ∷ decimal generation ∷ []

-- the line of an entry
unfoldable pub entry_line : Entry → List ℕ
entry_line e = line_text (entry_words e)

-- the number of entries, and a line for each
abbrev pub ledger_text : List Entry → List ℕ
ledger_text es = line_text (codes "ledger" ∷ decimal (length es) ∷ []) ++ concat (map entry_line es)

-- the output of a session, after the line that begins it
abbrev pub session_text : List ℕ → List ℕ
session_text output = line_text (codes "session" ∷ []) ++ output

-- the outputs of sessions, and then the entries
abbrev pub served_text : List (List ℕ) → List Entry → List ℕ
served_text outputs es = concat (map session_text outputs) ++ ledger_text es
