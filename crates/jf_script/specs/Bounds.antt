-- Each command of the grammar keeps the limits on values and chunks.
use Rattle.std.specs.Prelude.{◌≤◌, length}
use Rattle.jf_path.specs.Limits.{max_value}
use Rattle.jf_text.specs.Words.{max_chunk}
use Rattle.jf_script.specs.declared.command.Question.{Question}
use Rattle.jf_script.specs.declared.command.Command.{Command}
use Rattle.jf_script.specs.declared.command.Question.TheVariants as question
use Rattle.jf_script.specs.declared.command.OwnCommand.TheVariants as own_command
use Rattle.jf_script.specs.declared.command.Command.TheVariants as command

-- a question's limit: `chunk` asks for 1 to 1,000 entries
abbrev pub IsBoundedQuestion : Question → Type 0
IsBoundedQuestion (question.Chunk start count) = (1 ≤ count) × (count ≤ max_chunk)
IsBoundedQuestion q = Unit {0}

-- a command's limits: `put` has a value of at most 4,096 bytes, and a read a question within its limit
abbrev pub IsBoundedCommand : Command → Type 0
IsBoundedCommand (command.Own (own_command.Put name value)) = length value ≤ max_value
IsBoundedCommand (command.Read on q) = IsBoundedQuestion q
IsBoundedCommand c = Unit {0}
