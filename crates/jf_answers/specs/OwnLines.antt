-- The lines to which a session replies without a look at the store, and the versions that lines ask to pin.
use Rattle.std.specs.Prelude.{ℕ, Bool, true, false, ◌||◌, if◌then◌else◌, List, Option, Some, None}
use Rattle.jf_text.specs.Words.{is_long}
use Rattle.jf_script.specs.Commands.{command_of}
use Rattle.jf_script.specs.declared.command.Base.{Base}
use Rattle.jf_script.specs.declared.command.Base.TheVariants as base
use Rattle.jf_script.specs.declared.command.Command.{Command}
use Rattle.jf_script.specs.declared.command.Command.TheVariants as command

-- a place at which the session pins a version
abbrev pub is_place : Base → Bool
is_place base.Head = false
is_place (base.Version version) = false
is_place (base.Place place) = true

-- the commands that ask nothing of the store: `put`, `del`, `unpin` and the reads of a place
abbrev pub is_own_command : Command → Bool
is_own_command (command.Own c) = true
is_own_command (command.Read on q) = is_place on
is_own_command (command.ReadFork id q) = false
is_own_command command.Look = false
is_own_command (command.Pin version) = false
is_own_command (command.Change c) = false

-- a line asks nothing of the store also if it is no command
abbrev pub is_own : Option Command → Bool
is_own None = true
is_own (Some c) = is_own_command c

-- a line whose answer needs no look at the store; one of more than 8,500 bytes is such a line
unfoldable pub is_own_line : List ℕ → Bool
is_own_line line = is_long line || is_own (command_of line)

-- the version that a command pins
abbrev pub pin_of_command : Option Command → Option ℕ
pin_of_command None = None
pin_of_command (Some (command.Own c)) = None
pin_of_command (Some (command.Read on q)) = None
pin_of_command (Some (command.ReadFork id q)) = None
pin_of_command (Some command.Look) = None
pin_of_command (Some (command.Pin version)) = Some version
pin_of_command (Some (command.Change c)) = None

-- the version that a line `pin` names
unfoldable pub pin_of : List ℕ → Option ℕ
pin_of line = if is_long line then None else pin_of_command (command_of line)
