-- What a command line asks for, before any mode is looked at.
use Rattle.std.specs.Prelude.{List, [], ◌∷◌, if◌then◌else◌, String, string_bytes, codes, bytes_eq}
use Rattle.std.specs.declared.alloc.Global.{Global}
use Rattle.jf_main.specs.declared.asked.Asked.{Asked}
use Rattle.jf_main.specs.declared.asked.Asked.TheVariants as asked
use Rattle.jf_main.specs.declared.command_line.CommandLine.{CommandLine}
use Rattle.jf_main.specs.declared.help.OwnText.TheVariants as own

-- `--help` and `--version` ask for a text if no word comes after them; otherwise the words are to be run over the folder
abbrev pub asked_with : CommandLine → List (String Global) → Asked
asked_with line [] =
    if bytes_eq (string_bytes line.folder) (codes "--help") then asked.Text own.Help
    else if bytes_eq (string_bytes line.folder) (codes "--version") then asked.Text own.Version
    else asked.Line line
asked_with line (word ∷ words) = asked.Line line

-- what a command line asks for
abbrev pub asked_by : CommandLine → Asked
asked_by line = asked_with line line.words.items
