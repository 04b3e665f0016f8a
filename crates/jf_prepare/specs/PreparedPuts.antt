-- A put that was read before its line is taken.
use Rattle.std.specs.Prelude.{◌≡◌, ℕ, false, List, ◌++◌, Some}
use Rattle.std.specs.List.{AllByRecursion}
use Rattle.jf_hash.specs.Hashes.{K}
use Rattle.jf_text.specs.Words.{is_long}
use Rattle.jf_script.specs.Commands.{command_of}
use Rattle.jf_script.specs.declared.command.Command.TheVariants as command
use Rattle.jf_script.specs.declared.command.OwnCommand.TheVariants as own_command

-- the line is a put, and the text is the key of the name and then the value
pub record IsPutOf (line text : List ℕ) : Type 0 where
  pub name : List ℕ
  pub value : List ℕ
  pub short : is_long line ≡ false
  pub puts : command_of line ≡ Some (command.Own (own_command.Put name value))
  pub text_is : text ≡ K name ++ value

-- so it is with each of these lines and texts
abbrev pub ArePuts : List (List ℕ × List ℕ) → Type 0
ArePuts rs = AllByRecursion (λ r. IsPutOf r.0 r.1) rs
