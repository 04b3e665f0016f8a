-- The value of a line `put` is bytes.
use Rattle.std.specs.Prelude.{◌≡◌, ℕ, Bool, true, false, ◌&&◌, ◌==◌, cond, nat_le, length, List, [], ◌∷◌, Option, Some, None, option_and_then, if◌then◌else◌, IfSome}
use Rattle.std.proofs.Common.{refl, subst}
use Rattle.jf_path.specs.Keys.{IsBytes}
use Rattle.jf_path.specs.Limits.{max_value}
use Rattle.jf_text.specs.Words.{unhex, bytes_within, value_of}
use Rattle.jf_text.proofs.HexBytes.{unhex-IsBytes}
use Rattle.jf_script.specs.declared.command.Command.{Command}
use Rattle.jf_script.specs.declared.command.OwnCommand.TheVariants as own_command
use Rattle.jf_script.specs.declared.command.Command.TheVariants as command
use Rattle.jf_script.specs.Commands.{command_of}
use Rattle.jf_script.proofs.EachCommand.{OfEachCommand, command_of-each}

-- ---- hexadecimal text
some_chosen : (b : Bool) (o : Option (List ℕ)) → IfSome o IsBytes → IfSome (cond b o None) IsBytes
some_chosen true o h = h
some_chosen false o h = tt

within-IsBytes : (o : Option (List ℕ)) → IfSome o IsBytes → IfSome (option_and_then (λ bytes. if nat_le 0 (length bytes) && nat_le (length bytes) max_value then Some bytes else None) o) IsBytes
within-IsBytes None h = tt
within-IsBytes (Some bytes) h = some_chosen (nat_le 0 (length bytes) && nat_le (length bytes) max_value) (Some bytes) h

value_of-IsBytes : (w : List ℕ) → IfSome (value_of w) IsBytes
value_of-IsBytes [] = tt
value_of-IsBytes (sign ∷ digits) = some_chosen (sign == 61) (bytes_within 0 max_value digits) (within-IsBytes (unhex digits) (unhex-IsBytes digits))

-- ---- commands
-- the value that a command puts is bytes
abbrev pub PutsBytes : Command → Type 0
PutsBytes (command.Own (own_command.Put name value)) = IsBytes value
PutsBytes c = Unit {0}

value_put : (w value : List ℕ) → value_of w ≡ Some value → IsBytes value
value_put w value is = subst (λ (o : Option (List ℕ)). IfSome o IsBytes) is (value_of-IsBytes w)

puts_bytes : OfEachCommand PutsBytes
puts_bytes = record {
  put = λ w name value is. value_put w value is;
  del = λ name. tt;
  unpin = λ place. tt;
  read = λ on q w ws is. tt;
  read_fork = λ id q. tt;
  look = tt;
  pin = λ version. tt;
  change = λ c. tt;
}

-- the command of a line puts bytes, if it puts anything
pub command_of-PutsBytes : (line : List ℕ) → IfSome (command_of line) PutsBytes
command_of-PutsBytes line = elim (command_of line) as (λ (o : Option Command). command_of line ≡ o → IfSome o PutsBytes) [ None ↦ λ is. tt | Some c ↦ λ is. command_of-each PutsBytes puts_bytes line c is ] refl
