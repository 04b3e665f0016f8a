-- What was written of two files, by how it ended.
use Rattle.std.specs.Prelude.{◌≡◌, ℕ, Bool, List, Option, Result, Ok, Err}
use Rattle.std.specs.Option.{ForSome}
use Rattle.jf_disk.specs.Disk.{Files, History, reads}
use Rattle.jf_disk.specs.Missing.{file_on}
use Rattle.jf_disk.specs.declared.side.Side.{Side}
use Rattle.jf_disk.specs.declared.side.Side.TheVariants as side
use Rattle.jf_io.specs.Sink.{IsCutShort}
use Rattle.jf_input.specs.Feeds.{Appends}
use Rattle.jf_check.specs.declared.store_check.StoreCheck.{StoreCheck}
use Rattle.jf_check.specs.declared.fault.Unchecked.{Unchecked}
use Rattle.jf_check.specs.declared.fault.Unchecked.TheVariants as unchecked
use Rattle.jf_check.specs.declared.check.Check.{Check}
use Rattle.jf_check.specs.Stores.{IsCheck}
use Rattle.jf_check.specs.Texts.{check_text}

-- the lines of what two files show were appended, and what both represent was returned; or a front of the lines was
-- appended; or the disk failed or memory ran out, and the text is unchanged
abbrev pub WritesCheck : Result StoreCheck Unchecked → Option (List ℕ) → Option (List ℕ) → Option (List ℕ) → Option (List ℕ) → Type 0
WritesCheck (Ok store) a b text text' = (c : Check) × IsCheck a b c × (store ≡ c.store) × Appends text text' (check_text c)
WritesCheck (Err unchecked.DiskFault) a b text text' = text' ≡ text
WritesCheck (Err unchecked.WriteFault) a b text text' = (c : Check) × IsCheck a b c × IsCutShort text text' (check_text c)
WritesCheck (Err unchecked.Memory) a b text text' = text' ≡ text

-- the lines of what the files of a disk show were written, as far as this outcome says; the files are those that a read gives, if the
-- history is known, but for the missing ones
pub record ChecksDisk (outcome : Result StoreCheck Unchecked) (missing : Side → Bool) (told : Option History) (text text' : Option (List ℕ)) : Type 0 where
  pub files : Files
  pub read : ForSome told (λ h. files ≡ reads h)
  pub written : WritesCheck outcome (file_on missing files side.A) (file_on missing files side.B) text text'
