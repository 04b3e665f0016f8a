-- What is found of the files of a disk.
use Rattle.std.specs.Prelude.{◌≡◌, ℕ, Bool, if◌then◌else◌, List, Option, Some, None}
use Rattle.std.specs.Option.{ForSome}
use Rattle.jf_disk.specs.Disk.{Files, History, content_on, reads}
use Rattle.jf_disk.specs.Missing.{file_on}
use Rattle.jf_disk.specs.declared.side.Side.{Side}
use Rattle.jf_disk.specs.declared.side.Side.TheVariants as side

-- what is found of the file on a side of a disk: nothing if it is missing, and otherwise the bytes that a read gives, if the history is known
pub record IsFileOf (told : Option History) (where_ : Side) (missing : Bool) (file : Option (List ℕ)) : Type 0 where
  pub bytes : List ℕ
  pub read : ForSome told (λ h. bytes ≡ (content_on where_ h.now).bytes)
  pub file_is : file ≡ (if missing then None else Some bytes)

-- what is found of the files of a disk of which these sides are missing: the bytes that a read gives, if the history is known
pub record AreFilesOf (missing : Side → Bool) (told : Option History) (a b : Option (List ℕ)) : Type 0 where
  pub files : Files
  pub read : ForSome told (λ h. files ≡ reads h)
  pub a_is : a ≡ file_on missing files side.A
  pub b_is : b ≡ file_on missing files side.B
