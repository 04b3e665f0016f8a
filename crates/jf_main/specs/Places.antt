-- The disk that a word names.
use Rattle.std.specs.Prelude.{ℕ, ◌^◌, List, [], codes, bytes_eq, Bool, true, false}
use Rattle.jf_disk.specs.Memory.{IsNew}
use Rattle.jf_folder.specs.File.{IsFresh}
use Rattle.jf_folder.specs.declared.any.AnyDisk.{AnyDisk}
use Rattle.jf_folder.specs.declared.any.AnyDisk.TheVariants as any

-- a new disk in memory: two empty sides, room for 2^20 calls and 2^27 bytes, and no call that is to fail
abbrev pub IsNewMemory : AnyDisk → Type 0
IsNewMemory (any.Mem d) = IsNew d (record { a = []; b = [] }) [] (2 ^ 20) (2 ^ 27)
IsNewMemory (any.File d) = ⊥
IsNewMemory (any.Seen d a b) = ⊥

-- a disk over the two files of a folder, just opened
abbrev pub IsNewlyOpened : AnyDisk → Type 0
IsNewlyOpened (any.Mem d) = ⊥
IsNewlyOpened (any.File d) = IsFresh d
IsNewlyOpened (any.Seen d a b) = ⊥

-- a disk of the one kind or of the other
abbrev pub IsNewDisk : Bool → AnyDisk → Type 0
IsNewDisk true d = IsNewMemory d
IsNewDisk false d = IsNewlyOpened d

-- `-` names a new disk in memory, and any other word the files of a folder
abbrev pub IsDiskAt : List ℕ → AnyDisk → Type 0
IsDiskAt word d = IsNewDisk (bytes_eq word (codes "-")) d
