-- Two files, either of which may be missing.
use Rattle.std.specs.Prelude.{ℕ, Bool, if◌then◌else◌, List, [], Option, Some, None}
use Rattle.jf_disk.specs.Disk.{Files, bytes_of}
use Rattle.jf_disk.specs.declared.side.Side.{Side}

-- the bytes of a file; a missing one has none
abbrev pub bytes_found : Option (List ℕ) → List ℕ
bytes_found None = []
bytes_found (Some bytes) = bytes

-- two files, either of which may be missing
abbrev pub files_found : Option (List ℕ) → Option (List ℕ) → Files
files_found a b = record { a = bytes_found a; b = bytes_found b }

-- the bytes of one file, if it is there
abbrev pub file_on : (Side → Bool) → Files → Side → Option (List ℕ)
file_on missing files where_ = if missing where_ then None else Some (bytes_of where_ files)
