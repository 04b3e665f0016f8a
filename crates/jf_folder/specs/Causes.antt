-- The cause that an error of the system results in, and the words for it.
use Rattle.std.specs.Prelude.{ℕ, List, Option, Some, None, codes}
use Rattle.std.specs.declared.io.ErrorKind.{ErrorKind}
use Rattle.std.specs.declared.io.ErrorKind.TheVariants as kind
use Rattle.jf_folder.specs.declared.cause.FaultCause.{FaultCause}
use Rattle.jf_folder.specs.declared.cause.FaultCause.TheVariants as cause

-- the cause that an error of a kind results in
abbrev pub kind_cause : ErrorKind → FaultCause
kind_cause kind.WouldBlock = cause.InUse
kind_cause kind.NotFound = cause.NoSuchFolder
kind_cause kind.NotADirectory = cause.NoSuchFolder
kind_cause kind.PermissionDenied = cause.NotAllowed
kind_cause kind.ReadOnlyFilesystem = cause.ReadOnly
kind_cause kind.StorageFull = cause.NoRoom
kind_cause kind.QuotaExceeded = cause.NoRoom
kind_cause kind.FileTooLarge = cause.TooLarge
kind_cause kind.IsADirectory = cause.NotAStore
kind_cause _ = cause.InputOutput

-- the cause of the first failure, after one more
abbrev pub first_cause : Option FaultCause → FaultCause → FaultCause
first_cause None c = c
first_cause (Some first) c = first

-- the words for a cause on standard error (docs/FORMATS.md, "Causes of status 4")
abbrev pub cause_text : FaultCause → List ℕ
cause_text cause.InUse = codes "in use by another run"
cause_text cause.NoSuchFolder = codes "no such folder"
cause_text cause.NotAllowed = codes "not allowed"
cause_text cause.ReadOnly = codes "read-only"
cause_text cause.NoRoom = codes "no room left"
cause_text cause.TooLarge = codes "too large for this system"
cause_text cause.FileMissing = codes "one file is missing"
cause_text cause.ClosedStream = codes "a standard stream is closed"
cause_text cause.InputOutput = codes "input or output error"
cause_text cause.NotAStore = codes "not a store's file"
