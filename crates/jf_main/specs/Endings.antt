-- How the program ended.
use Rattle.std.specs.Prelude.{Option, None, Some, unwrap_or, if◌then◌else◌}
use Rattle.jf_folder.specs.Any.{any_cause}
use Rattle.jf_folder.specs.declared.any.AnyDisk.{AnyDisk}
use Rattle.jf_folder.specs.declared.cause.FaultCause.{FaultCause}
use Rattle.jf_folder.specs.declared.cause.FaultCause.TheVariants as cause
use Rattle.jf_folder.specs.declared.file.FileRefused.{FileRefused}
use Rattle.jf_folder.specs.declared.file.FileRefused.TheVariants as refused
use Rattle.jf_run.specs.declared.status.Status.{Status}
use Rattle.jf_run.specs.declared.status.Status.TheVariants as status
use Rattle.jf_run.specs.Statuses.{is_disk_fault}
use Rattle.jf_main.specs.declared.note.CallNote.{CallNote}
use Rattle.jf_main.specs.declared.note.CallNote.TheVariants as note

-- the status if the disk couldn't be opened
abbrev pub refusal_status : FileRefused → Status
refusal_status (refused.DiskFailed cause) = status.DiskFault
refusal_status refused.Memory = status.Memory

-- why the disk failed, if it couldn't be opened
abbrev pub refusal_cause : FileRefused → Option FaultCause
refusal_cause (refused.DiskFailed cause) = Some cause
refusal_cause refused.Memory = None

-- why the disk failed, after a call with this status that handed it back: what the disk says; one in memory says nothing,
-- and fails only if its room is used up
abbrev pub disk_cause : Status → AnyDisk → Option FaultCause
disk_cause s disk = if is_disk_fault s then Some (unwrap_or (any_cause disk) cause.NoRoom) else None

-- the note if no command line could be made of the arguments: an example, unless memory ran out
abbrev pub unread_note : Status → Option CallNote
unread_note status.Usage = Some note.Example
unread_note s = None
