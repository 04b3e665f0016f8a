-- The files that a check reports on, and how the program ends after it (docs/FORMATS.md, "Checking files").
use Rattle.std.specs.Prelude.{◌≡◌, ℕ, Option, List, Some, None, Result, Ok, Err}
use Rattle.jf_disk.specs.Memory.{start}
use Rattle.jf_disk.specs.Missing.{files_found}
use Rattle.jf_disk.specs.declared.side.Side.TheVariants as side
use Rattle.jf_folder.specs.Any.{any_history, any_missing, is_gone}
use Rattle.jf_folder.specs.Begun.{store_refusal}
use Rattle.jf_folder.specs.Reading.{seen_file}
use Rattle.jf_folder.specs.declared.cause.FaultCause.{FaultCause}
use Rattle.jf_check.specs.Written.{WritesCheck}
use Rattle.jf_check.specs.declared.fault.Unchecked.{Unchecked}
use Rattle.jf_check.specs.declared.fault.Unchecked.TheVariants as unchecked
use Rattle.jf_check.specs.declared.store_check.StoreCheck.{StoreCheck}
use Rattle.jf_check.specs.declared.store_check.StoreCheck.TheVariants as store_check
use Rattle.jf_run.specs.declared.status.Status.{Status}
use Rattle.jf_run.specs.declared.status.Status.TheVariants as status
use Rattle.jf_main.specs.declared.checking.SeenFiles.{SeenFiles}
use Rattle.jf_main.specs.declared.ending.Ending.{Ending}

-- files of these bytes, either of which may be missing, are shown by a disk on which no call was made, with why no store would be
-- opened over them
pub record ShowsFiles (a b : Option (List ℕ)) (s : SeenFiles) : Type 0 where
  pub history : any_history s.disk ≡ Some (start (files_found a b))
  pub a_missing : any_missing s.disk side.A ≡ is_gone a
  pub b_missing : any_missing s.disk side.B ≡ is_gone b
  pub refusal_is : s.refusal ≡ store_refusal (seen_file a) (seen_file b)

-- ---- after the call
-- the status of the program, by that of the call and by why no store would be opened over the files. The files were reported
-- whole if the call was done or damage was reported: an opening would be refused first of all. The bytes are in memory, so a
-- call on them fails only if it has no room
abbrev pub end_status : Status → Option FaultCause → Status
end_status status.Done None = status.Done
end_status status.Done (Some cause) = status.DiskFault
end_status (status.Damaged where_ at) None = status.Damaged where_ at
end_status (status.Damaged where_ at) (Some cause) = status.DiskFault
end_status status.DiskFault refusal = status.Memory
end_status s refusal = s

-- why the disk failed, likewise
abbrev pub end_cause : Status → Option FaultCause → Option FaultCause
end_cause status.Done refusal = refusal
end_cause (status.Damaged where_ at) refusal = refusal
end_cause s refusal = None

-- ---- by what was reported
-- the status after a check: that of an opening of these files, which is refused first of all if no store is opened over them
abbrev pub check_status : Result StoreCheck Unchecked → Option FaultCause → Status
check_status (Err unchecked.DiskFault) refusal = status.Memory
check_status (Err unchecked.WriteFault) refusal = status.WriteFault
check_status (Err unchecked.Memory) refusal = status.Memory
check_status (Ok store) (Some cause) = status.DiskFault
check_status (Ok (store_check.Damaged where_ at)) None = status.Damaged where_ at
check_status (Ok (store_check.Sound live kept checkpoint)) None = status.Done

-- why no store is opened over the files, if they were reported
abbrev pub check_cause : Result StoreCheck Unchecked → Option FaultCause → Option FaultCause
check_cause (Ok store) refusal = refusal
check_cause (Err why) refusal = None

-- what files of these bytes show was written, and this is how it ended
pub record IsCheckEnd (a b : Option (List ℕ)) (text text' : Option (List ℕ)) (e : Ending) : Type 0 where
  pub outcome : Result StoreCheck Unchecked
  pub written : WritesCheck outcome a b text text'
  pub status_is : e.status ≡ check_status outcome (store_refusal (seen_file a) (seen_file b))
  pub cause_is : e.cause ≡ check_cause outcome (store_refusal (seen_file a) (seen_file b))
  pub note_is : e.note ≡ None
