-- The lines on standard error (docs/FORMATS.md, "Calling the program", "Restoring a version").
use Rattle.std.specs.Prelude.{ℕ, List, [], ◌++◌, codes, decimal}
use Rattle.hex.specs.Hex.{encode_lower}
use Rattle.jf_ask.specs.Lookups.{lookup_number}
use Rattle.jf_disk.specs.declared.side.Side.{Side}
use Rattle.jf_disk.specs.declared.side.Side.TheVariants as side
use Rattle.jf_evidence.specs.declared.range_proof.RangeFault.{RangeFault}
use Rattle.jf_evidence.specs.declared.range_proof.RangeFault.TheVariants as range_fault
use Rattle.jf_follow.specs.declared.fault.FollowFault.{FollowFault}
use Rattle.jf_follow.specs.declared.fault.FollowFault.TheVariants as follow_fault
use Rattle.jf_follow.specs.declared.followed.FollowRefused.{FollowRefused}
use Rattle.jf_follow.specs.declared.followed.FollowRefused.TheVariants as follow_refused
use Rattle.jf_receive.specs.declared.received.RestoreFault.{RestoreFault}
use Rattle.jf_receive.specs.declared.received.RestoreFault.TheVariants as restore_fault
use Rattle.jf_run.specs.declared.status.Status.{Status}
use Rattle.jf_run.specs.declared.status.Status.TheVariants as status
use Rattle.jf_main.specs.Help.{usage_text}

-- the letter of a side
abbrev pub side_word : Side → List ℕ
side_word side.A = codes "a"
side_word side.B = codes "b"

-- the number of the check by which a chunk is refused ("Chunk blocks")
abbrev pub check_number : RangeFault → ℕ
check_number range_fault.Empty = 1
check_number range_fault.Order = 2
check_number range_fault.Count = 3
check_number range_fault.Lone = 4
check_number range_fault.WrongRoot = 5

-- the words that say why a restore was refused, or an input of names
abbrev pub refusal_text : RestoreFault → List ℕ
refusal_text (restore_fault.NotEmpty head) = codes "not-empty " ++ decimal head
refusal_text (restore_fault.Line line) = codes "line " ++ decimal line
refusal_text (restore_fault.Chunk line why) = codes "chunk " ++ decimal line ++ codes " " ++ decimal (check_number why)
refusal_text (restore_fault.NotWhole announced found) = codes "not-whole " ++ encode_lower announced ++ codes " " ++ encode_lower found
refusal_text restore_fault.Last = codes "last"

-- the words that say why a landing block was refused; the first and the last two causes end a following otherwise
abbrev pub landing_refusal_text : FollowFault → List ℕ
landing_refusal_text follow_fault.Broken = codes "broken"
landing_refusal_text (follow_fault.Below base) = codes "below " ++ decimal base
landing_refusal_text (follow_fault.Differs version announced found) = codes "differs " ++ decimal version ++ codes " " ++ encode_lower announced ++ codes " " ++ encode_lower found
landing_refusal_text (follow_fault.Gap head) = codes "gap " ++ decimal head
landing_refusal_text follow_fault.Last = codes "last"
landing_refusal_text follow_fault.DiskFault = codes "disk fault"
landing_refusal_text follow_fault.Memory = codes "out of memory"

-- the words that say why landing blocks were not followed further
abbrev pub unfollowed_text : FollowRefused → List ℕ
unfollowed_text (follow_refused.Line line) = codes "line " ++ decimal line
unfollowed_text (follow_refused.Block line why) = codes "block " ++ decimal line ++ codes " " ++ landing_refusal_text why

-- the line of a status, without its line feed; none after a good end
abbrev pub status_text : Status → List ℕ
status_text status.Done = []
status_text status.Usage = usage_text
status_text status.ReadFault = codes "read fault"
status_text status.WriteFault = codes "write fault"
status_text status.DiskFault = codes "disk fault"
status_text (status.Damaged side offset) = codes "damaged " ++ side_word side ++ codes " " ++ decimal offset
status_text status.InputFull = codes "input full"
status_text status.Memory = codes "out of memory"
status_text (status.Refused why) = codes "refused " ++ refusal_text why
status_text (status.Outside least head) = codes "outside " ++ decimal least ++ codes " " ++ decimal head
status_text (status.Unfollowed why) = codes "unfollowed " ++ unfollowed_text why
status_text (status.NotShown why) = codes "not shown " ++ decimal (lookup_number why)
status_text (status.Elsewhere head root) = codes "elsewhere " ++ decimal head ++ codes " " ++ encode_lower root
