-- Laws of what two files hold, and of a pair in step with a disk.
use Rattle.std.specs.Prelude.{◌≡◌, ◌↔◌, List, true, None, Ok}
use Rattle.jf_disk.specs.Disk.{History, Files, reads}
use Rattle.jf_disk.specs.Crashes.{LeavesNow}
use Rattle.jf_frame.specs.Framed.{LogRecord}
use Rattle.jf_frame.specs.Framing.{records}
use Rattle.jf_pair.specs.Files.{HoldsLive, outer_damage, live_side}
use Rattle.jf_pair.specs.Pairs.{Pair, IsInStep}

-- two files hold at most one list of live records
abbrev pub FilesHoldOneList : Type 0
FilesHoldOneList = (files : Files) (rs rs' : List LogRecord) → HoldsLive files rs → HoldsLive files rs' → rs ≡ rs'

-- two files hold live records exactly if no damage shows
abbrev pub UndamagedFilesHoldRecords : Type 0
UndamagedFilesHoldRecords = (files : Files) → ((rs : List LogRecord) × HoldsLive files rs) ↔ (outer_damage files ≡ None)

-- a disk in step with a pair holds the pair's live records, and so does whatever a crash leaves
abbrev pub CrashesLeaveLiveRecords : Type 0
CrashesLeaveLiveRecords = (p : Pair) (rs : List LogRecord) (h : History) → IsInStep p rs h.now → HoldsLive (reads h) rs × LeavesNow h (λ f. HoldsLive f rs)

-- the side of a pair in step, if it is live, is the live side of the files
abbrev pub LiveSideIsThePairs : Type 0
LiveSideIsThePairs =
    (p : Pair) (rs : List LogRecord) (h : History) (left right : List LogRecord) → IsInStep p rs h.now → p.is_live ≡ true → records (reads h).a ≡ Ok left → records (reads h).b ≡ Ok right → live_side left right ≡ p.side
