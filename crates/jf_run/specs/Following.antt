-- What the program promises of a call in the mode `follow`.
use Rattle.std.specs.Prelude.{◌≡◌, ◌≢◌, ◌⊎◌, ℕ, List, Option, Some, None, IsFalse}
use Rattle.jf_io.specs.Lines.{lines}
use Rattle.jf_model.specs.States.{state_when_opened}
use Rattle.jf_model.specs.Entries.{replay}
use Rattle.jf_model.specs.declared.entries.Entry.{Entry}
use Rattle.jf_files.specs.Steps.{IsCalm}
use Rattle.jf_engine.specs.Engines.{Engine}
use Rattle.jf_engine.specs.Openings.{OnHistories}
use Rattle.jf_follow.specs.Following.{dated_entry}
use Rattle.jf_follow.specs.Laws.{IsDecidedBy, refusal_of_lines}
use Rattle.jf_follow.specs.Streams.{HasFollowed}
use Rattle.jf_follow.specs.declared.followed.FollowRefused.{FollowRefused}
use Rattle.jf_follow.specs.declared.followed.Followed.{Followed}
use Rattle.jf_follow.specs.declared.followed.Followed.TheVariants as followed
use Rattle.jf_run.specs.Calls.{ProgramCall, engine_disk}
use Rattle.jf_run.specs.Outcomes.{IfSteady, IsDoneOrMemory, StandsAfter}
use Rattle.jf_run.specs.Runs.{IsBegun, KeepsEntries}
use Rattle.jf_run.specs.Statuses.{is_disk_fault, status_of_followed}
use Rattle.jf_run.specs.Stops.{IsSafeSince}
use Rattle.jf_run.specs.declared.status.Status.TheVariants as status

-- what was tried when the disk failed: the landing of the block at which the following stopped; after every other end nothing
abbrev pub TriesFollowing : (how : Followed) (old new : Engine) (es : List Entry) (rest rest' text text' : Option (List ℕ)) → HasFollowed how old new es rest rest' text text' → Option Entry → Type 0
TriesFollowing followed.Done old new es rest rest' text text' came attempt = attempt ≡ None
TriesFollowing followed.ReadFault old new es rest rest' text text' came attempt = attempt ≡ None
TriesFollowing followed.WriteFault old new es rest rest' text text' came attempt = attempt ≡ None
TriesFollowing followed.DiskFault old new es rest rest' text text' came attempt = attempt ≡ Some (dated_entry came.0.block 0)
TriesFollowing followed.Memory old new es rest rest' text text' came attempt = attempt ≡ None
TriesFollowing (followed.Refused why) old new es rest rest' text text' came attempt = attempt ≡ None

-- a call that opened the store, with this newest version, and followed the landing blocks of its input: how that ended, which the
-- status tells, what was read, written and landed (`old` and `new` are what the store showed when it was open and in the end). Its
-- entries are the landings made, and lead to the versions in the end. What a crash leaves since the opening is said of the entries
-- (`kept`); on a calm disk it holds of any moment of the call. Unless the disk failed, the files represent the result of the
-- entries for the versions found (`stands`). A refusal is the first one of the whole input, and no other input is refused
-- (`decided`). If no device failed, all was done, memory ran out or a line or a block was refused (`complete`)
pub record IsFollowedCall (c : ProgramCall) (head : ℕ) : Type 0 where
  pub old : Engine
  pub new : Engine
  pub begun : IsBegun (state_when_opened old.versions old.generation) c.before.disk (engine_disk old) head
  pub after : c.after.disk ≡ engine_disk new
  pub how : Followed
  pub status_is : c.status ≡ status_of_followed how
  pub came : HasFollowed how old new c.entries c.before.rest c.after.rest c.before.text c.after.text
  pub leads : new.versions ≡ (replay (state_when_opened old.versions old.generation) c.entries).all
  pub attempt : Option Entry
  pub tried : TriesFollowing how old new c.entries c.before.rest c.after.rest c.before.text c.after.text came attempt
  pub kept : KeepsEntries (state_when_opened old.versions old.generation) (engine_disk old) c.after.disk c.entries attempt
  pub called : OnHistories c.before.disk.history c.after.disk.history (λ h g. IsCalm h → IsSafeSince c.before.disk.moment g (state_when_opened old.versions old.generation) c.entries attempt)
  pub stands : IsFalse (is_disk_fault c.status) → StandsAfter c
  pub decided : (input : List ℕ) → c.before.rest ≡ Some input → IsDecidedBy how (refusal_of_lines old.versions (lines input))
  pub silent : how ≢ followed.Done → how ≢ followed.WriteFault → c.after.sink_faults ≡ c.before.sink_faults
  pub complete : IfSteady c (IsDoneOrMemory c.status ⊎ ((why : FollowRefused) × (c.status ≡ status.Unfollowed why)))
