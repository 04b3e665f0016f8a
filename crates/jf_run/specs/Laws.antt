-- What holds of calls of the program together, as statements for calls that do nothing and ensure them.
use Rattle.std.specs.Prelude.{◌≡◌, ◌≢◌, ℕ, [], List, Option, Some, IsFalse, false}
use Rattle.jf_model.specs.Versions.{Versions}
use Rattle.jf_model.specs.States.{versions}
use Rattle.jf_model.specs.Entries.{replay}
use Rattle.jf_disk.specs.Disk.{History, reads}
use Rattle.jf_files.specs.Files.{StandsFor}
use Rattle.jf_history.specs.declared.end.End.TheVariants as end
use Rattle.jf_run.specs.Calls.{ProgramCall}
use Rattle.jf_run.specs.Following.{IsFollowedCall}
use Rattle.jf_run.specs.Leading.{IsLedCall}
use Rattle.jf_run.specs.Statuses.{is_disk_fault}
use Rattle.jf_run.specs.declared.status.Status.TheVariants as status

-- a call that led wrote all its landing blocks, as a text of their own: the sink didn't cut it, and memory didn't run out. Another call
-- followed this text to its end
pub record TakesWholeText (lead follow : ProgramCall) (head : ℕ) (led : IsLedCall lead head) : Type 0 where
  pub text : List ℕ
  pub uncut : led.is_cut ≡ false
  pub room : led.end ≢ end.Memory
  pub fresh : lead.before.text ≡ Some []
  pub written : lead.after.text ≡ Some text
  pub read : follow.before.rest ≡ Some text
  pub followed : follow.status ≡ status.Done

-- a store that had a leader's versions when both were opened, and followed the whole text of its landings, has the leader's versions
-- again: its roots from the base on, and its maps
abbrev pub LedCallsAreFollowed : Type 0
LedCallsAreFollowed = (lead follow : ProgramCall) (lead_head follow_head : ℕ) (led : IsLedCall lead lead_head) (came : IsFollowedCall follow follow_head) → TakesWholeText lead follow lead_head led
    → came.old.versions ≡ led.state.all → came.new.versions ≡ (replay led.state lead.entries).all

-- a disk's history is known, and a read of it gives these versions
abbrev pub ReadsAs : Option History → Versions → Type 0
ReadsAs history v = (h : History) × (history ≡ Some h) × StandsFor (reads h) v

-- the same of files: if those of both represented the same versions, the follower's then represent all that the leader's
-- entries led to from these, pruned or not; the leader's own, unless its disk failed, for those of them from its floor on
abbrev pub LedFilesAreFollowed : Type 0
LedFilesAreFollowed = (lead follow : ProgramCall) (lead_head follow_head : ℕ) (v : Versions) (led : IsLedCall lead lead_head) → IsFollowedCall follow follow_head → TakesWholeText lead follow lead_head led
    → ReadsAs lead.before.disk.history v → ReadsAs follow.before.disk.history v
    → ReadsAs follow.after.disk.history (replay led.state lead.entries).all × (IsFalse (is_disk_fault lead.status) → ReadsAs lead.after.disk.history (versions (replay led.state lead.entries)))
