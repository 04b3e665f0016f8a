-- The result of a line for a session, before its reply is written.
use Rattle.std.specs.Prelude.{◌≡◌, ℕ, true, List, ◌++◌, length}
use Rattle.jf_store.specs.Starts.{Start}
use Rattle.jf_script.specs.declared.reply.Reply.{Reply}
use Rattle.jf_script.specs.Replies.{reply_text}
use Rattle.jf_answers.specs.Explains.{LineReply}
use Rattle.jf_history.specs.Sessions.{Session, seen_by, HasReplied, IsTry, IsBroken, HasDoneNothing}
use Rattle.jf_session.specs.declared.stop.Stop.{Stop}
use Rattle.jf_session.specs.declared.stop.Stop.TheVariants as stop

-- the line was replied to with this reply, numbered by the entries that the pass has then seen, and this block after it
abbrev pub IsRepliedBy : Start → Session → Session → List ℕ → Reply → List ℕ → Type 0
IsRepliedBy start old new line r block = (a : LineReply) × HasReplied start old new line a × (reply_text (length (seen_by new.pass)) r ++ block ≡ a.text)

-- why a line has no reply
abbrev pub StopsAt : Start → Session → Session → List ℕ → Stop → Type 0
StopsAt start old new line stop.DiskFault = IsTry start old new line
StopsAt start old new line stop.Broken = IsBroken old new line
StopsAt start old new line stop.Memory = HasDoneNothing old new line

-- the session, over
abbrev pub stopped_session : Session → Session
stopped_session s = record s { over = true }
