-- A session as a machine that takes lines.
use Rattle.std.specs.Prelude.{◌≡◌, ◌⊎◌, ℕ, List, [], ◌++◌, Some, Result, Ok, Err, is_err, Bool, false, ◌||◌, codes}
use denote.Ref.{Bor, MutBor}
use Rattle.jf_input.specs.declared.feeding.Feeding.{Feeding}
use Rattle.jf_input.specs.declared.feeding.Feeding.TheVariants as feeding
use Rattle.jf_text.specs.Words.{is_word}
use Rattle.jf_store.specs.Starts.{Start}
use Rattle.jf_store.specs.Ledgers.{AreEvents}
use Rattle.jf_store.specs.Passes.{Store, IsPassOf, OthersAlone}
use Rattle.jf_answers.specs.Explains.{LineReply}
use Rattle.jf_history.specs.Sessions.{Session, HasReplied, IsTry, IsBroken, HasDoneNothing}
use Rattle.jf_history.specs.declared.end.End.{End}
use Rattle.jf_history.specs.declared.end.End.TheVariants as end
use Rattle.jf_session.specs.declared.stop.Stop.{Stop}
use Rattle.jf_session.specs.declared.stop.Stop.TheVariants as stop

-- ---- a line
-- the line was replied to, with this text
abbrev pub RepliesWith : Start → Session → List ℕ → Session → List ℕ → Type 0
RepliesWith start s line new text = (r : LineReply) × HasReplied start s new line r × (text ≡ r.text)

-- the result of a line for a session, and the text of its reply, or why the session stops
abbrev pub Makes : Start → Session → List ℕ → Session → Result (List ℕ) Stop → Type 0
Makes start s line new (Ok text) = RepliesWith start s line new text
Makes start s line new (Err stop.DiskFault) = IsTry start s new line
Makes start s line new (Err stop.Broken) = IsBroken s new line
Makes start s line new (Err stop.Memory) = HasDoneNothing s new line ⊎ ((text : List ℕ) × RepliesWith start s line new text)

-- a session over a pass of a store takes a line, if it isn't over; it is over if it stops there
pub record AnswersLine (s : Session) (line : List ℕ) (new : Session) (r : Result (List ℕ) Stop) : Type 0 where
  pub start : Start
  pub start_is : s.pass.start ≡ Some start
  pub begun : s.over ≡ false
  pub over : new.over ≡ is_err r
  pub events : AreEvents start new.pass.seen
  pub makes : Makes start s line new r

-- at the end of the input nothing is written, and the session is unchanged
abbrev pub AnswersEnd : Session → Session → Result (List ℕ) Stop → Type 0
AnswersEnd s new (Ok text) = (text ≡ []) × (new ≡ s)
AnswersEnd s new (Err why) = ⊥

-- ---- lines that can't give an entry
-- none of what the pass has seen more is its own
abbrev pub StaysQuiet : Session → Session → Type 0
StaysQuiet s new = OthersAlone s.pass new.pass.seen

-- a command that begins with this word changes the store
abbrev pub is_store_word : List ℕ → Bool
is_store_word w = is_word w (codes "commit") || is_word w (codes "fork") || is_word w (codes "land") || is_word w (codes "drop") || is_word w (codes "prune") || is_word w (codes "compact")

-- ---- the call that does a line
-- a text is appended, or the text is unchanged
abbrev pub DoesLine : Session → List ℕ → List ℕ → Result (Unit {0}) Stop → Session → List ℕ → Type 0
DoesLine s line out (Ok done) new out' = (text : List ℕ) × (out' ≡ out ++ text) × AnswersLine s line new (Ok text)
DoesLine s line out (Err why) new out' = (out' ≡ out) × AnswersLine s line new (Err why)

-- what a call does with a session, a line and a text
abbrev pub LineCall : Type 1
LineCall = Session → List ℕ → List ℕ → Result (Unit {0}) Stop → Session → List ℕ → Type 0

-- calls may be made on a session over a pass of this store that isn't over, whatever is at hand after the line, and do lines so
abbrev pub AreSteps : {T : Type 0} → LineCall → Store → (T → Session) → (MutBor T → Bor (List ℕ) → Bor (List ℕ) → MutBor (List ℕ) → Type 0) → (MutBor T → Bor (List ℕ) → Bor (List ℕ) → MutBor (List ℕ) → Result (Unit {0}) Stop → MutBor T → MutBor (List ℕ) → Type 0) → Type 0
AreSteps {T} does store shown pre post =
    ((s : MutBor T) (line after : Bor (List ℕ)) (out : MutBor (List ℕ)) → (shown s.now).over ≡ false → IsPassOf (shown s.now).pass store → pre s line after out)
    × ((s : MutBor T) (line after : Bor (List ℕ)) (out : MutBor (List ℕ)) (r : Result (Unit {0}) Stop) (s' : MutBor T) (out' : MutBor (List ℕ)) → post s line after out r s' out' → does (shown s.now) line.now out.now r (shown s'.now) out'.now)

-- it takes what comes next: its session is over a pass of this store, and isn't over
pub record MayStep {T : Type 0} (does : LineCall) (store : Store) (shown : T → Session) (s : T) (pre : MutBor T → Bor (List ℕ) → Bor (List ℕ) → MutBor (List ℕ) → Type 0) (post : MutBor T → Bor (List ℕ) → Bor (List ℕ) → MutBor (List ℕ) → Result (Unit {0}) Stop → MutBor T → MutBor (List ℕ) → Type 0) : Type 0 where
  pub begun : (shown s).over ≡ false
  pub own : IsPassOf (shown s).pass store
  pub steps : AreSteps does store shown pre post

-- ---- how a run ended
-- by why its session stopped
abbrev pub end_of_stop : Stop → End
end_of_stop stop.DiskFault = end.DiskFault
end_of_stop stop.Broken = end.Broken
end_of_stop stop.Memory = end.Memory

-- by how the session was fed
abbrev pub end_of_feeding : Feeding Stop → End
end_of_feeding feeding.Done = end.Done
end_of_feeding feeding.ReadFault = end.ReadFault
end_of_feeding feeding.WriteFault = end.WriteFault
end_of_feeding feeding.Memory = end.Memory
end_of_feeding (feeding.Stopped why) = end_of_stop why
