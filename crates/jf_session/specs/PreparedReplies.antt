-- Replies to lines that read the head, made before the lines are taken.
use Rattle.std.specs.Prelude.{◌≡◌, ℕ, false, List, ◌++◌, length, Some}
use Rattle.std.specs.List.{AllByRecursion}
use Rattle.jf_hash.specs.Maps.{Map}
use Rattle.jf_model.specs.Versions.{newest}
use Rattle.jf_text.specs.Words.{is_long}
use Rattle.jf_store.specs.declared.look.Look.{Look}
use Rattle.jf_store.specs.Events.{is_marked}
use Rattle.jf_store.specs.Looks.{IsLook}
use Rattle.jf_store.specs.Starts.{Start}
use Rattle.jf_store.specs.Ledgers.{state_after_events}
use Rattle.jf_store.specs.Passes.{Pass, Sees}
use Rattle.jf_script.specs.Bounds.{IsBoundedQuestion}
use Rattle.jf_script.specs.Commands.{command_of}
use Rattle.jf_script.specs.declared.command.Question.{Question}
use Rattle.jf_script.specs.declared.command.Base.TheVariants as base
use Rattle.jf_script.specs.declared.command.Command.TheVariants as command
use Rattle.jf_script.specs.Replies.{reply_text}
use Rattle.jf_history.specs.Sessions.{Session, seen_by}
use Rattle.jf_session.specs.Questions.{question_reply}

-- ---- a line
-- the line asks this question of the head
pub record AsksHead (line : List ℕ) (q : Question) : Type 0 where
  pub short : is_long line ≡ false
  pub reads : command_of line ≡ Some (command.Read base.Head q)
  pub bounded : IsBoundedQuestion q

-- the text of the reply to a question over a map, numbered by so many entries
abbrev pub question_text : Map → ℕ → Question → List ℕ
question_text m n q = reply_text n (question_reply q m).0 ++ (question_reply q m).1

-- the line asks a question of the head, and this is the text of its reply over this map, after so many entries
pub record IsPreparedFor (m : Map) (n : ℕ) (line text : List ℕ) : Type 0 where
  pub question : Question
  pub asks : AsksHead line question
  pub text_is : text ≡ question_text m n question

-- so it is with each of these lines and texts
abbrev pub ArePreparedFor : Map → ℕ → List (List ℕ × List ℕ) → Type 0
ArePreparedFor m n rs = AllByRecursion (λ r. IsPreparedFor m n r.0 r.1) rs

-- they were prepared over all that the pass has seen
abbrev pub ArePreparedAt : Pass → List (List ℕ × List ℕ) → Type 0
ArePreparedAt p rs = (start : Start) → p.start ≡ Some start → ArePreparedFor (newest (state_after_events start p.seen).all) (length (seen_by p)) rs

-- ---- a look
-- a session has looked at the head: its pass may have seen more, none of it its own, and no mark
pub record HasLookedAtHead (start : Start) (old new : Session) (l : Look) : Type 0 where
  pub sees : Sees old.pass new.pass
  pub own : new.own ≡ old.own
  pub over : new.over ≡ false
  pub unmarked : is_marked new.pass.seen ≡ false
  pub look : IsLook (state_after_events start new.pass.seen) l
