-- A run of a whole script over a pass.
use Rattle.std.specs.Prelude.{◌≡◌, ◌⊎◌, ℕ, ◌-◌, ◌≤◌, false, List, [], ◌∷◌, ◌++◌, take, drop, length, slice_get, filter_map, Option, Some, None, option_map, IfSome}
use Rattle.std.specs.List.{AllByRecursion}
use Rattle.jf_io.specs.Lines.{whole_lines}
use Rattle.jf_io.specs.LinesRead.{lines_read, AreFirst}
use Rattle.jf_model.specs.Entries.{replay}
use Rattle.jf_model.specs.declared.entries.Entry.{Entry}
use Rattle.jf_turn.specs.Lists.{HasElement, StartsWith}
use Rattle.jf_store.specs.Events.{is_marked}
use Rattle.jf_store.specs.Starts.{Start}
use Rattle.jf_store.specs.Passes.{Pass}
use Rattle.jf_answers.specs.Own.{Own, begun_session}
use Rattle.jf_answers.specs.OwnLines.{pin_of}
use Rattle.jf_answers.specs.Explains.{IsAmong, LineReply, AreAnswered, own_after_replies, seen_after_replies, places_owned, places_in_reply, text_in}
use Rattle.jf_history.specs.Sessions.{Session, HoldsPins, HaveMet, HeldFloor, timeline, seen_by, IsTry, IsBroken, HasDoneNothing}
use Rattle.jf_history.specs.declared.end.End.{End}
use Rattle.jf_history.specs.declared.end.End.TheVariants as end

-- ---- lines answered
-- the floor of each entry that a line gave is the bound, or was pinned, by the session itself if it is its own pass
abbrev pub AreHeld : Start → List Entry → Own → List LineReply → Type 0
AreHeld start es own [] = Unit {0}
AreHeld start es own (r ∷ rs) = IfSome r.entry (HeldFloor start own (replay start.state (take (r.number - 1) es))) × AreHeld start es r.own rs

-- a session answered these lines, its first, one after another, over a pass. The entries of its number, after those that the pass had seen, are those that the lines gave, each at its own place
pub record HasAnswered (start : Start) (old : Pass) (now : Session) (ls : List (List ℕ)) (rs : List LineReply) : Type 0 where
  pub begins : StartsWith now.pass.seen old.seen
  pub same : now.pass ≡ record old { seen = now.pass.seen; place = now.pass.place; pinned = now.pass.pinned }
  pub announced : (version : ℕ) → HasElement now.pass.place.announced version → HasElement old.place.announced version ⊎ IsAmong (filter_map pin_of ls) version
  pub unmarked : is_marked now.pass.seen ≡ false
  pub pins : HoldsPins now
  pub all : length rs ≡ length ls
  pub answered : (pins : List ℕ) → HaveMet pins start now.pass.seen → AreAnswered (timeline start pins now.pass.seen) (begun_session old.number) (length (seen_by old)) ls rs
  pub held : AreHeld start (seen_by now.pass) (begun_session old.number) rs
  pub places : places_owned old.number 0 (seen_by now.pass) ≡ places_owned old.number 0 (seen_by old) ++ places_in_reply rs
  pub own : now.own ≡ own_after_replies (begun_session old.number) rs
  pub number : seen_after_replies (length (seen_by old)) rs ≡ length (seen_by now.pass)

-- ---- the lines that were read
-- how far the input was read, by how the run ended
abbrev pub ReadsBy : End → List ℕ → List ℕ → List (List ℕ) → Type 0
ReadsBy end.Done taken left ls = (left ≡ []) × (length ls ≡ length (lines_read taken left))
ReadsBy end.ReadFault taken left ls = length ls ≡ whole_lines taken
ReadsBy end.WriteFault taken left ls = Unit {0}
ReadsBy end.DiskFault taken left ls = Unit {0}
ReadsBy end.Broken taken left ls = Unit {0}
ReadsBy end.Memory taken left ls = Unit {0}

-- of an input all but `left` was taken; these lines are the first of those read, as many as the end of the run says. The next line, if one was started, was read too
pub record HasReadInput (e : End) (all left : List ℕ) (ls : List (List ℕ)) (next : Option (List ℕ)) : Type 0 where
  pub taken : List ℕ
  pub split : all ≡ taken ++ left
  pub first : AreFirst taken left ls
  pub far : ReadsBy e taken left ls
  pub begun : IfSome next (λ line. slice_get (lines_read taken left) (length ls) ≡ Some line)

-- ---- what was written
-- a front of the text of the first replies, with all of the text of those before the last of them; the lines after these were answered too, and gave no entry
pub record IsCut (rs : List LineReply) (text : List ℕ) : Type 0 where
  pub count : ℕ
  pub within : count ≤ length rs
  pub missing : List ℕ
  pub front : text_in (take count rs) ≡ text ++ missing
  pub more : List ℕ
  pub enough : text ≡ text_in (take (count - 1) rs) ++ more
  pub quiet : AllByRecursion (λ r. r.entry ≡ None) (drop count rs)

-- the text of all these replies, or of all but the last
abbrev pub IsButLast : List LineReply → List ℕ → Type 0
IsButLast rs text = (text ≡ text_in rs) ⊎ (text ≡ text_in (take (length rs - 1) rs))

-- what was written of these replies, by how the run ended
abbrev pub WritesBy : End → List LineReply → List ℕ → Type 0
WritesBy end.Done rs text = text ≡ text_in rs
WritesBy end.ReadFault rs text = text ≡ text_in rs
WritesBy end.WriteFault rs text = IsCut rs text
WritesBy end.DiskFault rs text = text ≡ text_in rs
WritesBy end.Broken rs text = text ≡ text_in rs
WritesBy end.Memory rs text = IsButLast rs text

-- a run appended its text to the output, if that is known
pub record Writes (e : End) (rs : List LineReply) (old new : Option (List ℕ)) : Type 0 where
  pub text : List ℕ
  pub by : WritesBy e rs text
  pub appended : new ≡ option_map (λ t. t ++ text) old

-- ---- a run
-- nothing was started after the lines done, or a line at which nothing was done
abbrev pub IsAtRest : Session → Session → Option (List ℕ) → Type 0
IsAtRest mid last None = last ≡ mid
IsAtRest mid last (Some line) = HasDoneNothing mid last line

-- the session at the end, against the one after the lines done
abbrev pub EndsBy : End → Start → Session → Session → Option (List ℕ) → Type 0
EndsBy end.Done start mid last next = (last ≡ mid) × (next ≡ None)
EndsBy end.ReadFault start mid last next = (last ≡ mid) × (next ≡ None)
EndsBy end.WriteFault start mid last next = IsAtRest mid last next
EndsBy end.DiskFault start mid last next = (line : List ℕ) × (next ≡ Some line) × IsTry start mid last line
EndsBy end.Broken start mid last next = (line : List ℕ) × (next ≡ Some line) × IsBroken mid last line
EndsBy end.Memory start mid last next = IsAtRest mid last next

-- a run over the rest of an input, whose replies are appended to a text
pub record HasRunOver (e : End) (start : Start) (old new : Pass) (rest rest' text text' : Option (List ℕ)) : Type 0 where
  pub done : List (List ℕ)
  pub replies : List LineReply
  pub next : Option (List ℕ)
  pub mid : Session
  pub last : Session
  pub answered : HasAnswered start old mid done replies
  pub ends : EndsBy e start mid last next
  pub pass_is : new ≡ last.pass
  pub writes : Writes e replies text text'
  pub reads : (all : List ℕ) → rest ≡ Some all → (left : List ℕ) × (rest' ≡ Some left) × HasReadInput e all left done next
