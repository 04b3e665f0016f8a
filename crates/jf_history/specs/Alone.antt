-- The result of a script whose session is alone on its store, by the answers of a session that runs by itself.
use Rattle.std.specs.Prelude.{◌≡◌, ◌⊎◌, ℕ, ◌-◌, List, [], ◌++◌, map, take, length, slice_get, Option, Some, None, option_map, IfSome}
use Rattle.jf_model.specs.States.{State}
use Rattle.jf_model.specs.Entries.{replay, timeless}
use Rattle.jf_model.specs.declared.entries.Entry.{Entry}
use Rattle.jf_answers.specs.Answers.{answer}
use Rattle.jf_answers.specs.Runs.{Run, answers, texts_of, text_of, run_entries}
use Rattle.jf_answers.specs.Explains.{LineReply}
use Rattle.jf_history.specs.Sessions.{Session, seen_by}
use Rattle.jf_history.specs.Runs.{HasReadInput}
use Rattle.jf_history.specs.declared.end.End.{End}
use Rattle.jf_history.specs.declared.end.End.TheVariants as end

-- each reply is that of a session by itself from this state on; so are the entries, their moments aside, the state that they make, and what the session keeps for itself
pub record AnswersAlone (s : State) (now : Session) (ls : List (List ℕ)) (rs : List LineReply) : Type 0 where
  pub texts : map (λ r. r.text) rs ≡ texts_of (answers s ls)
  pub entries : map timeless (seen_by now.pass) ≡ run_entries (answers s ls)
  pub state : replay s (seen_by now.pass) ≡ (answers s ls).state
  pub own : now.own ≡ (answers s ls).own

-- ---- a run
-- a front of the text of these answers, with all of the text of those to all lines but the last
pub record IsCutAnswer (s : State) (ls : List (List ℕ)) (text : List ℕ) : Type 0 where
  pub missing : List ℕ
  pub front : text_of (answers s ls) ≡ text ++ missing
  pub more : List ℕ
  pub enough : text ≡ text_of (answers s (take (length ls - 1) ls)) ++ more

-- the text of the answers to all these lines, or to all but the last
abbrev pub IsAnswerButLast : State → List (List ℕ) → List ℕ → Type 0
IsAnswerButLast s ls text = (text ≡ text_of (answers s ls)) ⊎ (text ≡ text_of (answers s (take (length ls - 1) ls)))

-- what was written for the lines done, by how the run ended
abbrev pub WritesAlone : End → State → List (List ℕ) → List ℕ → Type 0
WritesAlone end.Done s ls text = text ≡ text_of (answers s ls)
WritesAlone end.ReadFault s ls text = text ≡ text_of (answers s ls)
WritesAlone end.WriteFault s ls text = IsCutAnswer s ls text
WritesAlone end.DiskFault s ls text = text ≡ text_of (answers s ls)
WritesAlone end.Broken s ls text = ⊥
WritesAlone end.Memory s ls text = IsAnswerButLast s ls text

-- the entry that the line gives over these answers
abbrev pub IsTried : Run → List ℕ → Option Entry → Type 0
IsTried r line attempt = (e : Entry) × (attempt ≡ Some e) × ((answer r.state r.own line).entry ≡ Some e)

-- the attempt that a run left: at a fault of the disk the entry of the next line, and else none
abbrev pub TriesAlone : End → Run → Option (List ℕ) → Option Entry → Type 0
TriesAlone end.Done r next attempt = attempt ≡ None
TriesAlone end.ReadFault r next attempt = attempt ≡ None
TriesAlone end.WriteFault r next attempt = attempt ≡ None
TriesAlone end.DiskFault r next attempt = (line : List ℕ) × (next ≡ Some line) × IsTried r line attempt
TriesAlone end.Broken r next attempt = ⊥
TriesAlone end.Memory r next attempt = attempt ≡ None

-- a run that left these entries and this attempt, by the answers to the lines done
pub record RanAlone (e : End) (s : State) (entries : List Entry) (attempt : Option Entry) (rest rest' text text' : Option (List ℕ)) : Type 0 where
  pub done : List (List ℕ)
  pub next : Option (List ℕ)
  pub entries_are : map timeless entries ≡ run_entries (answers s done)
  pub state : replay s entries ≡ (answers s done).state
  pub tried : TriesAlone e (answers s done) next attempt
  pub written : List ℕ
  pub writes : WritesAlone e s done written
  pub appended : text' ≡ option_map (λ t. t ++ written) text
  pub reads : (all : List ℕ) → rest ≡ Some all → (left : List ℕ) × (rest' ≡ Some left) × HasReadInput e all left done next

-- a session that was given a script, and left these entries, this attempt and this text, by the answers to the lines done. They are
-- the first of the script, and all if the session ended well
pub record ServedAlone (e : End) (s : State) (script : List (List ℕ)) (entries : List Entry) (attempt : Option Entry) (text : List ℕ) : Type 0 where
  pub done : List (List ℕ)
  pub more : List (List ℕ)
  pub next : Option (List ℕ)
  pub first : script ≡ done ++ more
  pub whole : e ≡ end.Done → more ≡ []
  pub next_is : IfSome next (λ line. slice_get script (length done) ≡ Some line)
  pub entries_are : map timeless entries ≡ run_entries (answers s done)
  pub state : replay s entries ≡ (answers s done).state
  pub tried : TriesAlone e (answers s done) next attempt
  pub writes : WritesAlone e s done text
