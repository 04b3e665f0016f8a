-- A script run over a pass of a shared store, and what is written of its replies in the end.
use Rattle.std.specs.Prelude.{◌≡◌, ℕ, List, ◌++◌, map, Option, option_map, option_to_list}
use Rattle.jf_io.specs.Sink.{IsCutShort}
use Rattle.jf_store.specs.Starts.{Start}
use Rattle.jf_store.specs.Passes.{Pass}
use Rattle.jf_answers.specs.Explains.{LineReply}
use Rattle.jf_history.specs.Sessions.{Session}
use Rattle.jf_history.specs.Runs.{HasAnswered, EndsBy}
use Rattle.jf_history.specs.declared.end.End.{End}
use Rattle.jf_history.specs.declared.end.End.TheVariants as end
use Rattle.jf_generate.specs.Reports.{Tally, tally_of, generate_output}

-- what was written, by how the run ended: after all lines of the script, what the mode writes of the texts of their replies, or a front of it; else nothing
abbrev pub WritesReport : End → List (List ℕ) → List (List ℕ) → List (List ℕ) → Option (List ℕ) → Option (List ℕ) → Type 0
WritesReport end.Done script done texts text text' = (done ≡ script) × (text' ≡ option_map (λ t. t ++ generate_output texts) text)
WritesReport end.ReadFault script done texts text text' = ⊥
WritesReport end.WriteFault script done texts text text' = (done ≡ script) × IsCutShort text text' (generate_output texts)
WritesReport end.DiskFault script done texts text text' = text' ≡ text
WritesReport end.Broken script done texts text text' = text' ≡ text
WritesReport end.Memory script done texts text text' = text' ≡ text

-- the texts of replies
abbrev pub reply_texts : List LineReply → List (List ℕ)
reply_texts rs = map (λ r. r.text) rs

-- a script's run over a pass: the lines done, with their replies, and the next, if one was started, are the script's first
pub record HasRunScript (e : End) (start : Start) (script : List (List ℕ)) (old new : Pass) (text text' : Option (List ℕ)) : Type 0 where
  pub done : List (List ℕ)
  pub replies : List LineReply
  pub next : Option (List ℕ)
  pub more : List (List ℕ)
  pub mid : Session
  pub last : Session
  pub answered : HasAnswered start old mid done replies
  pub ends : EndsBy e start mid last next
  pub pass_is : new ≡ last.pass
  pub first : script ≡ done ++ (option_to_list next ++ more)
  pub writes : WritesReport e script done (reply_texts replies) text text'

-- ---- the parts of a run
-- a session answered these lines, its first, over a pass, and this is kept of the replies
pub record HasTallied (start : Start) (old : Pass) (now : Session) (ls : List (List ℕ)) (kept : Tally) : Type 0 where
  pub replies : List LineReply
  pub answered : HasAnswered start old now ls replies
  pub kept_is : kept ≡ tally_of (reply_texts replies)

-- a report was written, or a front of it, or memory ran out before it was made
abbrev pub HasReported : End → List ℕ → Option (List ℕ) → Option (List ℕ) → Type 0
HasReported end.Done report text text' = text' ≡ option_map (λ t. t ++ report) text
HasReported end.ReadFault report text text' = ⊥
HasReported end.WriteFault report text text' = IsCutShort text text' report
HasReported end.DiskFault report text text' = ⊥
HasReported end.Broken report text text' = ⊥
HasReported end.Memory report text text' = text' ≡ text
