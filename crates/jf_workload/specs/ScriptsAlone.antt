-- The result of a generated script whose session is alone on its store, by the answers of a session that runs by itself.
use Rattle.std.specs.Prelude.{◌≡◌, ℕ, List, ◌++◌, map, Option, option_to_list}
use Rattle.jf_model.specs.States.{State}
use Rattle.jf_model.specs.Entries.{replay, timeless}
use Rattle.jf_model.specs.declared.entries.Entry.{Entry}
use Rattle.jf_answers.specs.Runs.{answers, texts_of, run_entries}
use Rattle.jf_history.specs.Alone.{TriesAlone}
use Rattle.jf_history.specs.declared.end.End.{End}
use Rattle.jf_workload.specs.ScriptRuns.{WritesReport}

-- a run of a script that left these entries and this attempt, by the answers to the lines done
pub record GeneratedAlone (e : End) (s : State) (script : List (List ℕ)) (entries : List Entry) (attempt : Option Entry) (text text' : Option (List ℕ)) : Type 0 where
  pub done : List (List ℕ)
  pub next : Option (List ℕ)
  pub more : List (List ℕ)
  pub first : script ≡ done ++ (option_to_list next ++ more)
  pub entries_are : map timeless entries ≡ run_entries (answers s done)
  pub state : replay s entries ≡ (answers s done).state
  pub tried : TriesAlone e (answers s done) next attempt
  pub writes : WritesReport e script done (texts_of (answers s done)) text text'
