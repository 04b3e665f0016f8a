-- A law on scripts that are run over passes.
use Rattle.std.specs.Prelude.{◌≡◌, ℕ, List, Option}
use Rattle.jf_store.specs.Events.{attempt_of}
use Rattle.jf_store.specs.Ledgers.{AreEvents}
use Rattle.jf_store.specs.Passes.{Store, Pass, new_pass}
use Rattle.jf_history.specs.Sessions.{seen_by}
use Rattle.jf_history.specs.declared.end.End.{End}
use Rattle.jf_workload.specs.ScriptRuns.{HasRunScript}
use Rattle.jf_workload.specs.ScriptsAlone.{GeneratedAlone}

-- on a store of one pass, a run of a script is that of a session by itself
abbrev pub OneScriptIsAlone : Type 0
OneScriptIsAlone = (store : Store) (e : End) (script : List (List ℕ)) (new : Pass) (text text' : Option (List ℕ)) → store.start.passes ≡ 1 → store.start.state.count ≡ 0 → AreEvents store.start new.seen
    → HasRunScript e store.start script (new_pass store 0) new text text' → GeneratedAlone e store.start.state script (seen_by new) (attempt_of new.seen) text text'
