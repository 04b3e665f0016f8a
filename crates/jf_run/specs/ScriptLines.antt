-- The lines of a script over a store, by where they come from and what is written of them.
use Rattle.std.specs.Prelude.{◌≡◌, ℕ, Bool, List, Option}
use Rattle.jf_model.specs.States.{State}
use Rattle.jf_model.specs.declared.entries.Entry.{Entry}
use Rattle.jf_engine.specs.Openings.{DiskView}
use Rattle.jf_store.specs.Starts.{Start}
use Rattle.jf_store.specs.Passes.{Pass}
use Rattle.jf_history.specs.Runs.{HasRunOver}
use Rattle.jf_history.specs.declared.end.End.{End}
use Rattle.jf_session.specs.Leading.{HasLedOver}
use Rattle.jf_workload.specs.ScriptRuns.{HasRunScript}
use Rattle.jf_run.specs.Runs.{HasRun, HasLed, HasGenerated}
use Rattle.jf_run.specs.Leading.{EndsLed}
use Rattle.jf_run.specs.Statuses.{status_of}
use Rattle.jf_run.specs.declared.script.Script.{Script}
use Rattle.jf_run.specs.declared.script.Script.TheVariants as script
use Rattle.jf_run.specs.declared.status.Status.{Status}

-- what holds of the lines of a generated script
abbrev pub IfGenerated : Script → (List (List ℕ) → Type 0) → Type 0
IfGenerated script.Input holds = Unit {0}
IfGenerated script.Led holds = Unit {0}
IfGenerated (script.Generated lines) holds = holds lines

-- a pass did the lines, to an end that the status tells, and this is what came of it
abbrev pub HasDoneLines : Script → Status → Start → (old new : Pass) → (rest rest' text text' : Option (List ℕ)) → (faults faults' : ℕ) → Type 0
HasDoneLines script.Input how start old new rest rest' text text' faults faults' = (e : End) × (how ≡ status_of e) × HasRunOver e start old new rest rest' text text'
HasDoneLines script.Led how start old new rest rest' text text' faults faults' = (e : End) × (is_cut : Bool) × EndsLed how e is_cut faults faults' × HasLedOver e is_cut start old new rest rest' text text'
HasDoneLines (script.Generated lines) how start old new rest rest' text text' faults faults' = (e : End) × (how ≡ status_of e) × HasRunScript e start lines old new text text'

-- the lines were done over a store that was opened in this state, by its only session
abbrev pub HasDoneScript : Script → Status → State → (old new : DiskView) → List Entry → Option Entry → (rest rest' text text' : Option (List ℕ)) → (faults faults' : ℕ) → Type 0
HasDoneScript script.Input how s old new es attempt rest rest' text text' faults faults' = (e : End) × (how ≡ status_of e) × HasRun e s old new es attempt rest rest' text text'
HasDoneScript script.Led how s old new es attempt rest rest' text text' faults faults' = (e : End) × (is_cut : Bool) × EndsLed how e is_cut faults faults' × HasLed e is_cut s old new es attempt rest rest' text text'
HasDoneScript (script.Generated lines) how s old new es attempt rest rest' text text' faults faults' = (e : End) × (how ≡ status_of e) × HasGenerated e s old new lines es attempt text text'
