-- What the program promises of a call in the mode `judge`, which opens no store.
use Rattle.std.specs.Prelude.{◌≡◌, ◌⊎◌, ℕ, [], List, Option, None}
use Rattle.jf_ask.specs.declared.lookup.LookupFault.{LookupFault}
use Rattle.jf_judge.specs.JudgedReplies.{HasJudgedReply}
use Rattle.jf_judge.specs.declared.judging.Judged.{Judged}
use Rattle.jf_run.specs.Calls.{ProgramCall, Steady}
use Rattle.jf_run.specs.Outcomes.{IsDoneOrMemory}
use Rattle.jf_run.specs.Statuses.{status_of_judged}
use Rattle.jf_run.specs.declared.status.Status.{Status}
use Rattle.jf_run.specs.declared.status.Status.TheVariants as status

-- what a reply shows of a name under a root was appended to a text, as far as the status says
pub record HasJudgedName (how : Status) (root name : List ℕ) (source left old new : Option (List ℕ)) : Type 0 where
  pub end : Judged
  pub how_is : how ≡ status_of_judged end
  pub judged : HasJudgedReply end root name source left old new

-- a call that wrote what its input, the reply to one `prove`, shows of this name under this root, as far as the status says. If the
-- source failed or memory ran out, no call was made on the sink (`silent`). If source and sink didn't fail, a value or an absence was
-- shown, memory ran out or nothing was shown (`complete`)
pub record IsJudgedNameCall (c : ProgramCall) (root name : List ℕ) : Type 0 where
  pub start : c.start ≡ None
  pub entries : c.entries ≡ []
  pub judged : HasJudgedName c.status root name c.before.rest c.after.rest c.before.text c.after.text
  pub silent : (c.status ≡ status.ReadFault) ⊎ (c.status ≡ status.Memory) → c.after.sink_faults ≡ c.before.sink_faults
  pub complete : Steady c.before.source_faults c.after.source_faults → Steady c.before.sink_faults c.after.sink_faults → IsDoneOrMemory c.status ⊎ ((why : LookupFault) × (c.status ≡ status.NotShown why))
