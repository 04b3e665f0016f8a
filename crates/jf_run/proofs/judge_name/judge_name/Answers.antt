use Rattle.std.specs.Prelude.{◌⊎◌}
use Rattle.std.proofs.Common.{◌≡◌, ◌∙◌, sym, subst}
use Rattle.jf_run.specs.declared.status.Status.{Status}
use Rattle.jf_run.specs.declared.status.Status.TheVariants as status
use Rattle.jf_run.proofs.JudgedNames.{read_told, write_told, silence_told}
use Rattle.jf_run.proofs.judge_name.judge_name.Goals as goal

pub returns-clause-judged : goal.returns-clause-judged
returns-clause-judged g c = record { end = c.judge_reply.result; how_is = c.of_judged.ensures; judged = c.judge_reply.ensures.judged }

pub returns-clause-unwritten : goal.returns-clause-unwritten
returns-clause-unwritten g c = λ e. c.judge_reply.ensures.unwritten (silence_told c.judge_reply.result (subst (λ (s : Status). (s ≡ status.ReadFault) ⊎ (s ≡ status.Memory)) c.of_judged.ensures e))

pub returns-clause-read : goal.returns-clause-read
returns-clause-read g c = λ e. c.judge_reply.ensures.read (read_told c.judge_reply.result (sym c.of_judged.ensures ∙ e))

pub returns-clause-write : goal.returns-clause-write
returns-clause-write g c = λ e. c.judge_reply.ensures.write (write_told c.judge_reply.result (sym c.of_judged.ensures ∙ e))
