use Rattle.jf_disk.proofs.CrashLaws.{idle_went, idle_failed}
use Rattle.jf_check.proofs.reading.length_on.Goals as goal

pub returns-in_err-len-clause-idle : goal.returns-in_err-len-clause-idle
returns-in_err-len-clause-idle g c = λ h told. idle_failed h _ _ told c.in_err-len.ensures.failed

pub returns-clause-idle : goal.returns-clause-idle
returns-clause-idle g c = λ h told. idle_went h _ _ told c.in_ok-len.ensures.ok
