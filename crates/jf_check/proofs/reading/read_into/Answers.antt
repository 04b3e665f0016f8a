use Rattle.jf_disk.proofs.CrashLaws.{idle_went, idle_failed}
use Rattle.jf_check.proofs.reading.read_into.Goals as goal

pub returns-in_err-read-clause-idle : goal.returns-in_err-read-clause-idle
returns-in_err-read-clause-idle g c = λ h told. idle_failed h _ _ told c.in_err-read.ensures.failed

pub returns-clause-idle : goal.returns-clause-idle
returns-clause-idle g c = λ h told. idle_went h _ _ told c.in_ok-read.ensures.ok
