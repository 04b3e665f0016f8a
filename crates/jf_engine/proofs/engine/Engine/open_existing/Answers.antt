-- Files that hold a store aren't damaged.
use Rattle.jf_engine.proofs.engine.Engine.open_existing.Goals as goal

pub returns-in-Ok-Recorded-clause-damage : goal.returns-in-Ok-Recorded-clause-damage
returns-in-Ok-Recorded-clause-damage g c = λ h told where_ at here. absurd (let e = c.in-Ok-Recorded.ensures.damage h where_ at told here in cc)
