-- The batches of the list are those of its slice, and no root is announced.
use Rattle.jf_engine.proofs.Rooted.{refused_step, never_differs}
use Rattle.jf_engine.proofs.engine.Engine.land_all.Goals as goal

pub returns-in-Ok-clause-step : goal.returns-in-Ok-clause-step
returns-in-Ok-clause-step g c = let ended = rw c.as_slice.ensures at c.in-Ok.ensures.step in ended.0

pub returns-in-Err-Refused-clause-step : goal.returns-in-Err-Refused-clause-step
returns-in-Err-Refused-clause-step g c = let ended = rw c.as_slice.ensures at c.in-Err-Refused.ensures.step in refused_step _ _ _ c.in-Err-Refused.field-0 ended c.in-Err-Refused.why c.in-Err-Refused.field-0-is

pub unreachable-requires : goal.unreachable-requires
unreachable-requires g c = let ended = rw c.as_slice.ensures at c.in-Err-Differs.ensures.step in never_differs _ _ _ c.in-Err-Differs.field-0 ended c.in-Err-Differs.field-0-0 c.in-Err-Differs.field-0-is
