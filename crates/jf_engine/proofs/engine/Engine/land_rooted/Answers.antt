-- The batch is a list of one.
use Rattle.std.proofs.Common.{◌≤◌, sym, subst, arith}
use Rattle.jf_model.specs.Batches.{key_count}
use Rattle.jf_split.specs.Limits.{max_keys}
use Rattle.jf_engine.proofs.engine.Engine.land_rooted.Goals as goal

pub land_each-requires-clause-bounded : goal.land_each-requires-clause-bounded
land_each-requires-clause-bounded g c = λ κs within. subst (λ bs. key_count bs ≤ max_keys) (sym c.from_ref.ensures.value) (omega (arith, c.as_slice.ensures.bounded))

pub returns-clause-step : goal.returns-clause-step
returns-clause-step g c = rw c.from_ref.ensures.value at c.land_each.ensures.step
