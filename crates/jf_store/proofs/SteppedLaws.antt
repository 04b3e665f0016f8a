-- What keeps from a step on an engine that can take it.
use Rattle.std.proofs.Common.{inl, inr, refl, sym, ◌∙◌, true≢false, Result, Ok, Err}
use Rattle.jf_files.specs.Steps.{StoreStep}
use Rattle.jf_engine.specs.Engines.{Engine}
use Rattle.jf_engine.specs.EngineSteps.{CanStep, HasEnded}
use Rattle.jf_engine.specs.declared.fault.EngineFault.{EngineFault}
use Rattle.jf_engine.specs.declared.fault.EngineFault.TheVariants as engine_fault
use Rattle.jf_engine.proofs.StepLaws.{can-last, can-finds}
use Rattle.jf_store.specs.Stepped.{IsUnrefused}

-- a step that can be taken is not refused
pub unrefused : {T : Type 0} (step : StoreStep) (old new : Engine) (r : Result T EngineFault) → CanStep step old → HasEnded step old new r → IsUnrefused old new r
unrefused step old new (Ok x) can e = tt
unrefused step old new (Err engine_fault.DiskFault) can e = inl refl
unrefused step old new (Err engine_fault.Memory) can e = inr (refl, e.1)
unrefused step old new (Err engine_fault.Broken) can e = absurd (true≢false (sym e.0 ∙ can.0))
unrefused step old new (Err (engine_fault.Last number)) can e = absurd (can-last step number old can e.0.1)
unrefused step old new (Err (engine_fault.NotEmpty head)) can e = absurd (can-finds step head old can e.0.1)
