-- What follows of a step from its result.
use Rattle.std.proofs.Common.{◌≡◌, ◌⊎◌, ◌↔◌, inl, inr, refl, sym, ◌∙◌, ℕ, true, false, true≢false, arith, Result, Ok, Err}
use Rattle.std.specs.Prelude.{OnOk, OnErr}
use Rattle.jf_files.specs.Steps.{StoreStep, Opens, Lands, Prunes, Compacts, Imports}
use Rattle.jf_engine.specs.Engines.{Engine}
use Rattle.jf_engine.specs.EngineSteps.{CanStep, CanRunOut, IsLast, FindsHead, HasStepped, HasStopped, HasEnded}
use Rattle.jf_engine.specs.declared.fault.EngineFault.{EngineFault}
use Rattle.jf_engine.specs.declared.fault.EngineFault.TheVariants as engine_fault
use Rattle.jf_engine.specs.declared.fault.Which.{Which}
use Rattle.jf_engine.specs.declared.fault.Which.TheVariants as which

-- ---- a step that can be taken
-- a step that may run out of memory can be taken
pub run_out-can : (step : StoreStep) (e : Engine) → CanRunOut step e → CanStep step e
run_out-can Opens e can = can
run_out-can (Lands bs) e can = can
run_out-can (Prunes floor) e can = absurd can
run_out-can Compacts e can = can
run_out-can (Imports version es) e can = can

-- no number keeps from a step that can be taken
pub can-last : (step : StoreStep) (number : Which) (e : Engine) → CanStep step e → IsLast step number e → ⊥
can-last Opens number e can last = can.1
can-last (Lands bs) which.Version e can last = omega (arith, can.1.0, last)
can-last (Lands bs) which.Keys e can last = omega (arith, can.1.1, last.1)
can-last (Lands bs) which.Generation e can last = last
can-last (Lands bs) which.Entries e can last = last
can-last (Prunes floor) number e can last = last
can-last Compacts which.Version e can last = last
can-last Compacts which.Keys e can last = last
can-last Compacts which.Generation e can last = omega (arith, can.1, last)
can-last Compacts which.Entries e can last = last
can-last (Imports version es) which.Version e can last = last
can-last (Imports version es) which.Keys e can last = omega (arith, can.1.2, last.2)
can-last (Imports version es) which.Generation e can last = omega (arith, can.1.1, last.1)
can-last (Imports version es) which.Entries e can last = last

-- an import that can be made finds a new store
pub can-finds : (step : StoreStep) (head : ℕ) (e : Engine) → CanStep step e → FindsHead step head e → ⊥
can-finds Opens head e can finds = finds
can-finds (Lands bs) head e can finds = finds
can-finds (Prunes floor) head e can finds = finds
can-finds Compacts head e can finds = finds
can-finds (Imports version es) head e can finds = elim finds.1 [ inl later ↦ omega (arith, later, can.1.0.0) | inr some ↦ omega (arith, some, can.1.0.1) ]

-- ---- results
module _ {T : Type 0} (step : StoreStep) (old new : Engine) where
  -- after `Ok` the step has succeeded
  pub ended-stepped : (r : Result T EngineFault) → HasEnded step old new r → OnOk r (HasStepped step old new)
  ended-stepped (Ok x) e = e
  ended-stepped (Err why) e = tt

  -- after `DiskFault` the disk has failed in the step
  pub ended-stopped : (r : Result T EngineFault) → HasEnded step old new r → r ≡ Err engine_fault.DiskFault → HasStopped step old new
  ended-stopped (Ok x) e is = absurd (cc)
  ended-stopped (Err engine_fault.DiskFault) e is = e
  ended-stopped (Err engine_fault.Broken) e is = absurd (cc)
  ended-stopped (Err (engine_fault.Last number)) e is = absurd (cc)
  ended-stopped (Err (engine_fault.NotEmpty head)) e is = absurd (cc)
  ended-stopped (Err engine_fault.Memory) e is = absurd (cc)

  -- a step that can be taken is kept from only by the disk or for want of memory
  pub ended-only : (r : Result T EngineFault) → CanStep step old → HasEnded step old new r → OnErr r ((r ≡ Err engine_fault.DiskFault) ⊎ (r ≡ Err engine_fault.Memory))
  ended-only (Ok x) can e = tt
  ended-only (Err engine_fault.DiskFault) can e = inl refl
  ended-only (Err engine_fault.Broken) can e = absurd (true≢false (sym e.0 ∙ can.0))
  ended-only (Err (engine_fault.Last number)) can e = absurd (can-last step number old can e.0.1)
  ended-only (Err (engine_fault.NotEmpty head)) can e = absurd (can-finds step head old can e.0.1)
  ended-only (Err engine_fault.Memory) can e = inr refl

  -- after each error but `DiskFault` the engine is unchanged
  pub ended-untouched : (r : Result T EngineFault) → HasEnded step old new r → OnErr r ((r ≡ Err engine_fault.DiskFault) ⊎ (new ≡ old))
  ended-untouched (Ok x) e = tt
  ended-untouched (Err engine_fault.DiskFault) e = inl refl
  ended-untouched (Err engine_fault.Broken) e = inr e.1
  ended-untouched (Err (engine_fault.Last number)) e = inr e.1
  ended-untouched (Err (engine_fault.NotEmpty head)) e = inr e.1
  ended-untouched (Err engine_fault.Memory) e = inr e.1

  -- `Broken` comes exactly from a broken engine
  pub ended-broken : (r : Result T EngineFault) → HasEnded step old new r → (r ≡ Err engine_fault.Broken) ↔ (old.broken ≡ true)
  ended-broken (Ok x) e = (λ is. absurd (cc), λ yes. absurd (true≢false (sym yes ∙ e.could.0)))
  ended-broken (Err engine_fault.DiskFault) e = (λ is. absurd (cc), λ yes. absurd (true≢false (sym yes ∙ e.could.0)))
  ended-broken (Err engine_fault.Broken) e = (λ is. e.0, λ yes. refl)
  ended-broken (Err (engine_fault.Last number)) e = (λ is. absurd (cc), λ yes. absurd (true≢false (sym yes ∙ e.0.0)))
  ended-broken (Err (engine_fault.NotEmpty head)) e = (λ is. absurd (cc), λ yes. absurd (true≢false (sym yes ∙ e.0.0)))
  ended-broken (Err engine_fault.Memory) e = (λ is. absurd (cc), λ yes. absurd (true≢false (sym yes ∙ (run_out-can step old e.0).0)))

-- a floor takes no memory: an engine that isn't broken keeps from it only if the disk fails
pub ended-pruned : {T : Type 0} (floor : ℕ) (old new : Engine) (r : Result T EngineFault) → old.broken ≡ false → HasEnded (Prunes floor) old new r → OnErr r ((r ≡ Err engine_fault.DiskFault) × HasStopped (Prunes floor) old new)
ended-pruned floor old new (Ok x) whole e = tt
ended-pruned floor old new (Err engine_fault.DiskFault) whole e = (refl, e)
ended-pruned floor old new (Err engine_fault.Broken) whole e = absurd (true≢false (sym e.0 ∙ whole))
ended-pruned floor old new (Err (engine_fault.Last number)) whole e = absurd e.0.1
ended-pruned floor old new (Err (engine_fault.NotEmpty head)) whole e = absurd e.0.1
ended-pruned floor old new (Err engine_fault.Memory) whole e = absurd e.0
