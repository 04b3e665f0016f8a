-- Laws on a pass that landed a fork and was handed what it landed.
use Rattle.std.proofs.Common.{◌≡◌, ℕ, Result, Ok, Err, subst}
use Rattle.std.specs.Prelude.{IfOk, IfErr}
use Rattle.jf_model.specs.Entries.{landed_batches}
use Rattle.jf_model.specs.declared.entries.Landing.TheVariants as landing
use Rattle.jf_turn.specs.Seats.{SeatState}
use Rattle.jf_store.specs.declared.event.Event.{Event}
use Rattle.jf_store.specs.declared.fault.StoreFault.{StoreFault}
use Rattle.jf_store.specs.declared.landed_chain.LandedChain.{LandedChain}
use Rattle.jf_store.specs.declared.tried.Attempt.TheVariants as attempt
use Rattle.jf_store.specs.Starts.{Start}
use Rattle.jf_store.specs.Ledgers.{state_after_events}
use Rattle.jf_store.specs.Landings.{land_faults, landed_roots, LandsChainIn, HasLandedChain}
use Rattle.jf_store.specs.Vaults.{Vault, FailsIn}
use Rattle.jf_store.specs.Passes.{PinsState, pass_of}
use Rattle.jf_store.proofs.PassLaws.{AddsNamed, AddsNamed-landing, HasPassed, HasLanded-passed}

-- after it, however it ended, each event more names the number
pub AddsNamed-chain : (number id : ℕ) (v v' : Vault) (r : Result LandedChain StoreFault) → IfOk r (LandsChainIn number id v v') → IfErr r (FailsIn number (attempt.Lands (landing.Fork id)) (land_faults id) v v') → AddsNamed number v.events v'.events
AddsNamed-chain number id v v' (Ok c) lands fails = AddsNamed-landing number (landing.Fork id) (attempt.Lands (landing.Fork id)) (land_faults id) v v' (Ok c.landed) lands.lands tt
AddsNamed-chain number id v v' (Err f) lands fails = AddsNamed-landing number (landing.Fork id) (attempt.Lands (landing.Fork id)) (land_faults id) v v' (Err f) tt fails

-- what was handed back is of the state in which the pass saw it land
pub HasLandedChain-passed : (s s' : SeatState Event Start) (p : PinsState) (v v' : Vault) (start : Start) → HasPassed s s' p v v' start → (number id : ℕ) (r : Result LandedChain StoreFault) → number ≡ s.number → IfOk r (LandsChainIn number id v v')
    → IfOk r (HasLandedChain start id (pass_of s p) (pass_of s' p))
unfolding HasLanded-passed
HasLandedChain-passed s s' p v v' start h number id (Ok c) is lands = record {
  landed = HasLanded-passed s s' p v v' start h number (landing.Fork id) (Ok c.landed) is lands.lands;
  batches = subst (λ (t : Start). c.batches ≡ landed_batches (state_after_events t v.events) (landing.Fork id)) h.began lands.batches;
  roots = subst (λ (t : Start). c.roots ≡ landed_roots (state_after_events t v.events).all c.batches) h.began lands.roots;
}
HasLandedChain-passed s s' p v v' start h number id (Err f) is lands = tt
