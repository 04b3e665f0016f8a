-- The faults of each call of a pass that changes the store or pins are reported as the causes of the command's refusal.
use Rattle.std.proofs.Common.{ℕ, ◌++◌, length, refl}
use Rattle.jf_model.specs.Batches.{key_count}
use Rattle.jf_model.specs.States.{State}
use Rattle.jf_model.specs.Entries.{landed_batches}
use Rattle.jf_model.specs.declared.entries.Landing.TheVariants as landing
use Rattle.jf_model.specs.declared.entries.Parent.{Parent}
use Rattle.jf_model.specs.declared.entries.Parent.TheVariants as parent
use Rattle.jf_store.specs.Refusals.{ledger_faults, landing_faults, fork_faults, making_faults}
use Rattle.jf_store.specs.Landings.{chain_faults}
use Rattle.jf_store.specs.Compactions.{generation_faults}
use Rattle.jf_store.specs.Refusals as faults
use Rattle.jf_answers.specs.Refusals.{ledger_causes, head_causes, fork_causes, key_causes, parent_causes, room_causes, generation_causes, version_causes}
use Rattle.jf_answers.specs.Refusals as causes
use Rattle.jf_session.proofs.Refusals.{AreTold, AreTold-append}

module _ (s : State) where
  -- ---- single faults
  pub AreTold-ledger : AreTold (ledger_faults s) (ledger_causes s)
  AreTold-ledger = (refl, refl, tt)

  pub AreTold-landing : (n : ℕ) → AreTold (landing_faults n s) (head_causes s n)
  AreTold-landing n = (refl, refl, (refl, refl, tt))

  pub AreTold-version : (w : ℕ) → AreTold (faults.version_faults w s) (version_causes s w)
  AreTold-version w = (refl, refl, (refl, refl, tt))

  pub AreTold-fork : (id : ℕ) → AreTold (fork_faults id s) (fork_causes s id)
  AreTold-fork id = (refl, refl, (refl, refl, tt))

  pub AreTold-keys : (id : ℕ) → AreTold (chain_faults id s) (key_causes (key_count (landed_batches s (landing.Fork id))))
  AreTold-keys id = (refl, refl, tt)

  pub AreTold-generation : AreTold (generation_faults s) (generation_causes s)
  AreTold-generation = (refl, refl, tt)

  pub AreTold-making : (p : Parent) → AreTold (making_faults p s) (parent_causes s p ++ room_causes s)
  AreTold-making parent.Head = (refl, refl, tt)
  AreTold-making (parent.Fork id) = (refl, refl, (refl, refl, (refl, refl, tt)))

  -- ---- those of each call
  pub AreTold-commit : AreTold (ledger_faults s ++ landing_faults 1 s) (ledger_causes s ++ head_causes s 1)
  AreTold-commit = AreTold-append (ledger_faults s) (landing_faults 1 s) (ledger_causes s) (head_causes s 1) AreTold-ledger (AreTold-landing 1)

  pub AreTold-make : (p : Parent) → AreTold (ledger_faults s ++ making_faults p s) (ledger_causes s ++ (parent_causes s p ++ room_causes s))
  AreTold-make p = AreTold-append (ledger_faults s) (making_faults p s) (ledger_causes s) (parent_causes s p ++ room_causes s) AreTold-ledger (AreTold-making p)

  pub AreTold-drop : (id : ℕ) → AreTold (ledger_faults s ++ fork_faults id s) (ledger_causes s ++ fork_causes s id)
  AreTold-drop id = AreTold-append (ledger_faults s) (fork_faults id s) (ledger_causes s) (fork_causes s id) AreTold-ledger (AreTold-fork id)

  pub AreTold-prune : (bound : ℕ) → AreTold (ledger_faults s ++ faults.version_faults bound s) (ledger_causes s ++ version_causes s bound)
  AreTold-prune bound = AreTold-append (ledger_faults s) (faults.version_faults bound s) (ledger_causes s) (version_causes s bound) AreTold-ledger (AreTold-version bound)

  pub AreTold-compact : AreTold (ledger_faults s ++ generation_faults s) (ledger_causes s ++ generation_causes s)
  AreTold-compact = AreTold-append (ledger_faults s) (generation_faults s) (ledger_causes s) (generation_causes s) AreTold-ledger AreTold-generation

  pub AreTold-land : (id : ℕ) → AreTold (ledger_faults s ++ fork_faults id s ++ chain_faults id s ++ landing_faults (length (landed_batches s (landing.Fork id))) s) (ledger_causes s ++ causes.land_causes s id)
  AreTold-land id = (refl, refl, (refl, refl, (refl, refl, (refl, refl, (refl, refl, (refl, refl, tt))))))
