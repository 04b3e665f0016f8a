-- What each kind of step tells the one who does it.
use Rattle.std.specs.Prelude.{◌∷◌, ℕ, Option, Some, ◌≡◌, ◌≢◌}
use Rattle.atomic_table.specs.Table.{Me, Step, rest}
use Rattle.jf_window.specs.declared.view.Grasp.{Grasp}
use Rattle.jf_window.specs.declared.view.Grasp.TheVariants.{Empty, Full}
use Rattle.jf_window.specs.declared.view.WindowView.{WindowView}

-- the view with another grasp
abbrev pub with_grasp : {K : Type 0} → WindowView K → Grasp → WindowView K
with_grasp v grasp = record v { grasp = grasp }

module _ {K T : Type 0} (fits : K → T → Type 0) where
  -- a view, with what its owner has out of the slot
  abbrev Visitor : Type 0
  Visitor = Me (Option T) (WindowView K)

  -- enter: the new view is a newcomer's
  abbrev pub window_entered : Step (Option T) → Visitor → ℕ → Visitor → Type 0
  window_entered st m r m' = m' ≡ m

  -- claim: if the word was 0, the value is out, and fits; otherwise nothing changed
  abbrev pub window_claimed : Step (Option T) → Visitor → ℕ → Visitor → Type 0
  window_claimed st m r m' =
      (r ≡ 0 → (y : T) × (m' ≡ (with_grasp m.0 Full, (0, Some y) ∷ m.1)) × ((k : K) → m.0.key ≡ Some k → fits k y))
      × (r ≢ 0 → m' ≡ m)

  -- release: nothing is out any more
  abbrev pub window_released : Step (Option T) → Visitor → ℕ → Visitor → Type 0
  window_released st m r m' = m' ≡ (with_grasp m.0 Empty, rest m.1)
