-- What is known after a pin was refused.
use Rattle.std.specs.Prelude.{◌≡◌, ◌≢◌, ℕ, ◌<◌}
use Rattle.jf_path.specs.Limits.{max_pins}
use Rattle.jf_board.specs.declared.pin_refused.PinRefused.{PinRefused}
use Rattle.jf_board.specs.declared.pin_refused.PinRefused.TheVariants.{Full, Retired}
use Rattle.jf_board.specs.declared.views.Hold.TheVariants.{Free}
use Rattle.jf_board.specs.declared.views.PlaceView.{PlaceView}
use Rattle.jf_board.specs.Rule.{hold_at}
use Rattle.jf_board.specs.States.{refused_at, IsLeastFree}

-- why a pin was refused: no place is free, or the gate that was loaded after the announcement is above the version
abbrev pub RefusedPin : PlaceView → ℕ → PlaceView → PinRefused → Type 0
RefusedPin old version new Full = (new ≡ old) × ((k : ℕ) → k < max_pins → hold_at old k ≢ Free)
RefusedPin old version new (Retired gate) = (version < gate) × ((i : ℕ) × IsLeastFree old i × (new ≡ refused_at old i version gate))
