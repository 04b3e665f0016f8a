-- What a scan found.
use Rattle.std.specs.Prelude.{◌≡◌, ℕ, ◌+◌, ◌*◌, ◌<◌, length, take, slice_index, Option, Some, None}
use Rattle.jf_path.specs.Limits.{max_pins}
use Rattle.jf_board.specs.declared.scan.Held.{Held}
use Rattle.jf_board.specs.declared.views.PrunerView.{PrunerView}
use Rattle.jf_board.specs.Rule.{Has, least}
use Rattle.jf_board.specs.Steps.{JoinedHold, BelowJoined}

-- held names the loaded word that gave the low: the first one that did, which is below the gate and among the pairs
pub record IsHeldBy (q : PrunerView) (least_one : ℕ) (h : Held) : Type 0 where
  pub low : h.version ≡ least_one
  pub below : least_one < q.gate
  pub place : h.place < max_pins
  pub inside : max_pins * h.owner + h.place < length q.loaded
  pub word : slice_index q.loaded (max_pins * h.owner + h.place) ≡ h.version + 1
  pub first : least_one < least q.gate (take (max_pins * h.owner + h.place) q.loaded)
  pub pair : Has q.pairs (h.owner, h.version)

-- the low is the gate, or held names the word that gave it
abbrev pub IsHeld : PrunerView → ℕ → Option Held → Type 0
IsHeld q low None = low ≡ q.gate
IsHeld q low (Some h) = IsHeldBy q low h

-- from p to q the pruner loaded the first k pin words
pub record Scans (p q : PrunerView) (k low : ℕ) (held : Option Held) : Type 0 where
  pub gate : q.gate ≡ p.gate
  pub cut : q.cut ≡ p.cut
  pub count : q.count ≡ p.count
  pub joined : q.joined ≡ p.joined
  pub long : length q.loaded ≡ k
  pub low_is : low ≡ least q.gate q.loaded
  pub held_is : IsHeld q low held
  pub words : (j : ℕ) → j < k → JoinedHold q.joined j (slice_index q.loaded j)
  pub below : 0 < k → BelowJoined q.cut q.joined
  pub grows : (t : ℕ × ℕ) → Has p.pairs t → Has q.pairs t
