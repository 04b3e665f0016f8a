-- What contracts see of a place and of the pruner.
use Rattle.std.specs.Prelude.{[], ◌≡◌, ℕ, Option, Some, None, ◌<◌, ◌+◌, ◌∷◌, ◌++◌, slice_set, ◌≢◌, length, List}
use Rattle.jf_path.specs.Limits.{max_pins}
use Rattle.atomic_table.specs.Seated.{TableId}
use Rattle.atomic_table.specs.declared.shared.Seat.{Seat}
use Rattle.jf_board.specs.declared.views.PlaceView.{PlaceView}
use Rattle.jf_board.specs.declared.views.PrunerView.{PrunerView}
use Rattle.jf_board.specs.declared.views.View.{View}
use Rattle.jf_board.specs.declared.views.View.TheVariants.{Pins, Prunes, Spent}
use Rattle.jf_board.specs.Steps.{newly_numbered}
use Rattle.jf_board.specs.declared.views.Hold.{Hold}
use Rattle.jf_board.specs.declared.views.Hold.TheVariants.{Free, Confirmed}
use Rattle.jf_board.specs.Rule.{hold_at}

-- a place: of which board, and what it knows
pub record PlaceState : Type 0 where
  pub board : TableId
  pub known : PlaceView

-- the pruner: of which board, and what it knows
pub record PrunerState : Type 0 where
  pub board : TableId
  pub known : PrunerView

-- the place's view that a seat has
abbrev pub place_of : View → PlaceView
place_of (Pins v) = v
place_of (Prunes q) = newly_numbered 0
place_of Spent = newly_numbered 0

-- a pruner's view that knows nothing, for a seat that is not the pruner's
abbrev pub no_pruner : PrunerView
no_pruner = record { gate = 0; cut = 0; count = 0; loaded = []; pairs = []; joined = [] }

-- the pruner's view that a seat has
abbrev pub pruner_of : View → PrunerView
pruner_of (Pins v) = no_pruner
pruner_of (Prunes q) = q
pruner_of Spent = no_pruner

-- the copy in memory agrees with one of the eight: between calls it is free or confirmed, never merely announced
abbrev pub Agrees : Option ℕ → Hold → Type 0
Agrees None h = h ≡ Free
Agrees (Some v) h = h ≡ Confirmed v

-- the place holds h at i
abbrev pub HoldAt : PlaceView → ℕ → Hold → Type 0
HoldAt v i h = (i < max_pins) × (hold_at v i ≡ h)

-- the place after it announced the version at i and confirmed it by loading the gate
abbrev pub pinned_at : PlaceView → ℕ → ℕ → ℕ → PlaceView
pinned_at v i version gate = record v { gate = gate; latest = i; holds = slice_set v.holds i (Confirmed version); announced = v.announced ++ version ∷ [] }

-- the place after it announced the version at i, loaded the gate and withdrew: it holds what it held
abbrev pub refused_at : PlaceView → ℕ → ℕ → ℕ → PlaceView
refused_at v i version gate = record v { gate = gate; latest = i; announced = v.announced ++ version ∷ [] }

-- the seat is that of the place with the number n
abbrev pub IsPlaceSeat : Seat (Unit {0}) View → ℕ → Type 0
IsPlaceSeat s n = (s.me ≡ (Pins (place_of s.me.0), [])) × ((place_of s.me.0).number ≡ n)

-- the seat is the pruner's
abbrev pub IsPruner : Seat (Unit {0}) View → Type 0
IsPruner s = s.me ≡ (Prunes (pruner_of s.me.0), [])

-- i is the least place that holds nothing
abbrev pub IsLeastFree : PlaceView → ℕ → Type 0
IsLeastFree v i = HoldAt v i Free × ((k : ℕ) → k < i → hold_at v k ≢ Free)

-- all pin words were loaded since the last raise
abbrev pub HasScanned : PrunerState → Type 0
HasScanned p = length p.known.loaded + 3 ≡ p.board.words

-- gate, cut, count and joined places are as before
abbrev pub SameButScan : PrunerView → PrunerView → Type 0
SameButScan p q = (q.gate ≡ p.gate) × (q.cut ≡ p.cut) × (q.count ≡ p.count) × (q.joined ≡ p.joined)

-- the pruner of a new board with that many places
abbrev pub new_pruner : ℕ → ℕ → PrunerView
new_pruner gate count = record { gate = gate; cut = gate; count = count; loaded = []; pairs = []; joined = [] }

-- the list is of places of the board that hold nothing, numbered from n on
abbrev pub AreNewPlaces : TableId → List PlaceState → ℕ → Type 0
AreNewPlaces board [] n = Unit {0}
AreNewPlaces board (p ∷ ps) n = (p.board ≡ board) × (p.known ≡ newly_numbered n) × AreNewPlaces board ps (n + 1)
