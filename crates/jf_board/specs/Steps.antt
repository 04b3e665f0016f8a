-- The steps of a board: the view of its seat that results from each, and what it tells.
use Rattle.std.specs.Prelude.{ℕ, [], replicate, slice_set, ◌+◌, ◌∷◌, ◌++◌, leb, cond, ◌-◌, ◌/◌, ◌==◌, drop, ◌≡◌, ◌*◌, ◌<◌, List}
use Rattle.jf_path.specs.Limits.{max_pins}
use Rattle.atomic_table.specs.Table.{Me, Step}
use Rattle.jf_board.specs.declared.views.View.{View}
use Rattle.jf_board.specs.declared.views.Hold.TheVariants.{Free, Announced, Confirmed}
use Rattle.jf_board.specs.declared.views.PlaceView.{PlaceView}
use Rattle.jf_board.specs.declared.views.Hold.{Hold}
use Rattle.jf_board.specs.Rule.{hold_at, word_of, Has, Below}
use Rattle.jf_board.specs.declared.views.PrunerView.{PrunerView}
use Rattle.jf_board.specs.declared.views.View.TheVariants.{Prunes, Pins, Spent}

-- the view of a seat; it carries no slot
abbrev pub BoardSeat : Type 0
BoardSeat = Me (Unit {0}) View

-- one step on the table: which word, and the operands
abbrev TableStep : Type 0
TableStep = Step (Unit {0})

-- a place that was just given its number
abbrev pub newly_numbered : ℕ → PlaceView
newly_numbered n = record { number = n; gate = 0; latest = 0; holds = replicate max_pins Free; announced = [] }

-- the place with another hold at i
abbrev pub with_hold : PlaceView → ℕ → Hold → PlaceView
with_hold v i h = record v { holds = slice_set v.holds i h }

-- the place announces the version at i
abbrev pub with_announcement : PlaceView → ℕ → ℕ → PlaceView
with_announcement v i version = record v { latest = i; holds = slice_set v.holds i (Announced version); announced = v.announced ++ version ∷ [] }

-- an announced version is confirmed if the gate is at most it
abbrev pub confirmed_from : ℕ → Hold → Hold
confirmed_from gate Free = Free
confirmed_from gate (Announced version) = cond (leb gate version) (Confirmed version) (Announced version)
confirmed_from gate (Confirmed version) = Confirmed version

-- the place loads the gate: what it announced last is confirmed if the gate is at most it
abbrev pub with_confirmation : PlaceView → ℕ → PlaceView
with_confirmation v gate = record v { gate = gate; holds = slice_set v.holds v.latest (confirmed_from gate (hold_at v v.latest)) }

-- the pruner sets the gate, and no pin word counts as loaded any more
abbrev pub with_gate : PrunerView → ℕ → PrunerView
with_gate q gate = record q { gate = gate; loaded = [] }

-- the pruner gives one more number, to a place that is then joined to it
abbrev pub with_number_given : PrunerView → PrunerView
with_number_given q = record q { count = q.count + 1; joined = newly_numbered q.count ∷ q.joined }

-- the pruner loads the pin word k, the next one
abbrev pub with_loaded_word : PrunerView → ℕ → ℕ → PrunerView
with_loaded_word q k word = record q { loaded = q.loaded ++ word ∷ []; pairs = cond (word == 0) q.pairs (q.pairs ++ (k / max_pins, word - 1) ∷ []) }

-- a place joins for a scan, before any pin word is loaded
abbrev pub with_own : PrunerView → PlaceView → PrunerView
with_own q v = record q { loaded = []; joined = v ∷ q.joined }

-- a place joins for good
abbrev pub with_joined : PrunerView → PlaceView → PrunerView
with_joined q v = record q { joined = v ∷ q.joined }

-- the place that joined last parts
abbrev pub without_own : PrunerView → PrunerView
without_own q = record q { joined = drop 1 q.joined }

-- if the word is a pin word of a joined place, it is what that place holds
abbrev pub JoinedHold : List PlaceView → ℕ → ℕ → Type 0
JoinedHold [] k word = Unit {0}
JoinedHold (v ∷ vs) k word = ((i : ℕ) → i < max_pins → k ≡ max_pins * v.number + i → word ≡ word_of (hold_at v i)) × JoinedHold vs k word

-- each number at which a pin was loaded was given to a place
abbrev pub NumbersAreGiven : PrunerView → Type 0
NumbersAreGiven q = (pair : ℕ × ℕ) → Has q.pairs pair → pair.0 < q.count

-- m is at most each version that the joined places have confirmed
abbrev pub BelowJoined : ℕ → List PlaceView → Type 0
BelowJoined m [] = Unit {0}
BelowJoined m (v ∷ vs) = ((i : ℕ) → i < max_pins → Below m (hold_at v i)) × BelowJoined m vs

-- each joined place announced all that was loaded at its number
abbrev pub JoinedAnnounced : List (ℕ × ℕ) → List PlaceView → Type 0
JoinedAnnounced pairs [] = Unit {0}
JoinedAnnounced pairs (v ∷ vs) = ((version : ℕ) → Has pairs (v.number, version) → Has v.announced version) × JoinedAnnounced pairs vs

-- the number is the old count
abbrev pub TakesNumber : TableStep → BoardSeat → ℕ → BoardSeat → Type 0
TakesNumber st m r m' = (q : PrunerView) → m.0 ≡ Prunes q → (r ≡ q.count) × (m' ≡ (Prunes (with_number_given q), m.1))

-- the word of the place i goes from 0 to version + 1
abbrev pub AnnouncesVersion : TableStep → BoardSeat → ℕ → BoardSeat → Type 0
AnnouncesVersion st m r m' = (v : PlaceView) (i version : ℕ) → m.0 ≡ Pins v → st.word ≡ max_pins * v.number + i + 3 → st.first ≡ version + 1 → m' ≡ (Pins (with_announcement v i version), m.1)

-- the gate is loaded
abbrev pub LoadsGate : TableStep → BoardSeat → ℕ → BoardSeat → Type 0
LoadsGate st m r m' = (v : PlaceView) → m.0 ≡ Pins v → m' ≡ (Pins (with_confirmation v r), m.1)

-- the word of the place i goes to 0
abbrev pub WithdrawsVersion : TableStep → BoardSeat → ℕ → BoardSeat → Type 0
WithdrawsVersion st m r m' = (v : PlaceView) (i : ℕ) → m.0 ≡ Pins v → st.word ≡ max_pins * v.number + i + 3 → m' ≡ (Pins (with_hold v i Free), m.1)

-- the gate word is set
abbrev pub gate_raised : TableStep → BoardSeat → ℕ → BoardSeat → Type 0
gate_raised st m r m' = (q : PrunerView) → m.0 ≡ Prunes q → m' ≡ (Prunes (with_gate q st.first), m.1)

-- the next pin word is loaded; the cut is at most what joined places have confirmed
abbrev pub LoadsPinWord : TableStep → BoardSeat → ℕ → BoardSeat → Type 0
LoadsPinWord st m r m' = (q : PrunerView) (k : ℕ) → m.0 ≡ Prunes q → st.word ≡ k + 3 → (m' ≡ (Prunes (with_loaded_word q k r), m.1)) × JoinedHold q.joined k r × BelowJoined q.cut q.joined

-- the cut word is set
abbrev pub cut_made : TableStep → BoardSeat → ℕ → BoardSeat → Type 0
cut_made st m r m' = (q : PrunerView) → m.0 ≡ Prunes q → m' ≡ (Prunes (record q { cut = st.first }), m.1)

-- each place that joined the pruner announced all that the pruner loaded at its number, and the cut is at most what it has confirmed
abbrev pub LearnsOfJoined : TableStep → BoardSeat → ℕ → BoardSeat → Type 0
LearnsOfJoined st m r m' = (q : PrunerView) → m.0 ≡ Prunes q → (m' ≡ m) × JoinedAnnounced q.pairs q.joined × NumbersAreGiven q × BelowJoined q.cut q.joined

-- the pruner takes in the view of a place, and begins a scan
abbrev pub joined_for_scan : View → View → View
joined_for_scan (Prunes q) (Pins v) = Prunes (with_own q v)
joined_for_scan v w = v

-- the pruner takes in the view of a place for good, and keeps its scan
abbrev pub joined_for_good : View → View → View
joined_for_good (Prunes q) (Pins v) = Prunes (with_joined q v)
joined_for_good v w = v

-- the place that joined last parts from the pruner
abbrev pub parted_view : View → View
parted_view (Prunes q) = Prunes (without_own q)
parted_view v = v

-- the place that joined last
abbrev pub first_joined : List PlaceView → View
first_joined [] = Spent
first_joined (v ∷ vs) = Pins v

-- the view that leaves the pruner: that of the place that joined last
abbrev pub last_joined : View → View
last_joined (Prunes q) = first_joined q.joined
last_joined v = Spent
