-- The rule of a board, which holds in every schedule between any two steps.
-- Its words are the gate, the cut, the count of numbers given, and then eight pin words for each number.
use lib.ListN.{get_elem?}
use mathlib.Core.Option.{some}
use Rattle.std.specs.Prelude.{ℕ, slice_index, ◌+◌, ◌*◌, slice_index_or, ◌≤◌, ◌≡◌, List, ◌-◌, ◌==◌, cond, min, [], ◌∷◌, ◌<◌, length, ◌/◌, ◌≢◌}
use Rattle.jf_path.specs.Limits.{max_pins}
use Rattle.atomic_table.specs.Table.{State}
use Rattle.jf_board.specs.declared.views.View.{View}
use Rattle.jf_board.specs.declared.views.Hold.{Hold}
use Rattle.jf_board.specs.declared.views.Hold.TheVariants.{Free, Announced, Confirmed}
use Rattle.jf_board.specs.declared.views.PlaceView.{PlaceView}
use Rattle.jf_board.specs.declared.views.PrunerView.{PrunerView}
use Rattle.jf_board.specs.declared.views.View.TheVariants.{Pins, Prunes, Spent}
use Rattle.jf_board.specs.declared.views.Size.{Size}

-- the words, and the view of each seat
abbrev pub BoardState : Type 0
BoardState = State (Unit {0}) View

-- the gate word
abbrev pub gate_in : BoardState → ℕ
gate_in s = slice_index s.words 0

-- the cut word
abbrev pub cut_in : BoardState → ℕ
cut_in s = slice_index s.words 1

-- how many numbers are given
abbrev pub count_in : BoardState → ℕ
count_in s = slice_index s.words 2

-- the pin word of number n at its place i
abbrev pub pin_word : BoardState → ℕ → ℕ → ℕ
pin_word s n i = slice_index s.words (max_pins * n + i + 3)

-- what a pin word is: 0, or the version plus 1
abbrev pub word_of : Hold → ℕ
word_of Free = 0
word_of (Announced v) = v + 1
word_of (Confirmed v) = v + 1

-- what a place holds at i, one of 0 to 7
abbrev pub hold_at : PlaceView → ℕ → Hold
hold_at v i = slice_index_or v.holds i Free

-- m is at most the version, if the hold is a confirmed one
abbrev pub Below : ℕ → Hold → Type 0
Below m Free = Unit {0}
Below m (Announced v) = Unit {0}
Below m (Confirmed v) = m ≤ v

-- x stands in the list
abbrev pub Has : {A : Type 0} → List A → A → Type 0
Has xs x = (k : ℕ) × (get_elem? xs k ≡ some x)

-- the version that is announced or confirmed, if there is one, stands in the list
abbrev pub IsListed : List ℕ → Hold → Type 0
IsListed vs Free = Unit {0}
IsListed vs (Announced v) = Has vs v
IsListed vs (Confirmed v) = Has vs v

-- the lesser of m and the version that the word pins
abbrev pub lower : ℕ → ℕ → ℕ
lower m word = cond (word == 0) m (min m (word - 1))

-- the least of the gate and the versions pinned
abbrev pub least : ℕ → List ℕ → ℕ
least gate [] = gate
least gate (word ∷ words) = least (lower gate word) words

-- the least of the pruner's gate and the versions that it loaded in this scan
abbrev pub low_of : PrunerView → ℕ
low_of q = least q.gate q.loaded

-- the view is that of a place, or the pruner's, which the place joined
abbrev pub IsPlaceIn : View → PlaceView → Type 0
IsPlaceIn (Pins u) v = u ≡ v
IsPlaceIn (Prunes q) v = Has q.joined v
IsPlaceIn Spent v = ⊥

-- the seat id represents a place with this view
abbrev pub StandsAt : BoardState → ℕ → PlaceView → Type 0
StandsAt s id v = (x : View) × (get_elem? s.views id ≡ some x) × IsPlaceIn x v

-- the seat id is the pruner's
abbrev pub PrunesAt : BoardState → ℕ → PrunerView → Type 0
PrunesAt s id q = get_elem? s.views id ≡ some (Prunes q)

-- 1. the cut is at most the gate, and at most each version that is confirmed
pub record CutIsLow (s : BoardState) : Type 0 where
  pub gate : cut_in s ≤ gate_in s
  pub pins : (id : ℕ) (v : PlaceView) → StandsAt s id v → (i : ℕ) → i < max_pins → Below (cut_in s) (hold_at v i)

-- 2. a pin word is what its place's view says, and 0 if its number isn't given; numbers of places differ and lie below the count; a place's list has each version that it has announced or confirmed
pub record WordsAreHolds (s : BoardState) : Type 0 where
  pub words : (id : ℕ) (v : PlaceView) → StandsAt s id v → (i : ℕ) → i < max_pins → pin_word s v.number i ≡ word_of (hold_at v i)
  pub unnumbered : (n i : ℕ) → count_in s ≤ n → max_pins * n + i + 3 < length s.words → pin_word s n i ≡ 0
  pub apart : (id j : ℕ) (v u : PlaceView) → StandsAt s id v → StandsAt s j u → v.number ≡ u.number → (id ≡ j) × (v ≡ u)
  pub numbered : (id : ℕ) (v : PlaceView) → StandsAt s id v → v.number < count_in s
  pub listed : (id : ℕ) (v : PlaceView) → StandsAt s id v → (i : ℕ) → i < max_pins → IsListed v.announced (hold_at v i)

-- 3. the pruner's gate and cut are the words; its low is at most the gate, and at most each confirmed version whose word was scanned
pub record PrunerKnows (s : BoardState) : Type 0 where
  pub gate : (id : ℕ) (q : PrunerView) → PrunesAt s id q → q.gate ≡ gate_in s
  pub cut : (id : ℕ) (q : PrunerView) → PrunesAt s id q → q.cut ≡ cut_in s
  pub low : (id : ℕ) (q : PrunerView) → PrunesAt s id q → low_of q ≤ gate_in s
  pub pins : (id j : ℕ) (q : PrunerView) (v : PlaceView) → PrunesAt s id q → StandsAt s j v → (i : ℕ) → i < max_pins → max_pins * v.number + i < length q.loaded → Below (low_of q) (hold_at v i)

-- 4. a gate that a place loaded is at most the gate
abbrev pub LoadedGatesAreLow : BoardState → Type 0
LoadedGatesAreLow s = (id : ℕ) (v : PlaceView) → StandsAt s id v → v.gate ≤ gate_in s

-- 5. the version of each pair that the pruner ever loaded stands in the list of the place with that number, which is a number given
pub record PairsAreAnnounced (s : BoardState) : Type 0 where
  pub announced : (id j : ℕ) (q : PrunerView) (v : PlaceView) (version : ℕ) → PrunesAt s id q → StandsAt s j v → Has q.pairs (v.number, version) → Has v.announced version
  pub given : (id : ℕ) (q : PrunerView) (pair : ℕ × ℕ) → PrunesAt s id q → Has q.pairs pair → pair.0 < count_in s

-- The steps keep the five points in one form: an account of the board, which the words and each view agree with.
-- what the words say and who has which number: what each pin word holds, and of each number its seat and the versions that it announced
pub record Account : Type 0 where
  pub gate : ℕ
  pub cut : ℕ
  pub count : ℕ
  pub low : ℕ
  pub scanned : ℕ
  pub pruner : ℕ
  pub seat : ℕ → ℕ
  pub hold : ℕ → Hold
  pub versions : ℕ → List ℕ

-- the words are those of the account
pub record IsWritten (passes : ℕ) (p : Account) (words : List ℕ) : Type 0 where
  pub wide : length words ≡ max_pins * passes + 3
  pub gate_is : slice_index words 0 ≡ p.gate
  pub cut_is : slice_index words 1 ≡ p.cut
  pub count_is : slice_index words 2 ≡ p.count
  pub pins_are : (k : ℕ) → k < max_pins * passes → slice_index words (k + 3) ≡ word_of (p.hold k)

-- cut and low are at most the gate and what is confirmed; what is not numbered holds nothing; what is held was announced
pub record IsSoundAccount (p : Account) : Type 0 where
  pub cut_gate : p.cut ≤ p.gate
  pub cut_pins : (k : ℕ) → Below p.cut (p.hold k)
  pub low_gate : p.low ≤ p.gate
  pub low_pins : (k : ℕ) → k < p.scanned → Below p.low (p.hold k)
  pub unnumbered : (k : ℕ) → max_pins * p.count ≤ k → p.hold k ≡ Free
  pub no_versions : (n : ℕ) → p.count ≤ n → p.versions n ≡ []
  pub listed : (k : ℕ) → IsListed (p.versions (k / max_pins)) (p.hold k)

-- a place agrees with the account
pub record PlaceFits (p : Account) (id : ℕ) (v : PlaceView) : Type 0 where
  pub numbered : v.number < p.count
  pub mine : p.seat v.number ≡ id
  pub loaded : v.gate ≤ p.gate
  pub latest : v.latest < max_pins
  pub eight : length v.holds ≡ max_pins
  pub holds : (i : ℕ) → i < max_pins → hold_at v i ≡ p.hold (max_pins * v.number + i)
  pub announced : v.announced ≡ p.versions v.number

-- no place of the list has the number n
abbrev pub IsAbsent : ℕ → List PlaceView → Type 0
IsAbsent n [] = Unit {0}
IsAbsent n (v ∷ vs) = (v.number ≢ n) × IsAbsent n vs

-- the places that joined the seat id agree with the account, and their numbers differ
abbrev pub JoinedFit : Account → ℕ → List PlaceView → Type 0
JoinedFit p id [] = Unit {0}
JoinedFit p id (v ∷ vs) = PlaceFits p id v × IsAbsent v.number vs × JoinedFit p id vs

-- the pruner agrees with the account
pub record PrunerFits (p : Account) (id : ℕ) (q : PrunerView) : Type 0 where
  pub alone : id ≡ p.pruner
  pub count_is : q.count ≡ p.count
  pub gate_is : q.gate ≡ p.gate
  pub cut_is : q.cut ≡ p.cut
  pub low_is : least q.gate q.loaded ≡ p.low
  pub scanned_is : length q.loaded ≡ p.scanned
  pub pairs : (t : ℕ × ℕ) → Has q.pairs t → Has (p.versions t.0) t.1
  pub joined : JoinedFit p id q.joined

-- a seat agrees with the account
abbrev pub ViewFits : Account → ℕ → View → Type 0
ViewFits p id (Pins v) = PlaceFits p id v
ViewFits p id (Prunes q) = PrunerFits p id q
ViewFits p id Spent = Unit {0}

-- the rule: there is such an account
pub record IsBoard (passes : ℕ) (s : BoardState) : Type 0 where
  pub account : Account
  pub written : IsWritten passes account s.words
  pub sound : IsSoundAccount account
  pub few : account.count ≤ passes
  pub each : (id : ℕ) (v : View) → get_elem? s.views id ≡ some v → ViewFits account id v

-- the view of the first seat, which makes the places and is then the pruner's
abbrev pub opening_view : Size → View
opening_view size = Prunes record { gate = size.gate; cut = size.gate; count = 0; loaded = []; pairs = []; joined = [] }
