-- What follows from the rule of a turn.
use lib.ListN.{get_elem?}
use mathlib.Core.Option.{some}
use Rattle.std.specs.Prelude.{◌≡◌, ◌≢◌, ℕ, ◌*◌, ◌%◌, ◌<◌, List, length, slice_index, Option, Some, ◌+◌, ◌⊎◌, ◌≤◌}
use Rattle.atomic_table.specs.Table.{State}
use Rattle.jf_turn.specs.declared.view.Stage.{Stage}
use Rattle.jf_turn.specs.declared.view.Stage.TheVariants.{Spent, Idle, Opening, Holding}
use Rattle.jf_turn.specs.declared.view.SeatView.{SeatView}
use Rattle.jf_turn.specs.Lists.{HasElement, StartsWith}
use Rattle.jf_turn.specs.Rule.{IsTurn, OwnAreSeen}

-- a seat at this stage has the turn
abbrev pub HasTurn : {E : Type 0} → Stage E → Type 0
HasTurn Spent = ⊥
HasTurn Idle = ⊥
HasTurn Opening = Unit {0}
HasTurn (Holding l) = Unit {0}

-- the view stands at this place, and its seat was not joined to another
abbrev pub IsThere : {S E O : Type 0} → State S (SeatView E O) → ℕ → SeatView E O → Type 0
IsThere s place v = (get_elem? s.views place ≡ some v) × (v.stage ≢ Spent)

module _ {V E O : Type 0} (list : V → List E) (names : E → ℕ) (start_of : V → O) where
  -- a turn whose word is even has at home a value that represents half as many entries and has the turn's start; no seat has the turn, and the value's list begins with all that any seat has seen, after which no entry is that seat's own
  abbrev pub FreeTurnHasItsValue : Type 0
  FreeTurnHasItsValue =
      (seats : ℕ) (start : O) (s : State (Option V) (SeatView E O)) → IsTurn list names start_of seats start s → slice_index s.words 0 % 2 ≡ 0
      → (y : V) × (get_elem? s.homes 0 ≡ some (some (Some y))) × (slice_index s.words 0 ≡ 2 * length (list y)) × (start_of y ≡ start)
      × ((place : ℕ) (v : SeatView E O) → IsThere s place v → ¬ (HasTurn v.stage) × StartsWith (list y) v.seen × OwnAreSeen list names start_of (list y) v)
      × ((e : E) → HasElement (list y) e → names e < slice_index s.words 1)

  -- two seats that have the turn are the same seat
  abbrev pub OneSeatHolds : Type 0
  OneSeatHolds = (seats : ℕ) (start : O) (s : State (Option V) (SeatView E O)) → IsTurn list names start_of seats start s
      → (i j : ℕ) (v w : SeatView E O) → IsThere s i v → IsThere s j w → HasTurn v.stage → HasTurn w.stage → i ≡ j

  -- the turn word counts the list that the holder keeps, and says that the turn is held; that list begins with all that any seat has seen, and its entries name numbers that were given
  abbrev pub HolderKeepsTheList : Type 0
  HolderKeepsTheList = (seats : ℕ) (start : O) (s : State (Option V) (SeatView E O)) → IsTurn list names start_of seats start s
      → (i : ℕ) (v : SeatView E O) (l : List E) → IsThere s i v → v.stage ≡ Holding l
      → (slice_index s.words 0 ≡ 2 * length l + 1) × ((j : ℕ) (w : SeatView E O) → IsThere s j w → StartsWith l w.seen) × ((e : E) → HasElement l e → names e < slice_index s.words 1)

  -- of the lists that two seats have seen, one begins the other
  abbrev pub SeenListsAgree : Type 0
  SeenListsAgree = (seats : ℕ) (start : O) (s : State (Option V) (SeatView E O)) → IsTurn list names start_of seats start s
      → (i j : ℕ) (v w : SeatView E O) → IsThere s i v → IsThere s j w → StartsWith v.seen w.seen ⊎ StartsWith w.seen v.seen

  -- two seats that represent one number are the same seat
  abbrev pub SeatsStandApart : Type 0
  SeatsStandApart = (seats : ℕ) (start : O) (s : State (Option V) (SeatView E O)) → IsTurn list names start_of seats start s
      → (i j : ℕ) (v w : SeatView E O) (n : ℕ) → IsThere s i v → IsThere s j w → HasElement v.numbers n → HasElement w.numbers n → i ≡ j

  -- the numbers that a seat represents, and those that the entries name which it has seen, lie below the count of given numbers, which is at most the number of seats; and the seat has the turn's start
  abbrev pub NumbersWereGiven : Type 0
  NumbersWereGiven = (seats : ℕ) (start : O) (s : State (Option V) (SeatView E O)) → IsTurn list names start_of seats start s
      → (slice_index s.words 1 ≤ seats)
      × ((i : ℕ) (v : SeatView E O) → IsThere s i v → ((n : ℕ) → HasElement v.numbers n → n < slice_index s.words 1) × ((e : E) → HasElement v.seen e → names e < slice_index s.words 1) × (v.start ≡ Some start))

  -- an entry that any seat has seen, or that the holder's list has, and that names a number of a seat without the turn, is one that this seat has seen
  abbrev pub OwnEntriesAreSeen : Type 0
  OwnEntriesAreSeen = (seats : ℕ) (start : O) (s : State (Option V) (SeatView E O)) → IsTurn list names start_of seats start s
      → (i j : ℕ) (v w : SeatView E O) → IsThere s i v → IsThere s j w → ¬ (HasTurn v.stage)
      → OwnAreSeen list names start_of w.seen v × ((l : List E) → w.stage ≡ Holding l → OwnAreSeen list names start_of l v)
