-- What each kind of step tells the seat that does it, and the resulting view of the seat.
use lib.ListN.{get_elem?}
use mathlib.Core.Option.{some}
use Rattle.std.specs.Prelude.{[], List, ◌+◌, ◌∷◌, ℕ, Option, ◌≡◌, ◌≢◌, ◌^◌, ◌≤◌, length, Some, None, ◌<◌, false, ◌++◌}
use Rattle.atomic_table.specs.Table.{Me, Step}
use Rattle.jf_turn.specs.declared.view.Stage.{Stage}
use Rattle.jf_turn.specs.declared.view.SeatView.{SeatView}
use Rattle.jf_turn.specs.declared.view.Stage.TheVariants.{Idle, Holding, Spent}
use Rattle.jf_turn.specs.Lists.{StartsWith, HasElement, longer, shorter, shorter_numbers}
use Rattle.jf_turn.specs.Rule.{OwnAreSeen}

module _ {E O : Type 0} where
  -- the view at another stage
  abbrev pub at_stage : SeatView E O → Stage E → SeatView E O
  at_stage v stage = record v { stage = stage; other_numbers = [] }

  -- the view that holds nothing and has seen all of a list
  abbrev pub released_seat : SeatView E O → List E → SeatView E O
  released_seat v seen = record v { stage = Idle; seen = seen; other_numbers = [] }

  -- the maker's view with one more number, the next to be given
  abbrev pub minted_view : SeatView E O → SeatView E O
  minted_view v = record v { numbers = v.given ∷ v.numbers; given = v.given + 1 }

module _ {V E O : Type 0} (list : V → List E) (names : E → ℕ) (start_of : V → O) where
  -- a seat's view, with what it has out of the slot
  abbrev Sat : Type 0
  Sat = Me (Option V) (SeatView E O)

  abbrev At : Type 0
  At = Step (Option V)

  -- claim: the seat holds the turn, with the value y, or nothing changed
  abbrev pub turn_claim : At → Sat → ℕ → Sat → Type 0
  turn_claim st m r m' =
      (r ≡ st.first → (y : V) × (m' ≡ (at_stage m.0 (Holding (list y)), (0, Some y) ∷ m.1)) × StartsWith (list y) m.0.seen × OwnAreSeen list names start_of (list y) m.0 × (m.0.start ≡ Some (start_of y)) × (length (list y) ≤ 2 ^ 62))
      × (r ≢ st.first → m' ≡ m)

  -- birth: the first seat takes the empty slot
  abbrev pub turn_birth : At → Sat → ℕ → Sat → Type 0
  turn_birth st m r m' = m' ≡ (at_stage m.0 (Holding []), (0, None) ∷ m.1)

  -- move: the view keeps the list of the value that the seat has
  abbrev pub turn_move : At → Sat → ℕ → Sat → Type 0
  turn_move st m r m' = (y : V) → m.1 ≡ (0, Some y) ∷ [] → m' ≡ (at_stage m.0 (Holding (list y)), m.1)

  -- release: the value is at home, and the seat has seen its list
  abbrev pub turn_release : At → Sat → ℕ → Sat → Type 0
  turn_release st m r m' = (y : V) → m.1 ≡ (0, Some y) ∷ [] → m' ≡ (released_seat m.0 (list y), [])

  -- number: the count rises by one, and the old count is the number that was given
  abbrev pub seat_numbering : At → Sat → ℕ → Sat → Type 0
  seat_numbering st m r m' = (r ≡ m.0.given) × (m' ≡ (minted_view m.0, m.1))

  -- of two lists that a joined seat has seen, the shorter begins the longer, and no entry after it names a number of the seat that had seen the shorter
  abbrev pub list_comparison : At → Sat → ℕ → Sat → Type 0
  list_comparison st m r m' =
      (m' ≡ m) × (length m.0.other_seen ≤ length m.0.seen → StartsWith m.0.seen m.0.other_seen)
      × ((n : ℕ) → HasElement m.0.other_numbers n → (k : ℕ) (e : E) → get_elem? m.0.seen k ≡ some e → names e ≡ n → k < length m.0.other_seen)

-- the first number, or 0
abbrev pub first_or_zero : List ℕ → ℕ
first_or_zero [] = 0
first_or_zero (n ∷ ns) = n

module _ {E O : Type 0} where
  -- split: the maker keeps the number that it gave out last
  abbrev pub maker_left : SeatView E O → SeatView E O
  maker_left v = record v { number = first_or_zero v.numbers; numbers = first_or_zero v.numbers ∷ []; other_numbers = [] }

  -- seating: the new seat has the number that the maker had
  abbrev pub seat_right : SeatView E O → SeatView E O
  seat_right v = record { number = v.number; numbers = v.number ∷ []; seen = v.seen; other_seen = []; other_numbers = []; stage = Idle; start = v.start; is_maker = false; given = 0 }

  -- noting: a new seat that represents no number has seen what the seat has seen
  abbrev pub note_right : SeatView E O → SeatView E O
  note_right v = record { number = 0; numbers = []; seen = v.seen; other_seen = []; other_numbers = []; stage = Idle; start = v.start; is_maker = false; given = 0 }

  -- join: one seat represents the numbers of both, and has seen the longer list
  abbrev pub views_joined : SeatView E O → SeatView E O → SeatView E O
  views_joined v w = record v { numbers = v.numbers ++ w.numbers; seen = longer v.seen w.seen; other_seen = shorter v.seen w.seen; other_numbers = shorter_numbers v.seen w.seen v.numbers w.numbers }

  -- join: the other seat is spent
  abbrev pub spent_view : SeatView E O
  spent_view = record { number = 0; numbers = []; seen = []; other_seen = []; other_numbers = []; stage = Spent; start = None; is_maker = false; given = 0 }
