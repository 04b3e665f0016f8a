-- What clauses see of a turn and of its seats.
use Rattle.std.specs.Prelude.{ℕ, List, Option, ◌≡◌, Some, [], ◌∷◌, None, ◌+◌, drop, length, ◌++◌, true}
use Rattle.atomic_table.specs.Seated.{TableId}
use Rattle.jf_turn.specs.Lists.{HasElement, longer}
use Rattle.jf_turn.specs.declared.view.Stage.{Stage}
use Rattle.jf_turn.specs.declared.view.Stage.TheVariants.{Spent, Idle, Opening, Holding}
use Rattle.jf_turn.specs.declared.view.SeatView.{SeatView}

-- which turn it is, its number of seats, and the start of the value that it was made with
pub record TurnState (O : Type 0) : Type 0 where
  pub id : TableId
  pub seats : ℕ
  pub start : O

-- the turn that it is a seat of, its own number, the numbers that it represents, the entries that it has seen, and the list that it took, while it holds the turn
pub record SeatState (E O : Type 0) : Type 0 where
  pub turn : TableId
  pub start : Option O
  pub number : ℕ
  pub numbers : List ℕ
  pub seen : List E
  pub taken : Option (List E)

-- of which turn a note is, that turn's start, and a front of its list
pub record NoteState (E O : Type 0) : Type 0 where
  pub turn : TableId
  pub start : Option O
  pub seen : List E

module _ {E O : Type 0} where
  -- the seat is one of this turn's
  abbrev pub IsSeatOf : SeatState E O → TurnState O → Type 0
  IsSeatOf s t = (s.turn ≡ t.id) × (s.start ≡ Some t.start)

  -- a seat with this number, which has seen nothing and holds nothing
  abbrev pub new_seat : TurnState O → ℕ → SeatState E O
  new_seat t n = record { turn = t.id; start = Some t.start; number = n; numbers = n ∷ []; seen = []; taken = None }

  -- new seats with the numbers from n on
  abbrev pub AreNewSeats : TurnState O → List (SeatState E O) → ℕ → Type 0
  AreNewSeats t [] n = Unit {0}
  AreNewSeats t (s ∷ ss) n = (s ≡ new_seat t n) × AreNewSeats t ss (n + 1)

  -- no entry after those that the seat has seen names a number that it represents
  abbrev pub OthersFollow : (E → ℕ) → SeatState E O → List E → Type 0
  OthersFollow names s entries = (e : E) → HasElement (drop (length s.seen) entries) e → ¬ (HasElement s.numbers (names e))

  -- the entries go on from those that the seat took, by entries that name its number
  abbrev pub MayGive : (E → ℕ) → SeatState E O → List E → Type 0
  MayGive names s entries = (took : List E) × (more : List E) × (s.taken ≡ Some took) × (entries ≡ took ++ more) × ((e : E) → HasElement more e → names e ≡ s.number)

  -- the seat after it took the turn, with these entries
  abbrev pub taking : SeatState E O → List E → SeatState E O
  taking s entries = record s { taken = Some entries }

  -- the seat after it gave these entries back
  abbrev pub giving : SeatState E O → List E → SeatState E O
  giving s entries = record s { taken = None; seen = entries }

  -- the seat with another joined to it: it keeps its number, represents the numbers of both, and has seen the longer list
  abbrev pub joining : SeatState E O → SeatState E O → SeatState E O
  joining s other = record s { numbers = s.numbers ++ other.numbers; seen = longer s.seen other.seen }

  -- the note is one of this turn's
  abbrev pub IsNoteOf : NoteState E O → TurnState O → Type 0
  IsNoteOf n t = (n.turn ≡ t.id) × (n.start ≡ Some t.start)

  -- a note of all that a seat has seen
  abbrev pub note_of : SeatState E O → NoteState E O
  note_of s = record { turn = s.turn; start = s.start; seen = s.seen }

  -- the seat after it learned a note: it has seen the longer list
  abbrev pub learning : SeatState E O → NoteState E O → SeatState E O
  learning s n = record s { seen = longer s.seen n.seen }

-- ---- how a seat's view is shown, and what a seat has out of the turn's slot
-- the list that a seat holds
abbrev pub held_list : {E : Type 0} → Stage E → Option (List E)
held_list Spent = None
held_list Idle = None
held_list Opening = None
held_list (Holding l) = Some l

-- what clauses see of a view
abbrev pub seat_state : {E O : Type 0} → TableId → SeatView E O → SeatState E O
seat_state id v = record { turn = id; start = v.start; number = v.number; numbers = v.numbers; seen = v.seen; taken = held_list v.stage }

-- what clauses see of the view of a note
abbrev pub note_state : {E O : Type 0} → TableId → SeatView E O → NoteState E O
note_state id v = record { turn = id; start = v.start; seen = v.seen }

-- a seat is idle, or it holds the turn and has the slot, which is empty
abbrev pub Carries : {E V : Type 0} → Stage E → List (ℕ × Option V) → Type 0
Carries Spent c = ⊥
Carries Idle c = c ≡ []
Carries Opening c = ⊥
Carries (Holding l) c = c ≡ (0, None) ∷ []

-- the seat that gives out numbers, when it has the last, n
abbrev pub IsMaker : {E O : Type 0} → SeatView E O → O → ℕ → Type 0
IsMaker v start n = (v.stage ≡ Idle) × (v.is_maker ≡ true) × (v.number ≡ n) × (v.numbers ≡ n ∷ []) × (v.given ≡ n + 1) × (v.seen ≡ []) × (v.start ≡ Some start)
