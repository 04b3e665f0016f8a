-- Laws on answers, and on what a history explains.
use Rattle.std.specs.Prelude.{◌≡◌, ℕ, ◌≤◌, List, [], ◌∷◌, map, take, Some, IfSome}
use Rattle.std.specs.List.{AllByRecursion}
use Rattle.jf_hash.specs.Maps.{IsBatch}
use Rattle.jf_model.specs.States.{State, IsState}
use Rattle.jf_model.specs.Entries.{IsHistory, IsLegal, AreLegal, after, replay, timeless}
use Rattle.jf_model.specs.declared.entries.Entry.{Entry}
use Rattle.jf_answers.specs.Own.{Own}
use Rattle.jf_answers.specs.Answers.{answer}
use Rattle.jf_answers.specs.Runs.{answers, text_of, run_entries}
use Rattle.jf_answers.specs.Explains.{Explains}

-- the entry that a line gives over a sound state is legal
abbrev pub AnswersAreLegal : Type 0
AnswersAreLegal = (s : State) (own : Own) (line : List ℕ) → IsState s → IsBatch own.pending → IfSome (answer s own line).entry (IsLegal s)

-- the entries of a session that runs alone over a sound state are legal in turn
abbrev pub RunsAreLegal : Type 0
RunsAreLegal = (s : State) (lines : List (List ℕ)) → IsState s → AreLegal s (run_entries (answers s lines))

-- the replies to the first lines of a session that runs alone are explained by the entries that these lines gave
abbrev pub OneSessionExplainsItself : Type 0
OneSessionExplainsItself =
    (s : State) (lines : List (List ℕ)) (d : ℕ) (entries : List Entry) → s.count ≡ 0 → IsHistory s entries → map timeless entries ≡ run_entries (answers s (take d lines))
    → Explains s entries (lines ∷ []) (text_of (answers s (take d lines)) ∷ []) []

-- all replies to a session that runs alone are explained by its own entries
abbrev pub OneSessionExplainsAll : Type 0
OneSessionExplainsAll =
    (s : State) (lines : List (List ℕ)) (entries : List Entry) → s.count ≡ 0 → IsHistory s entries → map timeless entries ≡ run_entries (answers s lines)
    → Explains s entries (lines ∷ []) (text_of (answers s lines) ∷ []) []

-- a floor is above no version that a session has pinned
abbrev pub SparesPins : Own → ℕ → Type 0
SparesPins own floor = AllByRecursion (λ pin. IfSome pin (λ p. floor ≤ p)) own.pins

-- after lines of a session that runs alone, no first part of the entries that they gave has a floor above a version that the session has then pinned
abbrev pub FloorSparesPins : Type 0
FloorSparesPins =
    (s : State) (lines : List (List ℕ)) (entries : List Entry) (count : ℕ) → IsState s → map timeless entries ≡ run_entries (answers s lines)
    → SparesPins (answers s lines).own (replay s (take count entries)).floor

-- nor has the entry of one line more
abbrev pub EntrySparesPins : Type 0
EntrySparesPins =
    (s : State) (lines : List (List ℕ)) (line : List ℕ) (e : Entry) → IsState s → (answer (answers s lines).state (answers s lines).own line).entry ≡ Some e
    → SparesPins (answers s lines).own (after e (answers s lines).state).floor
