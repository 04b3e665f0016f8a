-- One legal history that explains the replies to several sessions.
use Rattle.std.specs.Prelude.{ℕ, IsTrue, ◌==◌, List, take, filter_map, flat_map, Option, Some, ◌≡◌, ◌⊎◌, ◌≤◌, min, max, IfSome, None, ◌-◌, ◌<◌, slice_get, length, [], ◌∷◌, map, if◌then◌else◌, is_some, ◌+◌, ◌++◌}
use Rattle.std.specs.List.{list_any, AllByRecursion, concat}
use Rattle.jf_model.specs.States.{State}
use Rattle.jf_model.specs.declared.entries.Entry.{Entry}
use Rattle.jf_model.specs.Entries.{replay, timeless, owner_of, IsHistory}
use Rattle.jf_model.specs.declared.entries.Entry.TheVariants as entry
use Rattle.jf_answers.specs.OwnLines.{pin_of, is_own_line}
use Rattle.jf_answers.specs.Own.{Own, begun_session}
use Rattle.jf_answers.specs.Answers.{Answer, answer, retired_below}
use Rattle.jf_answers.specs.Runs.{answer_text}

-- the number is one of the list
abbrev pub IsAmong : List ℕ → ℕ → Type 0
IsAmong ns n = IsTrue (list_any (λ m. m == n) ns)

-- where a history began, its entries, and the versions that lines of its sessions ask to pin
pub record Timeline : Type 0 where
  pub start : State
  pub entries : List Entry
  pub pins : List ℕ

-- the state after the first n entries
abbrev pub state_after : Timeline → ℕ → State
state_after h n = replay h.start (take n h.entries)

-- the versions that the lines `pin` of all sessions name
abbrev pub pins_of : List (List (List ℕ)) → List ℕ
pins_of scripts = flat_map (λ lines. filter_map pin_of lines) scripts

-- ---- a line that gives an entry
-- an answer, with another floor if it retires versions
abbrev pub answered_with_floor : ℕ → State → Own → Answer → Option Entry → Answer
answered_with_floor floor s own a (Some (entry.Retired owner bound old)) = retired_below bound floor s own
answered_with_floor floor s own a e = a

-- the answer to a line, with another floor if it retires versions
abbrev pub answer_with : ℕ → State → Own → List ℕ → Answer
answer_with floor s own line = answered_with_floor floor s own (answer s own line) (answer s own line).entry

-- the floor in an entry that retires versions
abbrev pub floor_in : Entry → ℕ
floor_in (entry.Retired owner bound floor) = floor
floor_in e = 0

-- a floor rises to the bound, or to a version that a line of some session pins if that is less, and above no version that the session itself has pinned
abbrev pub IsFloor : Timeline → State → Own → ℕ → ℕ → Type 0
IsFloor h s own bound floor =
    ((floor ≡ max s.floor bound) ⊎ ((w : ℕ) × IsAmong h.pins w × (floor ≡ max s.floor (min bound w))))
    × AllByRecursion (λ pin. IfSome pin (λ p. floor ≤ max s.floor p)) own.pins

-- the floor of an entry, if it retires versions
abbrev pub HasFloor : Timeline → State → Own → Entry → Type 0
HasFloor h s own (entry.Retired owner bound floor) = IsFloor h s own bound floor
HasFloor h s own e = Unit {0}

-- over a state, a line gives an entry; the moment of the entry is free
pub record GivesEntry (h : Timeline) (s : State) (own : Own) (line : List ℕ) (e : Entry) : Type 0 where
  pub same : (answer_with (floor_in e) s own line).entry ≡ Some (timeless e)
  pub floor : HasFloor h s own e

-- ---- lines with their replies
-- the reply to a line: the number in front, the text, the entry if the line gave one, and the own part after it
pub record LineReply : Type 0 where
  pub number : ℕ
  pub text : List ℕ
  pub entry : Option Entry
  pub own : Own

-- a line that gives no entry has the reply computed from the first n entries; if it asks nothing of the store, n is the number of the reply before
pub record IsQuietReply (h : Timeline) (own : Own) (seen : ℕ) (line : List ℕ) (r : LineReply) : Type 0 where
  pub quiet : (answer (state_after h r.number) own line).entry ≡ None
  pub text : r.text ≡ answer_text r.number (answer (state_after h r.number) own line)
  pub none : r.entry ≡ None
  pub own_after : r.own ≡ (answer (state_after h r.number) own line).own
  pub by_itself : IsTrue (is_own_line line) → r.number ≡ seen

-- a line that gives an entry gives the n-th, later than any that the session had seen, and has the reply computed from the n - 1 entries before it
pub record HasAnsweredChange (h : Timeline) (own : Own) (seen : ℕ) (line : List ℕ) (r : LineReply) : Type 0 where
  pub event : Entry
  pub later : seen < r.number
  pub stands : slice_get h.entries (r.number - 1) ≡ Some event
  pub owned : owner_of event ≡ own.number
  pub gives : GivesEntry h (state_after h (r.number - 1)) own line event
  pub text : r.text ≡ answer_text r.number (answer_with (floor_in event) (state_after h (r.number - 1)) own line)
  pub kept : r.entry ≡ Some event
  pub own_after : r.own ≡ (answer_with (floor_in event) (state_after h (r.number - 1)) own line).own

-- the reply to a line is explained, if the reply before has the number `seen`
pub record IsAnswered (h : Timeline) (own : Own) (seen : ℕ) (line : List ℕ) (r : LineReply) : Type 0 where
  pub rises : seen ≤ r.number
  pub within : r.number ≤ length h.entries
  pub answered : IsQuietReply h own seen line r ⊎ HasAnsweredChange h own seen line r

-- the replies are those to the first lines, in turn
abbrev pub AreAnswered : Timeline → Own → ℕ → List (List ℕ) → List LineReply → Type 0
AreAnswered h own seen lines [] = Unit {0}
AreAnswered h own seen [] (r ∷ rs) = ⊥
AreAnswered h own seen (line ∷ lines) (r ∷ rs) = IsAnswered h own seen line r × AreAnswered h r.own r.number lines rs

-- the own part after replies
abbrev pub own_after_replies : Own → List LineReply → Own
own_after_replies own [] = own
own_after_replies own (r ∷ rs) = own_after_replies r.own rs

-- the number of the last reply, or `seen` if there is no reply
abbrev pub seen_after_replies : ℕ → List LineReply → ℕ
seen_after_replies seen [] = seen
seen_after_replies seen (r ∷ rs) = seen_after_replies r.number rs

-- the text of replies
abbrev pub text_in : List LineReply → List ℕ
text_in rs = concat (map (λ r. r.text) rs)

-- the numbers of the replies to lines that gave an entry
abbrev pub places_in_reply : List LineReply → List ℕ
places_in_reply [] = []
places_in_reply (r ∷ rs) = if is_some r.entry then r.number ∷ places_in_reply rs else places_in_reply rs

-- the places, counted from n + 1, of the entries with this owner
abbrev pub places_owned : ℕ → ℕ → List Entry → List ℕ
places_owned s n [] = []
places_owned s n (e ∷ es) = if owner_of e == s then (n + 1) ∷ places_owned s (n + 1) es else places_owned s (n + 1) es

-- ---- sessions
-- the first line without a reply
abbrev pub next_line : List (List ℕ) → List LineReply → Option (List ℕ)
next_line lines rs = slice_get lines (length rs)

-- the first line without a reply gave an entry too
pub record GaveOneMore (h : Timeline) (s : ℕ) (lines : List (List ℕ)) (rs : List LineReply) : Type 0 where
  pub line : List ℕ
  pub next : next_line lines rs ≡ Some line
  pub unwritten : LineReply
  pub changes : HasAnsweredChange h (own_after_replies (begun_session s) rs) (seen_after_replies 0 rs) line unwritten
  pub places : places_owned s 0 h.entries ≡ places_in_reply rs ++ unwritten.number ∷ []

-- the entries of a session are those that its lines gave, each at its own place; a session that ran out of memory may have one more, without a reply
pub record IsSession (h : Timeline) (out_of_memory : List ℕ) (s : ℕ) (lines : List (List ℕ)) (rs : List LineReply) : Type 0 where
  pub replies : AreAnswered h (begun_session s) 0 lines rs
  pub entries : (places_owned s 0 h.entries ≡ places_in_reply rs) ⊎ (IsAmong out_of_memory s × GaveOneMore h s lines rs)

-- sessions from number s on, one for each script
abbrev pub AreSessions : Timeline → List ℕ → ℕ → List (List (List ℕ)) → List (List LineReply) → Type 0
AreSessions h out_of_memory s [] [] = Unit {0}
AreSessions h out_of_memory s [] (rs ∷ rss) = ⊥
AreSessions h out_of_memory s (lines ∷ scripts) [] = ⊥
AreSessions h out_of_memory s (lines ∷ scripts) (rs ∷ rss) = IsSession h out_of_memory s lines rs × AreSessions h out_of_memory (s + 1) scripts rss

-- a history with the versions that lines of these scripts ask to pin
abbrev pub timeline_of : State → List Entry → List (List (List ℕ)) → Timeline
timeline_of s entries scripts = record { start = s; entries = entries; pins = pins_of scripts }

-- a legal history explains the replies to all sessions, and each entry was made by one of them
pub record ExplainsAnswers (s : State) (entries : List Entry) (scripts : List (List (List ℕ))) (replies : List (List LineReply)) (out_of_memory : List ℕ) : Type 0 where
  pub history : IsHistory s entries
  pub owners : AllByRecursion (λ e. owner_of e < length scripts) entries
  pub sessions : AreSessions (timeline_of s entries scripts) out_of_memory 0 scripts replies

-- a legal history explains what all sessions wrote; the sessions of `out_of_memory` ran out of memory
pub record Explains (s : State) (entries : List Entry) (scripts : List (List (List ℕ))) (outputs : List (List ℕ)) (out_of_memory : List ℕ) : Type 0 where
  pub replies : List (List LineReply)
  pub explained : ExplainsAnswers s entries scripts replies out_of_memory
  pub texts : outputs ≡ map text_in replies

-- the entry that the first line without a reply would give over all entries
pub record IsAttempt (h : Timeline) (s : ℕ) (lines : List (List ℕ)) (rs : List LineReply) (e : Entry) : Type 0 where
  pub line : List ℕ
  pub next : next_line lines rs ≡ Some line
  pub gives : GivesEntry h (replay h.start h.entries) (own_after_replies (begun_session s) rs) line e
