-- The outcome of several sessions over one store, each of which ran a script of its own.
use Rattle.std.specs.Prelude.{◌≡◌, ◌≤◌, ℕ, ◌+◌, ◌^◌, Bool, true, false, if◌then◌else◌, List, [], ◌∷◌, map, length, slice_get, Option, Some, None, IfSome}
use Rattle.std.specs.List.{AllByRecursion}
use Rattle.jf_disk.specs.Disk.{History}
use Rattle.jf_disk.specs.Moments.{ExtendsHistory}
use Rattle.jf_model.specs.States.{State}
use Rattle.jf_model.specs.Entries.{replay, IsLegal}
use Rattle.jf_model.specs.declared.entries.Entry.{Entry}
use Rattle.jf_engine.specs.Engines.{Engine}
use Rattle.jf_store.specs.Starts.{Start}
use Rattle.jf_store.specs.Kept.{IsKept}
use Rattle.jf_answers.specs.Own.{begun_session}
use Rattle.jf_answers.specs.OwnLines.{is_own_line}
use Rattle.jf_answers.specs.Explains.{Timeline, LineReply, ExplainsAnswers, IsAttempt, next_line, own_after_replies, text_in, timeline_of}
use Rattle.jf_history.specs.Alone.{ServedAlone}
use Rattle.jf_history.specs.Sparing.{SparesPinsSince}
use Rattle.jf_history.specs.declared.end.End.{End}
use Rattle.jf_history.specs.declared.end.End.TheVariants as end

-- the most bytes of a session's output
abbrev pub max_output : ℕ
max_output = 2 ^ 30

-- whether a session ran out of memory
abbrev pub ran_out_of_memory : End → Bool
ran_out_of_memory end.Done = false
ran_out_of_memory end.ReadFault = false
ran_out_of_memory end.WriteFault = false
ran_out_of_memory end.DiskFault = false
ran_out_of_memory end.Broken = false
ran_out_of_memory end.Memory = true

-- the numbers, from n on, of the sessions that ran out of memory
abbrev pub out_of_memory_from : ℕ → List End → List ℕ
out_of_memory_from n [] = []
out_of_memory_from n (e ∷ es) = if ran_out_of_memory e then n ∷ out_of_memory_from (n + 1) es else out_of_memory_from (n + 1) es

-- the numbers of the sessions that ran out of memory
abbrev pub out_of_memory_in : List End → List ℕ
out_of_memory_in es = out_of_memory_from 0 es

-- how session n ended, by its script and its replies; `attempt` is what was tried when the disk failed. It ends at a disk that
-- failed in an earlier call only at a line that asks the store
abbrev pub IsEndOf : Timeline → Option Entry → ℕ → List (List ℕ) → List LineReply → End → Type 0
IsEndOf h attempt n script rs end.Done = length rs ≡ length script
IsEndOf h attempt n script rs end.ReadFault = ⊥
IsEndOf h attempt n script rs end.WriteFault = ⊥
IsEndOf h attempt n script rs end.DiskFault = (e : Entry) × (attempt ≡ Some e) × IsAttempt h n script rs e
IsEndOf h attempt n script rs end.Broken = (e : Entry) × (attempt ≡ Some e) × ((line : List ℕ) × (next_line script rs ≡ Some line) × (is_own_line line ≡ false))
IsEndOf h attempt n script rs end.Memory = Unit {0}

-- how sessions ended, from number n on
abbrev pub AreEnded : Timeline → Option Entry → ℕ → List (List (List ℕ)) → List (List LineReply) → List End → Type 0
AreEnded h attempt n [] [] [] = Unit {0}
AreEnded h attempt n [] [] (e ∷ es) = ⊥
AreEnded h attempt n [] (rs ∷ rss) es = ⊥
AreEnded h attempt n (script ∷ scripts) [] es = ⊥
AreEnded h attempt n (script ∷ scripts) (rs ∷ rss) [] = ⊥
AreEnded h attempt n (script ∷ scripts) (rs ∷ rss) (e ∷ es) = IsEndOf h attempt n script rs e × AreEnded h attempt (n + 1) scripts rss es

-- each image left since a moment represents versions of which the floor is above no version that a session has pinned after
-- its replies; of a session that ran out of memory, whose last replies may be missing, nothing is said
abbrev pub ArePinsSpared : ℕ → History → ℕ → List (List LineReply) → List End → Type 0
ArePinsSpared moment h n [] es = Unit {0}
ArePinsSpared moment h n (rs ∷ rss) [] = ⊥
ArePinsSpared moment h n (rs ∷ rss) (e ∷ es) = (ran_out_of_memory e ≡ false → SparesPinsSince moment h (own_after_replies (begun_session n) rs)) × ArePinsSpared moment h (n + 1) rss es

-- one script alone has the answers of a session that runs by itself, and no other entries
abbrev pub IsAloneIn : State → List (List (List ℕ)) → List (List ℕ) → List End → List Entry → Option Entry → Type 0
IsAloneIn s scripts outputs ends entries attempt = (script : List (List ℕ)) → scripts ≡ script ∷ []
    → (how : End) × (ends ≡ how ∷ []) × (text : List ℕ) × (outputs ≡ text ∷ []) × ServedAlone how s script entries attempt text

-- the sessions of a store that began so answered the first lines of these scripts with these outputs, and the store was then closed.
-- One legal history explains what they were answered; if the disk failed, what was tried is the attempt of one of them; and the
-- engine is the result of the entries. No output has more bytes than it may have
pub record HasServed (start : Start) (scripts : List (List (List ℕ))) (outputs : List (List ℕ)) (ends : List End) (entries : List Entry) (engine : Engine) : Type 0 where
  pub attempt : Option Entry
  pub replies : List (List LineReply)
  pub outputs_are : outputs ≡ map text_in replies
  pub short : AllByRecursion (λ t. length t ≤ max_output) outputs
  pub explained : ExplainsAnswers start.state entries scripts replies (out_of_memory_in ends)
  pub ended : AreEnded (timeline_of start.state entries scripts) attempt 0 scripts replies ends
  pub tried : IfSome attempt (λ e. (n : ℕ) × (slice_get ends n ≡ Some end.DiskFault))
  pub legal : IfSome attempt (IsLegal (replay start.state entries))
  pub kept : IsKept start entries attempt engine
  pub spared : (h : History) → engine.history ≡ Some h → ArePinsSpared start.moment h 0 replies ends
  pub grows : (h : History) → start.history ≡ Some h → (g : History) × (engine.history ≡ Some g) × ExtendsHistory h g
  pub unknown : start.history ≡ None → engine.history ≡ None
  pub alone : start.state.count ≡ 0 → IsAloneIn start.state scripts outputs ends entries attempt
