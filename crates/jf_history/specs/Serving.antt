-- Several sessions over one store that was closed.
use Rattle.std.specs.Prelude.{◌≡◌, ◌⊎◌, ℕ, ◌+◌, ◌<◌, List, [], ◌∷◌, ◌++◌, map, take, drop, length, Option, Some, None, IfSome}
use Rattle.std.specs.List.{AllByRecursion}
use Rattle.jf_store.specs.Passes.{Store, Pass, new_pass}
use Rattle.jf_model.specs.States.{State}
use Rattle.jf_model.specs.declared.entries.Entry.{Entry}
use Rattle.jf_answers.specs.Explains.{LineReply, IsAmong, next_line, IsAttempt, timeline_of}
use Rattle.jf_history.specs.Sessions.{Session}
use Rattle.jf_history.specs.Runs.{HasAnswered, EndsBy}
use Rattle.jf_history.specs.declared.end.End.{End}
use Rattle.jf_history.specs.declared.end.End.TheVariants as end

-- a script, how its session ended, the replies to its first lines, and the pass of the session in the end
pub record SessionOutcome : Type 0 where
  pub script : List (List ℕ)
  pub how : End
  pub replies : List LineReply
  pub pass : Pass

-- of the replies that a session had, those from a line on are missing; the lines after that one gave no entry
pub record LosesReplies (had told : List LineReply) : Type 0 where
  pub count : ℕ
  pub within : count < length had
  pub told_are : told ≡ take count had
  pub quiet : AllByRecursion (λ r. r.entry ≡ None) (drop (count + 1) had)

-- session n answered the first lines of its script, and all if it ended well; only one that ran out of memory lost replies
pub record IsServed (store : Store) (out_of_memory : List ℕ) (n : ℕ) (s : SessionOutcome) : Type 0 where
  pub done : List (List ℕ)
  pub rest : List (List ℕ)
  pub first : s.script ≡ done ++ rest
  pub whole : s.how ≡ end.Done → rest ≡ []
  pub had : List LineReply
  pub told : (s.replies ≡ had) ⊎ ((s.how ≡ end.Memory) × IsAmong out_of_memory n × LosesReplies had s.replies)
  pub mid : Session
  pub answered : HasAnswered store.start (new_pass store n) mid done had
  pub next : Option (List ℕ)
  pub next_is : IfSome next (λ line. next_line s.script had ≡ Some line)
  pub last : Session
  pub ends : EndsBy s.how store.start mid last next
  pub pass_is : s.pass ≡ last.pass

-- sessions from number n on
abbrev pub AreServed : Store → List ℕ → ℕ → List SessionOutcome → Type 0
AreServed store out_of_memory n [] = Unit {0}
AreServed store out_of_memory n (s ∷ ss) = IsServed store out_of_memory n s × AreServed store out_of_memory (n + 1) ss

-- their scripts, replies and passes
abbrev pub scripts_of : List SessionOutcome → List (List (List ℕ))
scripts_of ss = map (λ s. s.script) ss

abbrev pub replies_of : List SessionOutcome → List (List LineReply)
replies_of ss = map (λ s. s.replies) ss

abbrev pub passes_of : List SessionOutcome → List Pass
passes_of ss = map (λ s. s.pass) ss

-- the disk failed in one of these sessions, whose number is that of the sessions before it, and the entry is the attempt of its first line without a reply
pub record FailedIn (s : State) (entries : List Entry) (ss : List SessionOutcome) (e : Entry) : Type 0 where
  pub before : List SessionOutcome
  pub failed : SessionOutcome
  pub after : List SessionOutcome
  pub split : ss ≡ before ++ failed ∷ after
  pub fault : failed.how ≡ end.DiskFault
  pub attempt : IsAttempt (timeline_of s entries (scripts_of ss)) (length before) failed.script failed.replies e
