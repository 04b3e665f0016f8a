-- The results of sessions, one by one, and of several that were run side by side.
use Rattle.std.specs.Prelude.{◌≡◌, ◌≤◌, ℕ, ◌+◌, true, List, [], ◌∷◌, ◌++◌, length}
use Rattle.jf_store.specs.Passes.{Store, Pass}
use Rattle.jf_answers.specs.Explains.{IsAmong, LineReply, text_in}
use Rattle.jf_history.specs.Serving.{IsServed}
use Rattle.jf_history.specs.declared.end.End.{End}
use Rattle.jf_history.specs.declared.end.End.TheVariants as end
use Rattle.jf_serve.specs.Served.{max_output, ran_out_of_memory}

-- a session takes no input and writes to no sink
abbrev pub IsSessionEnd : End → Type 0
IsSessionEnd end.Done = Unit {0}
IsSessionEnd end.ReadFault = ⊥
IsSessionEnd end.WriteFault = ⊥
IsSessionEnd end.DiskFault = Unit {0}
IsSessionEnd end.Broken = Unit {0}
IsSessionEnd end.Memory = Unit {0}

-- session n of a store ran a script over its new pass: how it ended, the text of its replies, and its pass in the end. It is explained whichever other sessions ran out of memory
pub record HasRunSession (store : Store) (n : ℕ) (script : List (List ℕ)) (how : End) (text : List ℕ) (pass : Pass) : Type 0 where
  pub replies : List LineReply
  pub text_is : text ≡ text_in replies
  pub short : length text ≤ max_output
  pub end_is : IsSessionEnd how
  pub served : (out_of_memory : List ℕ) → (ran_out_of_memory how ≡ true → IsAmong out_of_memory n) → IsServed store out_of_memory n (record { script = script; how = how; replies = replies; pass = pass })

-- the results of sessions, in the order of their numbers, and for how many there is room
pub record SessionResults : Type 0 where
  pub passes : List Pass
  pub texts : List (List ℕ)
  pub ends : List End
  pub room : ℕ

-- nothing, with room for so many
abbrev pub none_gathered : ℕ → SessionResults
none_gathered room = record { passes = []; texts = []; ends = []; room = room }

-- with the result of one session more
abbrev pub one_more_gathered : SessionResults → End → List ℕ → Pass → SessionResults
one_more_gathered g how text pass = record { passes = g.passes ++ pass ∷ []; texts = g.texts ++ text ∷ []; ends = g.ends ++ how ∷ []; room = g.room }

-- sessions from number n on ran these scripts: how they ended, the texts of their replies, and their passes in the end
abbrev pub HaveRunFrom : Store → ℕ → List (List (List ℕ)) → List End → List (List ℕ) → List Pass → Type 0
HaveRunFrom store n [] [] [] [] = Unit {0}
HaveRunFrom store n [] [] [] (p ∷ ps) = ⊥
HaveRunFrom store n [] [] (t ∷ ts) ps = ⊥
HaveRunFrom store n [] (e ∷ es) ts ps = ⊥
HaveRunFrom store n (script ∷ scripts) [] ts ps = ⊥
HaveRunFrom store n (script ∷ scripts) (e ∷ es) [] ps = ⊥
HaveRunFrom store n (script ∷ scripts) (e ∷ es) (t ∷ ts) [] = ⊥
HaveRunFrom store n (script ∷ scripts) (e ∷ es) (t ∷ ts) (p ∷ ps) = HasRunSession store n script e t p × HaveRunFrom store (n + 1) scripts es ts ps

-- sessions from number n on ran these scripts, and this was gathered
abbrev pub HaveRunSessions : Store → ℕ → List (List (List ℕ)) → SessionResults → Type 0
HaveRunSessions store n scripts g = HaveRunFrom store n scripts g.ends g.texts g.passes
