-- A client that judges replies without a map, as a statement for a call that does nothing and ensures it.
use Rattle.std.specs.Prelude.{◌≤◌, ℕ, length, List, Option, IfSome, ◌≡◌, false, Some, ◌^◌, ◌<◌, ◌++◌, codes}
use Rattle.std.specs.FinMap.{get}
use Rattle.hex.specs.Hex.{IsBytes}
use Rattle.jf_path.specs.Limits.{max_value}
use Rattle.jf_hash.specs.Hashes.{K}
use Rattle.jf_model.specs.States.{State}
use Rattle.jf_model.specs.Versions.{IsVersions}
use Rattle.jf_text.specs.Words.{max_name, is_long}
use Rattle.jf_script.specs.declared.command.Base.{Base}
use Rattle.jf_script.specs.Commands.{command_of}
use Rattle.jf_script.specs.declared.command.Base.TheVariants as base
use Rattle.jf_script.specs.declared.command.Question.TheVariants as question
use Rattle.jf_script.specs.declared.command.Command.TheVariants as command
use Rattle.jf_verify.specs.Verdicts.{verdicts}
use Rattle.jf_answers.specs.Own.{Own, version_pinned_at}
use Rattle.jf_answers.specs.Refusals.{base_map}
use Rattle.jf_answers.specs.Answers.{answer}
use Rattle.jf_answers.specs.Runs.{answer_text}

-- the head, a version that is neither above the head nor retired, or a place at which the session has pinned a version
abbrev pub IsKeptBase : State → Own → Base → Type 0
IsKeptBase s own base.Head = Unit {0}
IsKeptBase s own (base.Version w) = (s.retired ≤ w) × (w ≤ s.all.head)
IsKeptBase s own (base.Place place) = (w : ℕ) × (version_pinned_at own place ≡ Some w)

-- a name, and a value, if there is one, that are no longer than they may be: what lines can carry
pub record FitsLine (name : List ℕ) (value : Option (List ℕ)) : Type 0 where
  pub bytes : IsBytes name
  pub least : 1 ≤ length name
  pub most : length name ≤ max_name
  pub small : IfSome value (λ v. length v ≤ max_value)

-- two lines ask for the root of a version and for the proof of a name in it
pub record AskRootAndProof (root_line prove_line : List ℕ) (on : Base) (name : List ℕ) : Type 0 where
  pub root_short : is_long root_line ≡ false
  pub root_is : command_of root_line ≡ Some (command.Read on question.Root)
  pub prove_short : is_long prove_line ≡ false
  pub prove_is : command_of prove_line ≡ Some (command.Read on (question.Prove name))

-- for each kept version, each pinned one, and each name, whether the map has it or not: the two replies, with any numbers, are judged accepted
abbrev pub HonestRepliesAreAccepted : Type 0
HonestRepliesAreAccepted = (s : State) (own : Own) (on : Base) (name root_line prove_line : List ℕ) (m n : ℕ)
    → IsVersions s.all → IsKeptBase s own on → FitsLine name (get (base_map s own on) (K name)) → AskRootAndProof root_line prove_line on name → m < 2 ^ 64 → n < 2 ^ 64
    → verdicts (answer_text m (answer s own root_line) ++ answer_text n (answer s own prove_line)) ≡ codes "accepted\n"
