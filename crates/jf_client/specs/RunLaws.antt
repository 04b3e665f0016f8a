-- A client that judges all that a session was answered, as a statement for a call that does nothing and ensures it.
use Rattle.std.specs.Prelude.{◌≡◌, ◌⊎◌, ℕ, zero, suc, ◌+◌, ◌^◌, ◌<◌, false, List, [], ◌∷◌, ◌++◌, length, flat_map, Option, Some, None, unwrap_or, codes}
use Rattle.std.specs.FinMap.{get, empty}
use Rattle.jf_hash.specs.Hashes.{K}
use Rattle.jf_hash.specs.Maps.{Map, IsMap}
use Rattle.jf_hash.specs.Roots.{root}
use Rattle.jf_model.specs.States.{State}
use Rattle.jf_model.specs.Versions.{newest}
use Rattle.jf_model.specs.Forks.{fork_map}
use Rattle.jf_io.specs.Lines.{lines}
use Rattle.jf_evidence.specs.Ranges.{Entries}
use Rattle.jf_evidence.specs.declared.range_proof.RangeProof.{RangeProof}
use Rattle.jf_text.specs.Words.{is_long}
use Rattle.jf_script.specs.declared.command.Question.{Question}
use Rattle.jf_script.specs.Commands.{command_of, question_of}
use Rattle.jf_script.specs.declared.command.Question.TheVariants as question
use Rattle.jf_script.specs.declared.command.Command.{Command}
use Rattle.jf_script.specs.declared.command.Command.TheVariants as command
use Rattle.jf_script.specs.Replies.{IsInRange}
use Rattle.jf_script.specs.declared.reply.Reply.{Reply}
use Rattle.jf_script.specs.declared.reply.Reply.TheVariants as reply
use Rattle.jf_blocks.specs.Blocks.{chunk_lines}
use Rattle.jf_blocks.specs.Laws.{IsChunkBlock}
use Rattle.jf_verify.specs.Verdicts.{syntax_text, verdicts}
use Rattle.jf_answers.specs.Own.{Own}
use Rattle.jf_answers.specs.Refusals.{refused_by, base_map}
use Rattle.jf_answers.specs.Answers.{Answer, answer}
use Rattle.jf_answers.specs.Runs.{answer_text}
use Rattle.jf_client.specs.Laws.{FitsLine}

-- ---- lines and their replies
-- a line, over what it is answered, and the number of its reply
pub record LineInState : Type 0 where
  pub state : State
  pub own : Own
  pub line : List ℕ
  pub number : ℕ

abbrev pub answer_heard : LineInState → Answer
answer_heard h = answer h.state h.own h.line

abbrev pub text_heard : LineInState → List ℕ
text_heard h = answer_text h.number (answer_heard h)

-- ---- what they are judged
-- what a reply is judged with its block: nothing is said of one that sets the root, and one that begins a proof is accepted
abbrev pub verdict_with_block : Reply → Option (List ℕ)
verdict_with_block (reply.Root root) = Some []
verdict_with_block (reply.Proof siblings) = Some (codes "accepted\n")
verdict_with_block r = None

-- the line `syntax` for each of so many lines, from a number on
abbrev pub syntax_lines : ℕ → ℕ → List ℕ
syntax_lines at zero = []
syntax_lines at (suc n) = syntax_text at ++ syntax_lines (at + 1) n

-- what the texts are judged, one after another, if the first begins at line `at`: each line of the others is answered `syntax`
abbrev pub judged_from : ℕ → List LineInState → List ℕ
judged_from at [] = []
judged_from at (h ∷ hs) =
    let many = length (lines (text_heard h)) in
    unwrap_or (verdict_with_block (answer_heard h).reply) (syntax_lines at many) ++ judged_from (at + many) hs

-- ---- lines that ask about maps, and others
-- the question that a read asks
abbrev pub question_in : Command → Option Question
question_in (command.Read on q) = Some q
question_in (command.ReadFork id q) = Some (question_of q)
question_in c = None

-- the map that a read is of: a stored one, or a fork's
abbrev pub map_in : State → Own → Command → Map
map_in s own (command.Read on q) = base_map s own on
map_in s own (command.ReadFork id q) = fork_map (newest s.all) s.forks id
map_in s own c = empty

-- a line asks a question of this map, and isn't refused
pub record Asks (q : Question) (m : Map) (h : LineInState) : Type 0 where
  pub read : Command
  pub granted : refused_by h.state h.own read ≡ None
  pub reads : question_in read ≡ Some q
  pub map_is : map_in h.state h.own read ≡ m
  pub short : is_long h.line ≡ false
  pub is : command_of h.line ≡ Some read

-- a line asks for the root of this map
pub record AsksRoot (m : Map) (h : LineInState) : Type 0 where
  pub asks : Asks question.Root m h
  pub sound : IsMap m

-- a line asks for the proof of a name in it
pub record AsksProof (m : Map) (h : LineInState) : Type 0 where
  pub name : List ℕ
  pub asks : Asks (question.Prove name) m h
  pub fits : FitsLine name (get m (K name))

-- a line has another reply, with no block or with that of a chunk
pub record IsOther (h : LineInState) : Type 0 where
  pub unjudged : verdict_with_block (answer_heard h).reply ≡ None
  pub in_range : IsInRange (answer_heard h).reply
  pub block_is : ((answer_heard h).block ≡ []) ⊎ ((es : Entries) × (proof : RangeProof) × IsChunkBlock es proof × ((answer_heard h).block ≡ chunk_lines es proof))

-- lines ask for roots of maps and for proofs in them, each proof in the map whose root was asked for last; any others stand between.
-- Before the first line, `last` is that map, or None if no root was asked for
abbrev pub AreHeardOn : Option Map → List LineInState → Type 0
AreHeardOn last [] = Unit {0}
AreHeardOn last (h ∷ hs) =
    (h.number < 2 ^ 64)
    × (((m : Map) × AsksRoot m h × AreHeardOn (Some m) hs) ⊎ (((m : Map) × (last ≡ Some m) × AsksProof m h × AreHeardOn last hs) ⊎ (IsOther h × AreHeardOn last hs)))

-- ---- maps whose roots are asked for
-- one of the lines asks for the root of this map
abbrev pub IsAskedOf : List LineInState → Map → Type 0
IsAskedOf [] m = ⊥
IsAskedOf (h ∷ hs) m = AsksRoot m h ⊎ IsAskedOf hs m

-- maps with one root for which the lines ask are one map. Where they differ, two different lists have one SHA-256 (`differing_maps_collide`),
-- and honest claims on the two may contradict
abbrev pub HaveOneMapForRoot : List LineInState → Type 0
HaveOneMapForRoot hs = (m m' : Map) → IsAskedOf hs m → IsAskedOf hs m' → root m ≡ root m' → m ≡ m'

-- ---- the law
-- the replies to such lines are judged as they are: each proof is accepted, and each line of another reply is answered `syntax`
abbrev pub WholeRunsAreJudged : Type 0
WholeRunsAreJudged = (hs : List LineInState) → HaveOneMapForRoot hs → AreHeardOn None hs → verdicts (flat_map text_heard hs) ≡ judged_from 1 hs
