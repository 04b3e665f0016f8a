-- A client that restores a version from replies, as a statement for a call that does nothing and ensures it.
use Rattle.std.specs.Prelude.{◌≡◌, ℕ, ◌+◌, ◌-◌, ◌^◌, ◌<◌, ◌≤◌, false, length, List, [], ◌∷◌, flat_map, Some, Ok}
use Rattle.std.specs.FinMap.{entries}
use Rattle.std.specs.List.{AllByRecursion}
use Rattle.jf_path.specs.Limits.{max_value}
use Rattle.jf_hash.specs.Maps.{Map, IsMap}
use Rattle.jf_hash.specs.Roots.{root}
use Rattle.jf_model.specs.States.{State}
use Rattle.jf_text.specs.Words.{max_chunk, is_long}
use Rattle.jf_script.specs.declared.command.Base.{Base}
use Rattle.jf_script.specs.Commands.{command_of}
use Rattle.jf_script.specs.declared.command.Question.TheVariants as question
use Rattle.jf_script.specs.declared.command.Command.TheVariants as command
use Rattle.jf_answers.specs.Own.{Own}
use Rattle.jf_answers.specs.Refusals.{base_map}
use Rattle.jf_answers.specs.Answers.{answer}
use Rattle.jf_answers.specs.Runs.{answer_text}
use Rattle.jf_receive.specs.Restored.{restore_result}
use Rattle.jf_client.specs.Laws.{IsKeptBase}

-- a line that asks for so many entries of a base, over what it is answered, and the number of its reply
pub record ChunkLine : Type 0 where
  pub state : State
  pub own : Own
  pub on : Base
  pub line : List ℕ
  pub count : ℕ
  pub number : ℕ

-- it asks for entries of this map, from a place on at which one stands
pub record AsksChunk (m : Map) (start : ℕ) (c : ChunkLine) : Type 0 where
  pub kept : IsKeptBase c.state c.own c.on
  pub map_is : base_map c.state c.own c.on ≡ m
  pub within : start < length (entries m)
  pub short : is_long c.line ≡ false
  pub is : command_of c.line ≡ Some (command.Read c.on (question.Chunk start c.count))
  pub least : 1 ≤ c.count
  pub most : c.count ≤ max_chunk
  pub number_fits : c.number < 2 ^ 64

-- lines ask for the entries of a map in turn, each from the place at which those before it end, up to the last
abbrev pub AskInTurn : Map → ℕ → List ChunkLine → Type 0
AskInTurn m start [] = length (entries m) ≤ start
AskInTurn m start (c ∷ cs) = AsksChunk m start c × AskInTurn m (start + c.count) cs

-- the text of their replies
abbrev pub chunk_replies : List ChunkLine → List ℕ
chunk_replies cs = flat_map (λ c. answer_text c.number (answer c.state c.own c.line)) cs

-- the replies to `chunk` on a kept version, one after another and with any numbers, of one session or of several, restore its map
abbrev pub HonestChunksAreRestored : Type 0
HonestChunksAreRestored = (m : Map) (generation : ℕ) (cs : List ChunkLine) → IsMap m → AllByRecursion (λ e. length e.1 ≤ max_value) (entries m) → length (entries m) ≤ 2 ^ 62 → generation < 2 ^ 64 - 2
    → AskInTurn m 0 cs → restore_result generation (root m) (chunk_replies cs) ≡ Ok (entries m)
