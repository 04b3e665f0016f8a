-- The grammar of a script's lines (docs/FORMATS.md, Scripts).
use Rattle.std.specs.Prelude.{ℕ, if◌then◌else◌, ◌==◌, List, Option, None, option_map, [], ◌∷◌, Some, codes, Bool, false, ◌||◌}
use Rattle.jf_text.specs.Words.{number, is_word, name_of, both, value_of, max_chunk, number_from, words}
use Rattle.jf_model.specs.declared.entries.Parent.{Parent}
use Rattle.jf_model.specs.declared.entries.Parent.TheVariants as parent
use Rattle.jf_script.specs.declared.command.Base.{Base}
use Rattle.jf_script.specs.declared.command.Question.{Question}
use Rattle.jf_script.specs.declared.command.ForkQuestion.{ForkQuestion}
use Rattle.jf_script.specs.declared.command.Command.{Command}
use Rattle.jf_script.specs.declared.command.Base.TheVariants as base
use Rattle.jf_script.specs.declared.command.Question.TheVariants as question
use Rattle.jf_script.specs.declared.command.ForkQuestion.TheVariants as fork_question
use Rattle.jf_script.specs.declared.command.OwnCommand.TheVariants as own_command
use Rattle.jf_script.specs.declared.command.Change.TheVariants as change
use Rattle.jf_script.specs.declared.command.Command.TheVariants as command

-- ---- words that name maps

-- the stored map of a letter and a number: `vN` a version, `pN` a pinned place
abbrev pub base_numbered : ℕ → List ℕ → Option Base
base_numbered letter digits =
    if letter == 118 then option_map (λ n. base.Version n) (number digits)
    else if letter == 112 then option_map (λ n. base.Place n) (number digits)
    else None

-- the stored map that a word names: `head`, `vN` or `pN`
unfoldable pub base_of : List ℕ → Option Base
base_of [] = None
base_of (letter ∷ digits) = if is_word (letter ∷ digits) (codes "head") then Some base.Head else base_numbered letter digits

-- the id of a fork, from `fN`
abbrev pub id_of : List ℕ → Option ℕ
id_of [] = None
id_of (letter ∷ digits) = if letter == 102 then number digits else None

-- what a fork is made on: `head` or `fN`
abbrev pub parent_of : List ℕ → Option Parent
parent_of w = if is_word w (codes "head") then Some parent.Head else option_map (λ id. parent.Fork id) (id_of w)

-- ---- questions

-- the question of a keyword and the words after the map
abbrev pub question_of_words : List ℕ → List (List ℕ) → Option Question
question_of_words w [] =
    if is_word w (codes "root") then Some question.Root
    else if is_word w (codes "count") then Some question.Count
    else None
question_of_words w (a ∷ []) =
    if is_word w (codes "get") then option_map (λ name. question.Get name) (name_of a)
    else if is_word w (codes "prove") then option_map (λ name. question.Prove name) (name_of a)
    else if is_word w (codes "nth") then option_map (λ place. question.Nth place) (number a)
    else None
question_of_words w (a ∷ b ∷ []) = if is_word w (codes "chunk") then both (λ start count. question.Chunk start count) (number a) (number_from 1 max_chunk b) else None
question_of_words w (a ∷ b ∷ c ∷ ws) = None

-- a fork's question as the question that it is
abbrev pub question_of : ForkQuestion → Question
question_of (fork_question.Get name) = question.Get name
question_of fork_question.Root = question.Root

-- a question as one to a fork: `get` and `root`, and no other
abbrev pub fork_question_of : Question → Option ForkQuestion
fork_question_of (question.Get name) = Some (fork_question.Get name)
fork_question_of question.Root = Some fork_question.Root
fork_question_of q = None

-- the read of a question, if there is one, by the word for its map: a fork's, or a stored one
abbrev pub read_command : List ℕ → Option Question → Option Command
read_command on None = None
read_command on (Some q) = elim (id_of on) [ Some id ↦ option_map (λ f. command.ReadFork id f) (fork_question_of q) | None ↦ option_map (λ b. command.Read b q) (base_of on) ]

-- ---- lines

-- the command of a line of one word
abbrev pub one_word : List ℕ → Option Command
one_word w =
    if is_word w (codes "commit") then Some (command.Change change.Commit)
    else if is_word w (codes "compact") then Some (command.Change change.Compact)
    else if is_word w (codes "status") then Some command.Look
    else None

-- the command of a line of two words
abbrev pub two_words : List ℕ → List ℕ → Option Command
two_words w a =
    if is_word w (codes "del") then option_map (λ name. command.Own (own_command.Del name)) (name_of a)
    else if is_word w (codes "unpin") then option_map (λ n. command.Own (own_command.Unpin n)) (number a)
    else if is_word w (codes "pin") then option_map (λ n. command.Pin n) (number a)
    else if is_word w (codes "fork") then option_map (λ on. command.Change (change.Fork on)) (parent_of a)
    else if is_word w (codes "land") then option_map (λ id. command.Change (change.Land id)) (id_of a)
    else if is_word w (codes "drop") then option_map (λ id. command.Change (change.Drop id)) (id_of a)
    else if is_word w (codes "prune") then option_map (λ n. command.Change (change.Prune n)) (number a)
    else read_command a (question_of_words w [])

-- the command of a line of three words
abbrev pub three_words : List ℕ → List ℕ → List ℕ → Option Command
three_words w a b =
    if is_word w (codes "put") then both (λ name value. command.Own (own_command.Put name value)) (name_of a) (value_of b)
    else read_command a (question_of_words w (b ∷ []))

-- the command of a line of four words
abbrev pub four_words : List ℕ → List ℕ → List ℕ → List ℕ → Option Command
four_words w a b c = read_command a (question_of_words w (b ∷ c ∷ []))

-- the command of these words, if they are in the grammar
abbrev pub command_of_words : List (List ℕ) → Option Command
command_of_words [] = None
command_of_words (w ∷ []) = one_word w
command_of_words (w ∷ a ∷ []) = two_words w a
command_of_words (w ∷ a ∷ b ∷ []) = three_words w a b
command_of_words (w ∷ a ∷ b ∷ c ∷ []) = four_words w a b c
command_of_words (w ∷ a ∷ b ∷ c ∷ d ∷ ws) = None

-- whether the words begin as a command with a name does
abbrev pub takes_name : List (List ℕ) → Bool
takes_name [] = false
takes_name (w ∷ []) = false
takes_name (w ∷ a ∷ []) = is_word w (codes "del")
takes_name (w ∷ a ∷ b ∷ []) = is_word w (codes "put") || is_word w (codes "get") || is_word w (codes "prove")
takes_name (w ∷ a ∷ b ∷ c ∷ ws) = false

-- the command of a line, if it is in the grammar
unfoldable pub command_of : List ℕ → Option Command
command_of line = command_of_words (words line)
