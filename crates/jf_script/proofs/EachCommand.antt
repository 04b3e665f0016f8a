-- What holds of each command that the grammar makes holds of the command of a line.
use Rattle.std.specs.Prelude.{Option, Some, None, ℕ, List, ◌≡◌, Bool, true, false, cond, [], ◌∷◌, option_map, codes}
use Rattle.std.proofs.Common.{refl, subst}
use Rattle.jf_text.specs.Words.{value_of, both, is_word, name_of, number, words}
use Rattle.jf_script.specs.declared.command.Base.{Base}
use Rattle.jf_script.specs.declared.command.Question.{Question}
use Rattle.jf_script.specs.declared.command.ForkQuestion.{ForkQuestion}
use Rattle.jf_script.specs.declared.command.Change.{Change}
use Rattle.jf_script.specs.declared.command.Change.TheVariants as change
use Rattle.jf_script.specs.declared.command.OwnCommand.TheVariants as own_command
use Rattle.jf_script.specs.declared.command.Command.{Command}
use Rattle.jf_script.specs.declared.command.Command.TheVariants as command
use Rattle.jf_script.specs.Commands.{one_word, two_words, three_words, base_of, parent_of, id_of, question_of_words, fork_question_of, read_command, command_of_words, command_of}

-- P holds of each command that the grammar makes: a value and a stored map's question are ones that were read from words
pub record OfEachCommand (P : Command → Type 0) : Type 0 where
  pub put : (w name value : List ℕ) → value_of w ≡ Some value → P (command.Own (own_command.Put name value))
  pub del : (name : List ℕ) → P (command.Own (own_command.Del name))
  pub unpin : (place : ℕ) → P (command.Own (own_command.Unpin place))
  pub read : (on : Base) (q : Question) (w : List ℕ) (ws : List (List ℕ)) → question_of_words w ws ≡ Some q → P (command.Read on q)
  pub read_fork : (id : ℕ) (q : ForkQuestion) → P (command.ReadFork id q)
  pub look : P command.Look
  pub pin : (version : ℕ) → P (command.Pin version)
  pub change : (c : Change) → P (command.Change c)

module _ (P : Command → Type 0) where
  -- a command, if there is one, has the property
  abbrev Fine : Option Command → Type 0
  Fine None = Unit {0}
  Fine (Some c) = P c

  mapped : {X : Type 0} (f : X → Command) (o : Option X) → ((x : X) → o ≡ Some x → P (f x)) → Fine (option_map f o)
  mapped f None fine = tt
  mapped f (Some x) fine = fine x refl

  paired : {X Y : Type 0} (f : X → Y → Command) (o : Option X) (p : Option Y) → ((x : X) (y : Y) → o ≡ Some x → p ≡ Some y → P (f x y)) → Fine (both f o p)
  paired f (Some x) (Some y) fine = fine x y refl refl
  paired f (Some x) None fine = tt
  paired f None p fine = tt

  chosen : (b : Bool) (x y : Option Command) → Fine x → Fine y → Fine (cond b x y)
  chosen true x y p q = p
  chosen false x y p q = q

  by_map : (i : Option ℕ) (o : Option Base) (q : Question) → ((id : ℕ) (f : ForkQuestion) → P (command.ReadFork id f)) → ((on : Base) → P (command.Read on q))
      → Fine (elim i as (λ x. Option Command) [ Some id ↦ option_map (λ f. command.ReadFork id f) (fork_question_of q) | None ↦ option_map (λ b. command.Read b q) o ])
  by_map (Some id) o q forks stored = mapped (λ f. command.ReadFork id f) (fork_question_of q) (λ f is. forks id f)
  by_map None o q forks stored = mapped (λ b. command.Read b q) o (λ b is. stored b)

  asked : (on : List ℕ) (o : Option Question) → ((id : ℕ) (f : ForkQuestion) → P (command.ReadFork id f)) → ((b : Base) (q : Question) → o ≡ Some q → P (command.Read b q)) → Fine (read_command on o)
  asked on None forks stored = tt
  asked on (Some q) forks stored = by_map (id_of on) (base_of on) q forks (λ b. stored b q refl)

  module _ (h : OfEachCommand P) where
    read_fine : (on w : List ℕ) (ws : List (List ℕ)) → Fine (read_command on (question_of_words w ws))
    read_fine on w ws = asked on (question_of_words w ws) h.read_fork (λ b q is. h.read b q w ws is)

    one_fine : (w : List ℕ) → Fine (one_word w)
    one_fine w = chosen (is_word w (codes "commit")) _ _ (h.change change.Commit) (chosen (is_word w (codes "compact")) _ _ (h.change change.Compact) (chosen (is_word w (codes "status")) _ _ h.look tt))

    two_fine : (w a : List ℕ) → Fine (two_words w a)
    two_fine w a =
        chosen (is_word w (codes "del")) _ _ (mapped (λ name. command.Own (own_command.Del name)) (name_of a) (λ x is. h.del x))
        (chosen (is_word w (codes "unpin")) _ _ (mapped (λ n. command.Own (own_command.Unpin n)) (number a) (λ x is. h.unpin x))
        (chosen (is_word w (codes "pin")) _ _ (mapped (λ n. command.Pin n) (number a) (λ x is. h.pin x))
        (chosen (is_word w (codes "fork")) _ _ (mapped (λ on. command.Change (change.Fork on)) (parent_of a) (λ x is. h.change (change.Fork x)))
        (chosen (is_word w (codes "land")) _ _ (mapped (λ id. command.Change (change.Land id)) (id_of a) (λ x is. h.change (change.Land x)))
        (chosen (is_word w (codes "drop")) _ _ (mapped (λ id. command.Change (change.Drop id)) (id_of a) (λ x is. h.change (change.Drop x)))
        (chosen (is_word w (codes "prune")) _ _ (mapped (λ n. command.Change (change.Prune n)) (number a) (λ x is. h.change (change.Prune x))) (read_fine a w [])))))))

    three_fine : (w a b : List ℕ) → Fine (three_words w a b)
    three_fine w a b =
        chosen (is_word w (codes "put")) _ _ (paired (λ name value. command.Own (own_command.Put name value)) (name_of a) (value_of b) (λ x y is to. h.put b x y to)) (read_fine a w (b ∷ []))

    words_fine : (ws : List (List ℕ)) → Fine (command_of_words ws)
    words_fine [] = tt
    words_fine (w ∷ []) = one_fine w
    words_fine (w ∷ a ∷ []) = two_fine w a
    words_fine (w ∷ a ∷ b ∷ []) = three_fine w a b
    words_fine (w ∷ a ∷ b ∷ c ∷ []) = read_fine a w (b ∷ c ∷ [])
    words_fine (w ∷ a ∷ b ∷ c ∷ d ∷ ws) = tt

    -- the command of a line has the property
    pub command_of-each : (line : List ℕ) (c : Command) → command_of line ≡ Some c → P c
    unfolding command_of
    command_of-each line c is = subst Fine is (words_fine (words line))
