-- Lines that can't give an entry.
use Rattle.std.specs.Prelude.{◌||◌}
use Rattle.std.proofs.Common.{◌≡◌, ◌∙◌, ℕ, Bool, true, false, cond, Option, Some, None, not, option_map, List, [], ◌∷◌, refl, sym, ap, codes}
use Rattle.jf_model.specs.States.{State}
use Rattle.jf_path.proofs.BoolLaws.{or_false_left, or_false_right}
use Rattle.jf_text.specs.Words.{words, is_word, is_long, both, name_of, value_of, number}
use Rattle.jf_script.specs.Commands.{command_of, command_of_words, base_of, id_of, question_of_words, fork_question_of, read_command}
use Rattle.jf_script.specs.declared.command.Question.{Question}
use Rattle.jf_script.specs.declared.command.OwnCommand.TheVariants as own_command
use Rattle.jf_script.specs.declared.command.Command.{Command}
use Rattle.jf_script.specs.declared.command.Command.TheVariants as command
use Rattle.jf_script.specs.declared.reply.Refusal.{Refusal}
use Rattle.jf_script.specs.declared.reply.Reply.TheVariants as reply
use Rattle.jf_answers.specs.Own.{Own}
use Rattle.jf_answers.specs.Refusals.{refused_by}
use Rattle.jf_session.specs.Taking.{is_store_word}
use Rattle.jf_answers.specs.Answers.{Answer, answer, answer_to, granted_answer, own_answer, too_long}
use Rattle.jf_answers.proofs.AnswerLaws.{granted_own-quiet}

-- the commands that change the store
abbrev changes_store : Command → Bool
changes_store (command.Change c) = true
changes_store c = false

gives_entry : Option Command → Bool
gives_entry None = false
gives_entry (Some c) = changes_store c

-- ---- a command that gives none
granted_none : (c : Command) (s : State) (own : Own) → changes_store c ≡ false → (granted_answer c s own).entry ≡ None
granted_none (command.Own c) s own none = granted_own-quiet c s own
granted_none (command.Read on q) s own none = refl
granted_none (command.ReadFork id q) s own none = refl
granted_none command.Look s own none = refl
granted_none (command.Pin version) s own none = refl
granted_none (command.Change c) s own none = absurd (cc)

unrefused_none : (o : Option Refusal) (c : Command) (s : State) (own : Own) → changes_store c ≡ false → (elim o as (λ x. Answer) [ Some why ↦ own_answer (reply.No why) s own | None ↦ granted_answer c s own ]).entry ≡ None
unrefused_none None c s own none = granted_none c s own none
unrefused_none (Some why) c s own none = refl

to_none : (o : Option Command) (s : State) (own : Own) → gives_entry o ≡ false → (answer_to o s own).entry ≡ None
unfolding gives_entry
to_none None s own none = refl
to_none (Some c) s own none = unrefused_none (refused_by s own c) c s own none

short_none : (b : Bool) (o : Option Command) (s : State) (own : Own) → gives_entry o ≡ false → (cond b (too_long s own) (answer_to o s own)).entry ≡ None
short_none true o s own none = refl
short_none false o s own none = to_none o s own none

-- ---- words of which the first is none of those commands'
either : (b : Bool) (x y : Option Command) → gives_entry x ≡ false → gives_entry y ≡ false → gives_entry (cond b x y) ≡ false
either true x y p q = p
either false x y p q = q

passed : (b : Bool) (x y : Option Command) → b ≡ false → gives_entry y ≡ false → gives_entry (cond b x y) ≡ false
passed true x y e q = absurd (cc)
passed false x y e q = q

is_none : gives_entry None ≡ false
unfolding gives_entry
is_none = refl

is_some : (c : Command) → changes_store c ≡ false → gives_entry (Some c) ≡ false
unfolding gives_entry
is_some c other = other

mapped : {X : Type 0} (f : X → Command) → ((x : X) → changes_store (f x) ≡ false) → (o : Option X) → gives_entry (option_map f o) ≡ false
unfolding gives_entry
mapped f each None = refl
mapped f each (Some x) = each x

paired : {X Y : Type 0} (f : X → Y → Command) → ((x : X) (y : Y) → changes_store (f x y) ≡ false) → (o : Option X) (p : Option Y) → gives_entry (both f o p) ≡ false
unfolding gives_entry
paired f each None p = refl
paired f each (Some x) None = refl
paired f each (Some x) (Some y) = each x y

-- a read changes nothing
read_none : (on : List ℕ) (o : Option Question) → gives_entry (read_command on o) ≡ false
read_none on None = is_none
read_none on (Some q) = by (id_of on)
  where
    by : (o : Option ℕ) → gives_entry (elim o as (λ x. Option Command) [ Some id ↦ option_map (λ f. command.ReadFork id f) (fork_question_of q) | None ↦ option_map (λ b. command.Read b q) (base_of on) ]) ≡ false
    by (Some id) = mapped (λ f. command.ReadFork id f) (λ x. refl) (fork_question_of q)
    by None = mapped (λ b. command.Read b q) (λ x. refl) (base_of on)

-- the word begins no command that changes the store
pub record IsOtherWord (w : List ℕ) : Type 0 where
  pub commit : is_word w (codes "commit") ≡ false
  pub fork : is_word w (codes "fork") ≡ false
  pub land : is_word w (codes "land") ≡ false
  pub drops : is_word w (codes "drop") ≡ false
  pub prune : is_word w (codes "prune") ≡ false
  pub compact : is_word w (codes "compact") ≡ false

words_none : (w : List ℕ) (ws : List (List ℕ)) → IsOtherWord w → gives_entry (command_of_words (w ∷ ws)) ≡ false
words_none w [] other =
    passed (is_word w (codes "commit")) _ _ other.commit (
    passed (is_word w (codes "compact")) _ _ other.compact (
    either (is_word w (codes "status")) _ _ (is_some command.Look refl) (
    is_none)))
words_none w (a ∷ []) other =
    either (is_word w (codes "del")) _ _ (mapped (λ name. command.Own (own_command.Del name)) (λ x. refl) (name_of a)) (
    either (is_word w (codes "unpin")) _ _ (mapped (λ n. command.Own (own_command.Unpin n)) (λ x. refl) (number a)) (
    either (is_word w (codes "pin")) _ _ (mapped (λ n. command.Pin n) (λ x. refl) (number a)) (
    passed (is_word w (codes "fork")) _ _ other.fork (
    passed (is_word w (codes "land")) _ _ other.land (
    passed (is_word w (codes "drop")) _ _ other.drops (
    passed (is_word w (codes "prune")) _ _ other.prune (
    read_none a (question_of_words w []))))))))
words_none w (a ∷ b ∷ []) other =
    either (is_word w (codes "put")) _ _ (paired (λ name value. command.Own (own_command.Put name value)) (λ x y. refl) (name_of a) (value_of b)) (
    read_none a (question_of_words w (b ∷ [])))
words_none w (a ∷ b ∷ c ∷ []) other = read_none a (question_of_words w (b ∷ c ∷ []))
words_none w (a ∷ b ∷ c ∷ d ∷ ws) other = is_none

other_of : (w : List ℕ) → is_store_word w ≡ false → IsOtherWord w
other_of w h =
    let a = is_word w (codes "commit") in
    let b = is_word w (codes "fork") in
    let c = is_word w (codes "land") in
    let d = is_word w (codes "drop") in
    let e = is_word w (codes "prune") in
    let f = is_word w (codes "compact") in
    let to_e = or_false_left (a || b || c || d || e) f h in
    let to_d = or_false_left (a || b || c || d) e to_e in
    let to_c = or_false_left (a || b || c) d to_d in
    let to_b = or_false_left (a || b) c to_c in
    record {
      commit = or_false_left a b to_b;
      fork = or_false_right a b to_b;
      land = or_false_right (a || b) c to_c;
      drops = or_false_right (a || b || c) d to_d;
      prune = or_false_right (a || b || c || d) e to_e;
      compact = or_false_right (a || b || c || d || e) f h;
    }

-- a word that was found to begin no command that changes the store
pub other_word : (w : List ℕ) (b : Bool) → b ≡ is_store_word w → not b ≡ true → IsOtherWord w
other_word w true is passes = absurd (cc)
other_word w false is passes = other_of w (sym is)

-- a line whose first word begins none of them gives no entry
pub answer-none : (line w : List ℕ) (ws : List (List ℕ)) → words line ≡ w ∷ ws → IsOtherWord w → (s : State) (own : Own) → (answer s own line).entry ≡ None
unfolding answer command_of
answer-none line w ws are other s own = short_none (is_long line) (command_of line) s own (ap (λ ws. gives_entry (command_of_words ws)) are ∙ words_none w ws other)
