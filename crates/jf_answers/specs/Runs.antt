-- The answers to lines, one after another.
use Rattle.std.specs.Prelude.{List, ℕ, [], ◌∷◌, ◌++◌, map, flat_map, option_to_list}
use Rattle.std.specs.List.{concat}
use Rattle.jf_model.specs.States.{State}
use Rattle.jf_model.specs.declared.entries.Entry.{Entry}
use Rattle.jf_script.specs.Replies.{reply_text}
use Rattle.jf_answers.specs.Own.{Own, begun_session}
use Rattle.jf_answers.specs.Answers.{Answer, answer}

-- the answers to lines, and the state and own part after them
pub record Run : Type 0 where
  pub answers : List Answer
  pub state : State
  pub own : Own

-- the answers to lines, each over the state and own part that the lines before it left
unfoldable pub answers_from : State → Own → List (List ℕ) → Run
answers_from s own [] = record { answers = []; state = s; own = own }
answers_from s own (line ∷ ls) =
    let a = answer s own line in
    let r = answers_from a.state a.own ls in
    record { answers = a ∷ r.answers; state = r.state; own = r.own }

-- the answers to all lines of a session that runs alone
abbrev pub answers : State → List (List ℕ) → Run
answers s ls = answers_from s (begun_session 0) ls

-- the text of an answer: the reply's line, with a number, and its block
abbrev pub answer_text : ℕ → Answer → List ℕ
answer_text n a = reply_text n a.reply ++ a.block

-- the text of each answer, with the number of entries so far
abbrev pub texts_of : Run → List (List ℕ)
texts_of r = map (λ a. answer_text a.state.count a) r.answers

-- the text of all answers
abbrev pub text_of : Run → List ℕ
text_of r = concat (texts_of r)

-- the entries that the lines gave, in their order
abbrev pub run_entries : Run → List Entry
run_entries r = flat_map (λ a. option_to_list a.entry) r.answers

-- ---- laws
-- a run and then another, which ends as the second does
abbrev pub followed_by : Run → Run → Run
followed_by r q = record { answers = r.answers ++ q.answers; state = q.state; own = q.own }

-- a run with one more answer before its own
abbrev pub with_first : Answer → Run → Run
with_first a r = record { answers = a ∷ r.answers; state = r.state; own = r.own }
