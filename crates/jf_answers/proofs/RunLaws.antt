-- Laws on the answers to lines, one after another.
use Rattle.std.specs.Prelude.{◌≡◌, ℕ, List, [], ◌∷◌, ◌++◌}
use Rattle.std.proofs.Common.{refl, ap}
use Rattle.jf_model.specs.States.{State}
use Rattle.jf_answers.specs.Own.{Own}
use Rattle.jf_answers.specs.Answers.{answer}
use Rattle.jf_answers.specs.Runs.{answers_from, followed_by, with_first}

-- the answers to lines followed by other lines
pub answers_from-append : (s : State) (own : Own) (ls ms : List (List ℕ)) → answers_from s own (ls ++ ms) ≡ followed_by (answers_from s own ls) (answers_from (answers_from s own ls).state (answers_from s own ls).own ms)
unfolding answers_from
answers_from-append s own [] ms = refl
answers_from-append s own (line ∷ ls) ms = ap (with_first (answer s own line)) (answers_from-append (answer s own line).state (answer s own line).own ls ms)
