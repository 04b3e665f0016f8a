use Rattle.std.proofs.Common.{◌≡◌, ◌∷◌, replicate}
use Rattle.jf_board.proofs.opening.opening_words.Given as goal

abbrev pub invariant-loop : goal.invariant-loop
invariant-loop l = l.words.items ≡ l.gate ∷ l.gate ∷ replicate l.counter 0
