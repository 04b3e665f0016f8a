use Rattle.std.proofs.Common.{◌∙◌}
use Rattle.jf_board.proofs.Making.{opens_new}
use Rattle.jf_board.proofs.board.Board.new.Goals as goal

pub of_words-requires : goal.of_words-requires
of_words-requires c = opens_new _ _ _ (c.as_slice.ensures.value ∙ c.in_ok-words.ensures)
