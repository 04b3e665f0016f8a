use Rattle.std.proofs.lemmas.List.{take_rest}
use Rattle.jf_text.proofs.Spaces.{words-at, words-whole}
use Rattle.jf_text.proofs.word.split_word.Goals as goal

pub returns-in-Some : goal.returns-in-Some
returns-in-Some c = rw take_rest (words-at c.args.text.now c.in-Some.at c.in-Some.ensures)

pub returns-in-None : goal.returns-in-None
returns-in-None c = words-whole c.args.text.now c.in-None.ensures
