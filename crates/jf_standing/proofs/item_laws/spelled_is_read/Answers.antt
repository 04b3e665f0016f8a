use Rattle.jf_standing.proofs.SpelledRead.{read-first, read-record}
use Rattle.jf_standing.proofs.item_laws.spelled_is_read.Goals as goal

pub returns : goal.returns
returns c = λ fmt kind payload r is. let s = (c.spelled_is_spelling.ensures fmt kind payload r).0 is in (read-first fmt r s.sound, read-record fmt r s.sound)
