use Rattle.jf_payload.proofs.WholeRecords.{spelled_takes, spelled_again}
use Rattle.jf_payload.proofs.laws.spelled_is_spelling.Goals as goal

pub returns : goal.returns
returns c = λ fmt kind payload r. (spelled_takes fmt kind payload r, spelled_again fmt kind payload r)
