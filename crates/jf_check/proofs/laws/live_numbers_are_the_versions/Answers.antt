use Rattle.jf_check.proofs.LiveNumbers.{live_numbers}
use Rattle.jf_check.proofs.laws.live_numbers_are_the_versions.Goals as goal

pub returns : goal.returns
returns c = live_numbers c.spelled_is_spelling.ensures
