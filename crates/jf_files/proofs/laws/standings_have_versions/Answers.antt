use Rattle.jf_files.proofs.Holding.{have_versions}
use Rattle.jf_files.proofs.laws.standings_have_versions.Goals as goal

pub returns : goal.returns
returns c = have_versions
