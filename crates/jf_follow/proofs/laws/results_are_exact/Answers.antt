use Rattle.jf_follow.proofs.Takings.{results-exact}
use Rattle.jf_follow.proofs.laws.results_are_exact.Goals as goal

pub returns : goal.returns
returns c = results-exact
