use Rattle.std.proofs.Common.{sym, ◌∙◌}
use Rattle.jf_forks.proofs.Numbers.{first_among}
use Rattle.jf_forks.proofs.live.is_live.Goals as goal

pub returns-in-Some : goal.returns-in-Some
returns-in-Some c = sym (first_among _ _ _ _ c.in-Some.ensures.cases.0 c.from_number.ensures.forks) ∙ c.from_number.ensures.among
