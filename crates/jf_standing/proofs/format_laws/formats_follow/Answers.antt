use Rattle.jf_standing.proofs.Formats.{commit_kept, floor_kept}
use Rattle.jf_standing.proofs.format_laws.formats_follow.Goals as goal

pub returns : goal.returns
returns c = λ fmt s c floor. (commit_kept fmt s c, floor_kept fmt s floor)
