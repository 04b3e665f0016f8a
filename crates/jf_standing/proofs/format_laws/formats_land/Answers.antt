use Rattle.jf_standing.proofs.Formats.{landing_kept}
use Rattle.jf_standing.proofs.format_laws.formats_land.Goals as goal

pub returns : goal.returns
returns c = λ fmt s m. landing_kept fmt s m
