use Rattle.jf_standing.proofs.WithCounts.{groups_kept, all_landed_kept}
use Rattle.jf_standing.proofs.format_laws.formats_group.Goals as goal

pub returns : goal.returns
returns c = λ fmt s bs. (groups_kept fmt s bs, all_landed_kept fmt s bs)
