use Rattle.jf_standing.proofs.WithCounts.{counts_kept, counts_read, counts_sound}
use Rattle.jf_standing.proofs.format_laws.formats_are_kept.Goals as goal

pub returns : goal.returns
returns c = λ fmt s read sound. (counts_kept fmt s read sound, counts_read fmt s read sound, counts_sound fmt s read sound)
