use Rattle.jf_standing.proofs.Formats.{sound_kept, versions_kept}
use Rattle.jf_standing.proofs.format_laws.formats_are_sound.Goals as goal

pub returns : goal.returns
returns c = λ fmt s sound. (sound_kept fmt s sound, versions_kept fmt s)
