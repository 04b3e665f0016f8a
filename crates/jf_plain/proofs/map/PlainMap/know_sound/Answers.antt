use Rattle.std.proofs.Common.{subst}
use Rattle.jf_hash.specs.Maps.{IsMap}
use Rattle.jf_plain.specs.Entries.{HasShortValues}
use Rattle.jf_plain.proofs.Views.{sound-of, short-of}
use Rattle.jf_plain.proofs.map.PlainMap.know_sound.Goals as goal

pub returns-clause-sound : goal.returns-clause-sound
returns-clause-sound c = subst IsMap c.self.view_is (sound-of _ c.self.invariant)

pub returns-clause-short : goal.returns-clause-short
returns-clause-short c = subst HasShortValues c.self.view_is (short-of _ c.self.invariant)
