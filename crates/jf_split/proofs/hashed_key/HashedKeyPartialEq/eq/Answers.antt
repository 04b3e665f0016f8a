-- Lists of the same bytes are keys that tie.
use Rattle.std.proofs.Common.{◌∙◌, ap₂}
use Rattle.std.specs.Cmp.Lexicographic.{texts_ties}
use Rattle.jf_hash.specs.Maps.{same_key}
use Rattle.jf_split.proofs.hashed_key.HashedKeyPartialEq.eq.Goals as goal

pub returns : goal.returns
returns c = c.eq.ensures ∙ texts_ties c.self.inside.bytes c.other.inside.bytes ∙ ap₂ same_key c.self.view_is c.other.view_is
