use Rattle.jf_plain.proofs.Views.{none-of}
use Rattle.jf_plain.proofs.map.PlainMap.new.Goals as goal

pub returns : goal.returns
returns c = none-of _ c.new.ensures.items
