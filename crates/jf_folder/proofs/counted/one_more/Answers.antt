use Rattle.jf_folder.proofs.RaisedLaws.{raised-below}
use Rattle.jf_folder.proofs.counted.one_more.Goals as goal

pub returns-clause-value : goal.returns-clause-value
returns-clause-value c = rw c.saturating_add.ensures (raised-below _ c.ranges.count.fits)
