use Rattle.jf_hash.proofs.occupied.Occupied.+mark.Given as goal

abbrev pub decreases-mark : goal.decreases-mark
decreases-mark l = l.width
