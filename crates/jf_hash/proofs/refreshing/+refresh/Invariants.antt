use Rattle.jf_hash.proofs.refreshing.+refresh.Given as goal

abbrev pub decreases-refresh : goal.decreases-refresh
decreases-refresh g l = l.width
