-- the children so far are there
use Rattle.std.proofs.Common.{◌≡◌, ◌<◌, ℕ, None, length, get_or}
use Rattle.jf_node.proofs.link.Branches.share.Given as goal

abbrev pub invariant-loop-n : goal.invariant-loop-n
invariant-loop-n l = (length l.copy ≡ 16) × ((k : ℕ) → k < l.n → get_or l.copy k None ≡ get_or l.self k None)
