-- the bits so far say it of their places
use Rattle.std.proofs.Common.{◌≡◌, ◌<◌, ℕ, None, false, length, get_or}
use Rattle.std.specs.Option.{is_some}
use Rattle.jf_node.proofs.branches.places_of_children.Given as goal

abbrev pub invariant-loop-n : goal.invariant-loop-n
invariant-loop-n l = (length l.there ≡ 16) × ((k : ℕ) → k < l.n → get_or l.there k false ≡ is_some (get_or l.children-inside.links k None))
