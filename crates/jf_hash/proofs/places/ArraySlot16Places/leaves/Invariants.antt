use Rattle.std.proofs.Common.{◌≡◌, length, map, take}
use Rattle.jf_hash.specs.Slots.{holds_leaf}
use Rattle.jf_hash.proofs.places.ArraySlot16Places.leaves.Given as goal

abbrev pub invariant-loop-i : goal.invariant-loop-i
invariant-loop-i l = (take l.i l.leaves ≡ map holds_leaf (take l.i l.self)) × (length l.leaves ≡ 16)
