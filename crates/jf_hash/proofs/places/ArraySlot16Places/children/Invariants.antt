use Rattle.std.proofs.Common.{◌≡◌, length, map, take}
use Rattle.jf_hash.specs.Slots.{is_occupied}
use Rattle.jf_hash.proofs.places.ArraySlot16Places.children.Given as goal

abbrev pub invariant-loop-i : goal.invariant-loop-i
invariant-loop-i l = (take l.i l.children ≡ map is_occupied (take l.i l.self)) × (length l.children ≡ 16)
