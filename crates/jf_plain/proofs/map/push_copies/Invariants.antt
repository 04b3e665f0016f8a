use Rattle.std.proofs.Common.{◌≡◌, ◌++◌, take}
use Rattle.jf_plain.proofs.map.push_copies.Given as goal

abbrev pub invariant-loop-key : goal.invariant-loop-key
invariant-loop-key l = l.entries.items ≡ l.initial.entries.items ++ take l.key-index l.from
