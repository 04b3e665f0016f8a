use Rattle.std.proofs.Common.{◌≡◌, ◌++◌}
use Rattle.jf_names.specs.Names.{keys_in}
use Rattle.jf_names.proofs.names.NameMap.keys.Given as goal

-- the keys so far, and those that the iterator still gives, are all
abbrev pub invariant-loop-key : goal.invariant-loop-key
invariant-loop-key l = l.keys ++ keys_in l.key-iterator ≡ keys_in l.self
