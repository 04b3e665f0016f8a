use Rattle.std.proofs.Common.{◌≡◌, ◌++◌}
use Rattle.jf_many_blocks.specs.ManyBlocks.{named_claim_lines}
use Rattle.jf_names.specs.Names.{claims_in}
use Rattle.jf_names.proofs.names.NameMap.write_claims.Given as goal

-- the text so far, and the lines of the names that the iterator still gives, are all
abbrev pub invariant-loop-key : goal.invariant-loop-key
invariant-loop-key l = l.out ++ named_claim_lines (claims_in l.snapshot.map l.key-iterator) ≡ l.fn.out ++ named_claim_lines (claims_in l.snapshot.map l.self)
