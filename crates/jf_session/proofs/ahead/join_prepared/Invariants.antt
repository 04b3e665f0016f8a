-- the replies so far are those of the first parts
use Rattle.std.proofs.Common.{ℕ}
use Rattle.std.specs.List.{AllByRecursion}
use Rattle.jf_hash.specs.Maps.{Map}
use Rattle.jf_session.specs.PreparedReplies.{ArePreparedFor}
use Rattle.jf_session.proofs.ahead.join_prepared.Given as goal

abbrev pub invariant-loop-part : goal.invariant-loop-part
invariant-loop-part l = (m : Map) (n : ℕ) → AllByRecursion (λ part. ArePreparedFor m n part) l.fn.parts.items → ArePreparedFor m n l.prepared × AllByRecursion (λ part. ArePreparedFor m n part) l.part-iterator.rest.items
