-- The nodes so far, and those that the iterator still gives, are all.
use Rattle.std.proofs.Common.{◌≡◌, ◌++◌, map}
use Rattle.jf_standing.specs.Building.{as_named}
use Rattle.jf_dir.proofs.listing.list_of.Given as goal

abbrev pub invariant-loop-name : goal.invariant-loop-name
invariant-loop-name l = l.list ++ map as_named l.name-iterator ≡ map as_named l.fn.ordered.entries
