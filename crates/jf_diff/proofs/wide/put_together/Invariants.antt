use Rattle.std.proofs.Common.{◌≡◌, ◌++◌, length}
use Rattle.std.specs.Option.{option_copied}
use Rattle.jf_diff.proofs.PartLaws.{IsGathered}
use Rattle.jf_diff.proofs.wide.put_together.Given as goal

abbrev pub invariant-loop-part : goal.invariant-loop-part
invariant-loop-part l = record {
  split : l.yielded ++ l.part-iterator.rest.items ≡ l.fn.parts.items;
  gathered : IsGathered l.version l.head (option_copied l.old) (option_copied l.top) (length l.yielded) l.all.fresh l.all.stale.items;
}
