use Rattle.jf_diff.proofs.Names.{are_rising-moved}
use Rattle.jf_diff.proofs.sorted.sorted_names.Goals as goal

pub of-requires : goal.of-requires
of-requires c = are_rising-moved c.args.names.items c.sort_unstable.new.self.items c.sort_unstable.ensures.permutation c.sort_unstable.ensures.sorted c.requires
