use Rattle.std.specs.Option.{option_copied}
use Rattle.jf_node.specs.Children.{content}
use Rattle.jf_diff.proofs.ChangedLaws.{IsFoundBelow}
use Rattle.jf_diff.proofs.changed.are_several.Given as goal

abbrev pub invariant-loop-n : goal.invariant-loop-n
invariant-loop-n l = IsFoundBelow (content (option_copied l.old)) (content (option_copied l.top)) l.n l.found
