use Rattle.std.proofs.Common.{◌≡◌, drop, Some}
use Rattle.jf_multi.specs.Trees.{Tree, tree_of}
use Rattle.jf_multi.specs.Verdicts.{first_single_refusal}
use Rattle.jf_multi.proofs.verify.judge_each.Given as goal

-- what is found among the rest is what is found among all
abbrev pub invariant-loop-i : goal.invariant-loop-i
invariant-loop-i l = (tree : Tree) → tree_of l.proof ≡ Some tree → first_single_refusal l.root l.i tree (drop l.i l.claims) ≡ first_single_refusal l.root 0 tree l.claims
