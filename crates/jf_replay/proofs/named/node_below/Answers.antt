use Rattle.std.proofs.Common.{None, sym, ap, subst, drop-cons, arith}
use Rattle.std.specs.Option.{option_copied}
use Rattle.jf_diff.specs.Below.{IsBelow}
use Rattle.jf_replay.specs.Changes.{IsAtPath}
use Rattle.jf_replay.proofs.Nodes.{at_none}
use Rattle.jf_replay.proofs.named.node_below.Goals as goal

pub returns-in_err-node : goal.returns-in_err-node
returns-in_err-node c =
    let kept = c.loop-i.invariant in
    subst (IsAtPath c.args.link.now c.args.path.now) (sym (ap option_copied c.from_residual.ensures))
    (at_none c.args.link.now c.loop-i.node.now c.args.path.now _ _ _ (drop-cons c.args.path.now c.loop-i.i 0 (omega arith)) kept.1 kept.2
    (subst (λ n. IsBelow c.loop-i.node.now n None) c.at.ensures c.in_err-node.ensures))
