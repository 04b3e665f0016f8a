use Rattle.std.proofs.Common.{ap, ◌∙◌}
use Rattle.jf_hash.specs.Slots.{Part}
use Rattle.jf_standing.proofs.Batches.{removals_of}
use Rattle.jf_replay.specs.Changes.{sole}
use Rattle.jf_replay.proofs.Nodes.{entries-at_top, none_under}
use Rattle.jf_replay.proofs.named.key_at.Goals as goal

pub returns-then-is_root_of_none-clause-found : goal.returns-then-is_root_of_none-clause-found
returns-then-is_root_of_none-clause-found c =
    let named = c.is_root_of_none.ensures.0 c.if-is_root_of_none.true in
    (named, ap (λ (es : Part). removals_of (sole es)) (none_under c.args.snapshot.now c.args.name.now c.in_default.ensures c.know.ensures named))

pub returns-in-Some-named_below-clause-found : goal.returns-in-Some-named_below-clause-found
returns-in-Some-named_below-clause-found c =
    let below = c.in-Some-named_below.ensures.found in
    let is = entries-at_top c.args.snapshot.now c.in-Some.top.now c.args.name.now c.in-Some-named_below.node.now.entries c.in-Some.ensures c.know.ensures below.1 below.0 in
    (is.0, ap (λ (es : Part). removals_of (sole es)) is.1 ∙ c.key_of.ensures)
