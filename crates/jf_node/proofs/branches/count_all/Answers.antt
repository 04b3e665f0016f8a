use Rattle.std.proofs.Common.{◌≡◌, ◌+◌, ◌<◌, ◌^◌, ap, length, take, arith, sym, subst, take_all, map, Some}
use Rattle.std.specs.Option.{SomeIff}
use Rattle.jf_node.specs.Children.{entries_of_children}
use Rattle.jf_node.proofs.CountLaws.{length-links-more, length-links-take}
use Rattle.jf_node.proofs.branches.count_all.Goals as goal

pub loop-link-preserved : goal.loop-link-preserved
loop-link-preserved c =
    let i = c.loop-link.link-index in
    let more = length-links-more c.args.links.now i c.link-item.result (omega arith) in
    let item = ap (λ x. length x.entries) c.link-item.is in
    record {
      total = omega (arith, c.in_ok-total.ensures.1, c.loop-link.invariant.total, more, item, c.count.ensures);
      small = omega (arith, c.in_ok-total.ensures.0, c.in_ok-total.ensures.1);
    }

pub returns-in_err-total : goal.returns-in_err-total
returns-in_err-total c =
    let i = c.loop-link.link-index in
    let more = length-links-more c.args.links.now i c.link-item.result (omega arith) in
    let item = ap (λ x. length x.entries) c.link-item.is in
    let front = length-links-take c.args.links.now (i + 1) in
    let all = length (entries_of_children (map (λ x. Some x) c.args.links.now)) in
    subst (λ o. SomeIff o (all < 2 ^ 64) all) (sym c.from_residual.ensures)
    (λ bounded. c.in_err-total.ensures (omega (arith, bounded, c.loop-link.invariant.total, more, item, front, c.count.ensures)))

pub returns : goal.returns
returns c =
    let all : length (entries_of_children (map (λ x. Some x) (take c.loop-link.link-index c.args.links.now))) ≡ length (entries_of_children (map (λ x. Some x) c.args.links.now)) =
    ap (λ xs. length (entries_of_children (map (λ x. Some x) xs))) (take_all c.loop-link.link-index c.args.links.now (omega arith)) in
    (omega (arith, c.loop-link.invariant.total, c.loop-link.invariant.small, all), omega (arith, c.loop-link.invariant.total, all))
