use Rattle.std.proofs.Common.{arith, ap, ◌+◌, ◌≤◌, length, take_all}
use Rattle.std.proofs.lemmas.Bool.Decides.{nat_tests}
use Rattle.jf_node.specs.Children.{content, entries_of_children}
use Rattle.jf_node.proofs.ChildLaws.{length-joined-more, length-joined-take}
use Rattle.jf_node.proofs.sixteen.have_several.Goals as goal

pub returns-then-total-ge2 : goal.returns-then-total-ge2
returns-then-total-ge2 c =
    let i = c.loop-link.link-index in
    let links = c.args.links.now in
    let more = length-joined-more links i c.link-item.result (omega arith) in
    let item = ap (λ x. length (content x)) c.link-item.is in
    let large : 2 ≤ length (entries_of_children links) = omega (arith, c.saturating_add-total.ensures, c.if-total-ge2.true, c.count_of.ensures, c.loop-link.invariant.0, more, item, length-joined-take links (i + 1)) in
    grind (arith, nat_tests, large)

pub loop-link-preserved : goal.loop-link-preserved
loop-link-preserved c =
    let i = c.loop-link.link-index in
    let more = length-joined-more c.args.links.now i c.link-item.result (omega arith) in
    let item = ap (λ x. length (content x)) c.link-item.is in
    (omega (arith, c.saturating_add-total.ensures, c.if-total-ge2.false, c.count_of.ensures, c.loop-link.invariant.0, more, item), c.if-total-ge2.false)

pub returns : goal.returns
returns c =
    let all = ap (λ xs. length (entries_of_children xs)) (take_all c.loop-link.link-index c.args.links.now (omega arith)) in
    grind (arith, nat_tests, all, c.loop-link.invariant.0, c.loop-link.invariant.1)
