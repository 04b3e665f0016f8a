use Rattle.std.proofs.Common.{◌≡◌, ◌∙◌, ap, sym, arith, length, get_or, None, false, take_all}
use Rattle.std.specs.Option.{option_copied}
use Rattle.std.proofs.lemmas.List.{drop_all}
use Rattle.jf_node.specs.Children.{content, entries_of_children}
use Rattle.jf_node.proofs.ChildLaws.{length-joined-more}
use Rattle.jf_node.proofs.CountLaws.{length-from, same_child}
use Rattle.jf_node.proofs.link.Link.recount.Goals as goal

pub count_after_change-requires-clause-part : goal.count_after_change-requires-clause-part
count_after_change-requires-clause-part c =
    let n = c.loop-n.n in
    let old = c.in-Inner.old.now in
    let before : option_copied c.get-in-loop-n.result ≡ get_or old n None = c.get-in-loop-n.ensures ∙ ap (λ k. get_or old k None) c.of-n.ensures in
    omega (arith, c.loop-n.invariant, length-from old n (omega (arith, c.in-Inner.ensures.shows.children.long, c.loop-n-test.true)), ap (λ x. length (content x)) before)

pub count_after_change-requires-clause-unchanged : goal.count_after_change-requires-clause-unchanged
count_after_change-requires-clause-unchanged c off =
    let n = c.loop-n.n in
    let old = c.in-Inner.old.now in
    let new = c.args.children.now in
    let before : option_copied c.get-in-loop-n.result ≡ get_or old n None = c.get-in-loop-n.ensures ∙ ap (λ k. get_or old k None) c.of-n.ensures in
    let after : option_copied c.get-in-loop-n-2.result ≡ get_or new n None = c.get-in-loop-n-2.ensures ∙ ap (λ k. get_or new k None) c.of-n.ensures in
    let clear : get_or c.args.changed n false ≡ false = ap (λ k. get_or c.args.changed k false) (sym (c.get.ensures.value ∙ c.of-n.ensures)) ∙ sym c.has-change.ensures ∙ off in
    ap content before
    ∙ same_child c.args.self.now old new c.args.changed n c.in-Inner.ensures.shows c.requires.children c.know.ensures.long c.requires.elsewhere c.loop-n-test.true clear
    ∙ sym (ap content after)

pub loop-n-preserved : goal.loop-n-preserved
loop-n-preserved c =
    let n = c.loop-n.n in
    let old = c.in-Inner.old.now in
    let new = c.args.children.now in
    let before : option_copied c.get-in-loop-n.result ≡ get_or old n None = c.get-in-loop-n.ensures ∙ ap (λ k. get_or old k None) c.of-n.ensures in
    let after : option_copied c.get-in-loop-n-2.result ≡ get_or new n None = c.get-in-loop-n-2.ensures ∙ ap (λ k. get_or new k None) c.of-n.ensures in
    let replaced = c.in_ok-total-in-Inner.ensures in
    let behind = length-from old n (omega (arith, c.in-Inner.ensures.shows.children.long, c.loop-n-test.true)) in
    let front = length-joined-more new n None (omega (arith, c.know.ensures.long, c.loop-n-test.true)) in
    omega (arith, c.loop-n.invariant, replaced, behind, front, ap (λ x. length (content x)) before, ap (λ x. length (content x)) after)

pub returns : goal.returns
returns c =
    let n = c.loop-n.n in
    let all = ap (λ xs. length (entries_of_children xs)) (take_all n c.args.children.now (omega (arith, c.know.ensures.long, c.loop-n-test.false))) in
    let none = ap (λ xs. length (entries_of_children xs)) (drop_all n c.in-Inner.old.now (omega (arith, c.in-Inner.ensures.shows.children.long, c.loop-n-test.false))) in
    omega (arith, c.loop-n.invariant, all, none)
