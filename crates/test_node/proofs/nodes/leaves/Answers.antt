use Rattle.std.proofs.Common.{◌++◌, set, refl, sym, ap, ap₂, ◌∙◌, subst, arith, Some}
use Rattle.jf_path.proofs.NibbleLaws.{nibble-small}
use Rattle.jf_node.specs.Children.{entries_of_children, FitsAt}
use Rattle.jf_node.specs.LinkValue.{LinkValue}
use Rattle.test_node.proofs.TwoChildren.{joined-two, two_fit}
use Rattle.test_node.proofs.nodes.leaves.Goals as goal

pub returns-clause-fit : goal.returns-clause-fit
returns-clause-fit c =
    let m = c.nibble.result in
    let n = c.nibble-2.result in
    let links = c.set-2.ensures ∙ ap (λ xs. set xs n (Some c.in_ok-b.b)) (c.set.ensures ∙ ap (λ xs. set xs m (Some c.in_ok-a.a)) c.none-children.ensures) in
    let a = subst (λ x. FitsAt c.args.depth m (Some x)) (sym c.in_ok-a.ensures) (refl, (sym c.nibble.ensures, tt)) in
    let b = subst (λ x. FitsAt c.args.depth n (Some x)) (sym c.in_ok-b.ensures) (refl, (sym c.nibble-2.ensures, tt)) in
    two_fit c.args.depth m n (Some c.in_ok-a.a) (Some c.in_ok-b.b) c.set-2.new.self a b links

pub returns-clause-union : goal.returns-clause-union
returns-clause-union c =
    let m = c.nibble.result in
    let n = c.nibble-2.result in
    let links = c.set-2.ensures ∙ ap (λ xs. set xs n (Some c.in_ok-b.b)) (c.set.ensures ∙ ap (λ xs. set xs m (Some c.in_ok-a.a)) c.none-children.ensures) in
    ap entries_of_children links
    ∙ joined-two 16 m n (Some c.in_ok-a.a) (Some c.in_ok-b.b) (omega (arith, c.nibble.ensures, c.nibble-2.ensures, c.requires.parts)) (omega (arith, c.nibble-2.ensures, nibble-small c.args.high.now c.args.depth))
    ∙ ap₂ (λ (x y : LinkValue). x.entries ++ y.entries) c.in_ok-a.ensures c.in_ok-b.ensures
