use Rattle.std.proofs.Common.{sym, ◌∙◌, refl}
use Rattle.jf_node.specs.declared.found.Found.TheVariants as found
use Rattle.jf_node.proofs.RangePlaces.{one_none, one_some, found_there, several_places, among_is, range_ends}
use Rattle.jf_node.proofs.range.Range.among.Goals as goal

pub at-requires : goal.at-requires
at-requires c = range_ends c.args.level c.args.start _ c.requires.level c.requires.aligned c.requires.within c.width.ensures

pub returns-in-None : goal.returns-in-None
returns-in-None c = c.empty.ensures ∙ one_none c.args.link.now _ c.args.start c.args.level _ c.in-Inner.ensures.shows c.requires.within c.if-level-eq0.true c.depth.ensures c.in-None.ensures

pub returns-in-Some : goal.returns-in-Some
returns-in-Some c = c.of.ensures ∙ one_some c.args.link.now _ _ c.args.start c.args.level c.in-Inner.ensures.shows c.requires.within c.if-level-eq0.true c.in-Some.ensures

pub returns-in-Nothing : goal.returns-in-Nothing
returns-in-Nothing c =
    c.empty-in-Nothing.ensures
    ∙ among_is c.args.link.now c.args.start c.args.level _ _ c.depth.ensures (sym (found_there c.args.link.now _ c.args.start c.args.level _ found.Nothing c.in-Inner.ensures.shows c.width.ensures c.in-Nothing.ensures))

pub returns-in-Leaf-at : goal.returns-in-Leaf-at
returns-in-Leaf-at c =
    let there = found_there c.args.link.now _ c.args.start c.args.level _ (found.Leaf c.in-Leaf-at.child) c.in-Inner.ensures.shows c.width.ensures c.in-Leaf-at.ensures in
    c.leaf.ensures ∙ among_is c.args.link.now c.args.start c.args.level _ _ c.depth.ensures (sym there.0)

pub places-requires : goal.places-requires
places-requires c =
    several_places c.args.link.now c.args.start c.args.level _ _ c.know.ensures c.requires.inner c.requires.level c.if-level-eq0.false c.requires.aligned c.requires.within c.depth.ensures refl
    (found_there c.args.link.now _ c.args.start c.args.level _ found.More c.in-Inner.ensures.shows c.width.ensures c.in-More.ensures)
