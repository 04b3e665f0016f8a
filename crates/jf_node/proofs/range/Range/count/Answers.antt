use Rattle.std.proofs.Common.{◌∙◌}
use Rattle.jf_node.proofs.RangePlaces.{places_end, some_fit, count_is}
use Rattle.jf_node.proofs.range.Range.count.Goals as goal

pub count_among-requires : goal.count_among-requires
count_among-requires c = places_end _ _ _ _ _ _ c.self.invariant c.in-Places.is c.width.ensures

pub unreachable-requires-in-None : goal.unreachable-requires-in-None
unreachable-requires-in-None c = c.in-None.ensures (some_fit _ _ c.in-Places.start c.width.result c.in-Inner.ensures.shows c.in-Inner.ensures.link)

pub returns-in-Some : goal.returns-in-Some
returns-in-Some c =
    c.in-Some.ensures.1 ∙ count_is _ _ _ _ _ _ _ _ c.self.view_is c.in-Places.is c.width.ensures c.in-Inner.ensures.shows
