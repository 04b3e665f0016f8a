use Rattle.std.proofs.Common.{◌*◌, ◌∙◌, ap, ap₂}
use Rattle.jf_node.proofs.RangePlaces.{all_of_node, in_all}
use Rattle.jf_node.proofs.range.Range.of.Goals as goal

pub places-requires : goal.places-requires
places-requires c = all_of_node c.args.link.now _ c.know.ensures (λ one. c.if-count-eq1.false (c.count.ensures ∙ one)) (ap (λ d. 4 * d) c.depth-depth.ensures)

pub returns-else-count-eq1 : goal.returns-else-count-eq1
returns-else-count-eq1 c = c.places.ensures ∙ ap₂ (λ d es. record { depth = 4 * d; entries = es }) c.depth-depth.ensures (in_all c.args.link.now.depth c.args.link.now.entries)
