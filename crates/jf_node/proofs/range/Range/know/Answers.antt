use Rattle.jf_node.proofs.RangeKnown.{known_nowhere, known_leaf, known_places}
use Rattle.jf_node.proofs.range.Range.know.Goals as goal

pub returns-in-Nowhere : goal.returns-in-Nowhere
returns-in-Nowhere c = known_nowhere _ _ _ c.self.view_is c.self.invariant c.in-Nowhere.is

pub returns-in-Leaf : goal.returns-in-Leaf
returns-in-Leaf c = known_leaf _ _ _ _ c.self.view_is c.self.invariant c.in-Leaf.is c.know.ensures

pub returns-in-Places : goal.returns-in-Places
returns-in-Places c = known_places _ _ _ _ _ _ c.self.view_is c.self.invariant c.in-Places.is c.know-in-Places.ensures
