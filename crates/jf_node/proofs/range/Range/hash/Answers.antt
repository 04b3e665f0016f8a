use Rattle.std.proofs.Common.{sym, ◌∙◌, ap, subst}
use Rattle.jf_hash.specs.Roots.{part_root}
use Rattle.jf_hash.proofs.RootLaws.{part_root-none}
use Rattle.jf_hash.specs.Ranges.{IsRange}
use Rattle.jf_node.proofs.RangePlaces.{placed, placed_leaf, kept_as, one_hash, node_several, node_range, range_hash_is}
use Rattle.jf_node.proofs.range.Range.hash.Goals as goal

pub range_hash-requires-clause-inner : goal.range_hash-requires-clause-inner
range_hash-requires-clause-inner c = node_several _ _ _ _ (placed _ _ _ _ _ c.self.invariant c.in-Places.is)

pub range_hash-requires-clause-range : goal.range_hash-requires-clause-range
range_hash-requires-clause-range c = subst (IsRange c.in-Places.start) (sym c.width.ensures) (node_range _ _ _ _ (placed _ _ _ _ _ c.self.invariant c.in-Places.is))

pub returns-in-Nowhere : goal.returns-in-Nowhere
returns-in-Nowhere c = c.empty.ensures ∙ sym (ap (λ v. part_root v.depth v.entries) (kept_as _ _ _ _ c.self.view_is c.in-Nowhere.is) ∙ part_root-none _)

pub returns-in-Leaf : goal.returns-in-Leaf
returns-in-Leaf c =
    c.hash.ensures ∙ one_hash _ _ _ (placed_leaf _ _ _ c.self.invariant c.in-Leaf.is).1 ∙ sym (ap (λ v. part_root v.depth v.entries) (kept_as _ _ _ _ c.self.view_is c.in-Leaf.is))

pub returns-in-Places : goal.returns-in-Places
returns-in-Places c =
    c.range_hash.ensures c.in-Places.level c.width.ensures ∙ range_hash_is _ _ _ _ _ _ _ c.self.view_is c.self.invariant c.in-Places.is c.width.ensures
