use Rattle.std.proofs.Common.{sym, ◌∙◌, ap, cond, None}
use Rattle.std.specs.FinMap.{find}
use Rattle.jf_path.specs.Keys.{key_cmp}
use Rattle.jf_node.proofs.RangePlaces.{find_places, places_end}
use Rattle.jf_node.proofs.range.Range.get.Goals as goal

pub lies_in-requires : goal.lies_in-requires
lies_in-requires c = places_end _ _ _ _ _ _ c.self.invariant c.in-Places.is c.width.ensures

pub returns-then-lies_in : goal.returns-then-lies_in
returns-then-lies_in c =
    c.get-then-lies_in.ensures
    ∙ sym (find_places _ _ _ _ _ _ _ _ _ _ _ c.self.view_is c.in-Places.is c.depth.ensures (c.get-n.ensures.value ∙ c.nibble.ensures) c.width.ensures c.lies_in.ensures ∙ ap (λ b. cond b (find key_cmp c.args.key.now c.in-Places.link.now.entries) None) c.if-lies_in.true)

pub returns-else-lies_in : goal.returns-else-lies_in
returns-else-lies_in c =
    sym (find_places _ _ _ _ _ _ _ _ _ _ _ c.self.view_is c.in-Places.is c.depth.ensures (c.get-n.ensures.value ∙ c.nibble.ensures) c.width.ensures c.lies_in.ensures ∙ ap (λ b. cond b (find key_cmp c.args.key.now c.in-Places.link.now.entries) None) c.if-lies_in.false)
