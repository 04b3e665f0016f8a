-- Each round reads one more node.
use Rattle.std.proofs.Common.{◌+◌, ◌<◌, ◌++◌, ◌∷◌, [], length, arith, ap, ap₂, sym, ◌∙◌, subst, drop, get_or, append_assoc}
use Rattle.std.proofs.lemmas.List.{append-nil, take_more}
use Rattle.std.specs.List.{flat_map, AllByRecursion}
use Rattle.jf_path.specs.Names.{IsName}
use Rattle.jf_path.proofs.ListLaws.{All-by_place}
use Rattle.jf_codec.specs.declared.format.Format.TheVariants as format
use Rattle.jf_codec.specs.Spelling.{IsNode}
use Rattle.jf_payload.specs.Spelling.{fresh_bytes}
use Rattle.jf_standing.proofs.Rounds.{next_at_front, no_node}
use Rattle.jf_diff.proofs.spelled_nodes.SpelledNodes.copy_into.Goals as goal

pub node_in_front-requires : goal.node_in_front-requires
node_in_front-requires c =
    let f = fresh_bytes format.Two in
    let xs = c.args.self.now in
    let i = c.loop.counter in
    let lt : i < length xs = omega (arith, c.loop-test.true, c.self.invariant.counted, ap length c.self.view_is) in
    let is = All-by_place _ xs (subst (AllByRecursion (λ x. IsName x.0 × IsNode format.Two x.1)) c.self.view_is c.self.invariant.valid) i no_node lt in
    (get_or xs i no_node, flat_map f (drop (i + 1) xs) ++ [], is.0, is.1, next_at_front f xs no_node [] i c.loop.rest.now (c.loop.invariant.1 ∙ sym (append-nil _)) lt)

pub loop-preserved : goal.loop-preserved
loop-preserved c =
    let f = fresh_bytes format.Two in
    let xs = c.args.self.now in
    let i = c.loop.counter in
    let lt : i < length xs = omega (arith, c.loop-test.true, c.self.invariant.counted, ap length c.self.view_is) in
    let is = All-by_place _ xs (subst (AllByRecursion (λ x. IsName x.0 × IsNode format.Two x.1)) c.self.view_is c.self.invariant.valid) i no_node lt in
    let told = c.in_ok-node.ensures (get_or xs i no_node) (flat_map f (drop (i + 1) xs) ++ []) is.0 is.1 (next_at_front f xs no_node [] i c.loop.rest.now (c.loop.invariant.1 ∙ sym (append-nil _)) lt) in (
      c.in_ok-push.ensures.items ∙ ap₂ (λ ys y. ys ++ y ∷ []) c.loop.invariant.0 told.0 ∙ append_assoc c.args.out.now.items _ _ ∙ ap (λ ys. c.args.out.now.items ++ ys) (sym (take_more xs i no_node lt)),
      told.1 ∙ append-nil _,
    )
