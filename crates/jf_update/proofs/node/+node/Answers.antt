use Rattle.std.proofs.Common.{arith, rules, ◌≡◌, ◌+◌, ◌-◌, None, get_or, sym, ap, ◌∙◌, subst, take, drop, eqb-true, length, length-drop}
use Rattle.std.specs.Option.{option_copied}
use Rattle.jf_node.specs.Children.{content}
use Rattle.jf_model.specs.Parts.{IsPieceEnd}
use Rattle.jf_diff.specs.OptionalNodes.{IsAtDepth}
use Rattle.jf_diff.proofs.ChildPlaces.{child_placed}
use Rattle.jf_update.specs.Outcomes.{IsOutcome, IsOutcomePlaced}
use Rattle.jf_path.proofs.ListLaws.{take-rest}
use Rattle.jf_update.proofs.BuildLaws.{end_in_rest, same_piece}
use Rattle.jf_update.proofs.RemainderLaws.{hashes_cut, hashes_long}
use Rattle.jf_update.proofs.NodeUpdateLaws.{IsUpdating, updating_start, updating_more, updating_done, none_changed, some_changed, child_parts, empty_applied, outcome_at, ok_outcome, inner_outcome, inner_agree, inner_kept}
use Rattle.jf_update.proofs.node.+node.Goals as goal

pub update_children-loop-n-init : goal.update_children-loop-n-init
update_children-loop-n-init t c = updating_start c.args.depth c.args.version c.args.children.now _ c.args.entries.now _ c.know.ensures.long c.requires.children c.in_ok-share.ensures c.none.ensures

pub update_children-update_node-requires : goal.update_children-update_node-requires
update_children-update_node-requires t c =
    let olds = c.args.children.now in
    let end : IsPieceEnd c.args.depth c.loop-n.n c.piece_end.result (drop c.loop-n.start c.args.entries.now) =
    subst (λ n. IsPieceEnd c.args.depth n c.piece_end.result (drop c.loop-n.start c.args.entries.now)) c.of-nibble.ensures (end_in_rest _ _ _ c.loop-n.start c.args.entries.now c.piece_end.ensures) in (
      search rules,
      (
        omega arith,
        (
          subst (IsAtDepth (c.args.depth + 1)) (sym c.get.ensures) (child_placed c.args.depth c.of-nibble.result olds c.know.ensures.long c.requires.children),
          (
            child_parts c.args.depth c.args.version c.loop-n.n c.loop-n.start c.piece_end.result olds c.loop-n.made.children (option_copied c.get.result) c.args.entries.now c.loop-n.made.changed c.know.ensures.long c.requires.children c.requires.parts c.loop-n.invariant end
                (c.get.ensures ∙ ap (λ n. get_or olds n None) c.of-nibble.ensures),
            hashes_cut c.loop-n.start _ c.args.entries.now c.args.hashes.now _ c.requires.hashed c.hashes_in.ensures,
          ),
        ),
      ),
    )

pub update_children-hashes_in-requires-clause-within : goal.update_children-hashes_in-requires-clause-within
update_children-hashes_in-requires-clause-within t c =
    omega (arith, c.loop-n.invariant.within, c.piece_end.ensures.within, length-drop c.loop-n.start c.args.entries.now, ap length (take-rest c.loop-n.start c.args.entries.now), hashes_long c.args.entries.now c.args.hashes.now c.requires.hashed)

pub update_children-loop-n-preserved : goal.update_children-loop-n-preserved
update_children-loop-n-preserved t c =
    let olds = c.args.children.now in
    let end : IsPieceEnd c.args.depth c.loop-n.n c.piece_end.result (drop c.loop-n.start c.args.entries.now) =
    subst (λ n. IsPieceEnd c.args.depth n c.piece_end.result (drop c.loop-n.start c.args.entries.now)) c.of-nibble.ensures (end_in_rest _ _ _ c.loop-n.start c.args.entries.now c.piece_end.ensures) in
    let piece = take ((c.loop-n.start + c.piece_end.result) - c.loop-n.start) (drop c.loop-n.start c.args.entries.now) in
    let out : IsOutcome (c.args.depth + 1) c.args.version (option_copied c.get.result) piece c.in_ok-outcome.outcome = c.in_ok-outcome.ensures in
    let put : IsOutcomePlaced c.loop-n.made c.loop-n.n c.in_ok-outcome.outcome c.place.new.made = subst (λ n. IsOutcomePlaced c.loop-n.made n c.in_ok-outcome.outcome c.place.new.made) c.of-nibble.ensures c.place.ensures in
    updating_more c.args.depth c.args.version c.loop-n.n c.loop-n.start c.piece_end.result c.requires.parts.path olds c.loop-n.made c.place.new.made c.in_ok-outcome.outcome c.args.entries.now piece c.know.ensures.long c.requires.children c.requires.parts.entries c.requires.parts.batch (omega arith) c.loop-n.invariant end
    (same_piece c.loop-n.start c.piece_end.result c.args.entries.now)
    (subst (λ o. IsOutcome (c.args.depth + 1) c.args.version o piece c.in_ok-outcome.outcome) (c.get.ensures ∙ ap (λ n. get_or olds n None) c.of-nibble.ensures) out)
    put

pub update_children-returns-then-has_changed : goal.update_children-returns-then-has_changed
update_children-returns-then-has_changed t c =
    let e : c.loop-n.n ≡ 16 = omega arith in
    let w = subst (λ n. IsUpdating c.args.depth c.args.version n c.loop-n.start c.args.children.now c.args.entries.now c.loop-n.made.children c.loop-n.made.changed) e c.loop-n.invariant in (
      updating_done _ _ _ _ _ _ _ w,
      some_changed c.args.depth c.args.version c.loop-n.start c.requires.parts.path c.args.children.now c.loop-n.made.children c.args.entries.now c.loop-n.made.changed c.know.ensures.long c.requires.children c.requires.parts.entries c.requires.parts.batch w (sym c.has_changed.ensures ∙ c.if-has_changed.true),
    )

pub update_children-returns-else-has_changed : goal.update_children-returns-else-has_changed
update_children-returns-else-has_changed t c =
    let e : c.loop-n.n ≡ 16 = omega arith in
    let w = subst (λ n. IsUpdating c.args.depth c.args.version n c.loop-n.start c.args.children.now c.args.entries.now c.loop-n.made.children c.loop-n.made.changed) e c.loop-n.invariant in
    none_changed c.args.depth c.args.version c.loop-n.start c.requires.parts.path c.args.children.now c.loop-n.made.children c.args.entries.now c.loop-n.made.changed c.know.ensures.long c.requires.children c.requires.parts.entries c.requires.parts.batch w (sym c.has_changed.ensures ∙ c.if-has_changed.false)

pub update_node-returns-then-is_empty : goal.update_node-returns-then-is_empty
update_node-returns-then-is_empty t c = empty_applied _ c.args.entries.now (eqb-true _ _ (sym c.is_empty.ensures ∙ c.if-is_empty.true))

pub update_node-rebuild-requires-clause-part : goal.update_node-rebuild-requires-clause-part
update_node-rebuild-requires-clause-part t c =
    inner_agree c.args.depth c.args.version (option_copied c.args.old) c.in-Some.link.now c.in-Inner.children.now c.in-Some-2.made c.args.entries.now (ap option_copied c.in-Some.is) c.requires.placed c.in-Inner.ensures.shows c.requires.parts
    (outcome_at c.args.depth c.args.version c.in-Inner.children.now c.args.entries.now c.in_ok-update_children-in-Inner.field-0 c.in-Some-2.made c.in-Some-2.is c.in_ok-update_children-in-Inner.ensures)

pub update_node-rebuild-requires-clause-kept : goal.update_node-rebuild-requires-clause-kept
update_node-rebuild-requires-clause-kept t c =
    inner_kept c.args.depth c.args.version (option_copied c.args.old) c.in-Some.link.now c.in-Inner.children.now c.in-Some-2.made c.args.entries.now (ap option_copied c.in-Some.is) c.requires.placed c.in-Inner.ensures.shows
    (outcome_at c.args.depth c.args.version c.in-Inner.children.now c.args.entries.now c.in_ok-update_children-in-Inner.field-0 c.in-Some-2.made c.in-Some-2.is c.in_ok-update_children-in-Inner.ensures)

pub update_node-returns-in-None : goal.update_node-returns-in-None
update_node-returns-in-None t c = ok_outcome c.args.depth c.args.version (option_copied c.args.old) _ c.args.entries.now c.update_leaf.result (ap (λ o. content (option_copied o)) c.in-None.is) (omega arith) c.update_leaf.ensures

pub update_node-returns-in-Leaf : goal.update_node-returns-in-Leaf
update_node-returns-in-Leaf t c =
    ok_outcome c.args.depth c.args.version (option_copied c.args.old) _ c.args.entries.now c.update_leaf-in-Leaf.result (ap (λ o. content (option_copied o)) c.in-Some.is) (omega (arith, ap length c.in-Leaf.ensures.shows.entries)) c.update_leaf-in-Leaf.ensures

pub update_node-returns-in_ok-top-in-Some-2 : goal.update_node-returns-in_ok-top-in-Some-2
update_node-returns-in_ok-top-in-Some-2 t c =
    inner_outcome c.args.depth c.args.version (option_copied c.args.old) c.in-Some.link.now c.in_ok-top-in-Some-2.top c.in-Inner.children.now c.in-Some-2.made c.args.entries.now (ap option_copied c.in-Some.is) c.requires.placed c.in-Inner.ensures.shows c.requires.parts
    (outcome_at c.args.depth c.args.version c.in-Inner.children.now c.args.entries.now c.in_ok-update_children-in-Inner.field-0 c.in-Some-2.made c.in-Some-2.is c.in_ok-update_children-in-Inner.ensures) c.in_ok-top-in-Some-2.ensures
