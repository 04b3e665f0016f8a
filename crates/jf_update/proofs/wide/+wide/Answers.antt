use Rattle.std.proofs.Common.{arith, ◌+◌, ◌-◌, length, sym, ap, ◌∙◌, subst, IfOk}
use Rattle.std.specs.List.{AllZip}
use Rattle.std.specs.Option.{option_copied}
use Rattle.jf_join.proofs.AnswerLaws.{AnswersEach-pairs}
use Rattle.jf_node.specs.Children.{content, entries_of_children}
use Rattle.jf_diff.specs.OptionalNodes.{IsAtDepth}
use Rattle.jf_diff.proofs.ChildPlaces.{child_placed, child_part}
use Rattle.jf_update.specs.Wide.{IsPieceOutcome}
use Rattle.jf_update.proofs.RemainderLaws.{hashes_cut, hashes_long}
use Rattle.jf_update.proofs.NodeUpdateLaws.{outcome_at, ok_outcome, inner_outcome, inner_agree, inner_kept}
use Rattle.jf_update.proofs.WideLaws.{parts_of_piece}
use Rattle.jf_update.proofs.wide.+wide.Goals as goal

pub update_piece-hashes_in-part_hashes-requires-clause-within : goal.update_piece-hashes_in-part_hashes-requires-clause-within
update_piece-hashes_in-part_hashes-requires-clause-within g t c = omega (arith, c.requires.piece.within, hashes_long c.args.entries.now c.args.hashes.now c.requires.hashed)

pub update_piece-update_wide-requires-clause-placed : goal.update_piece-update_wide-requires-clause-placed
update_piece-update_wide-requires-clause-placed g t c κs within =
    subst (IsAtDepth (c.args.depth + 1)) (sym c.get-child.ensures) (child_placed c.args.depth c.args.piece.now.nibble c.args.children.now c.know.ensures.long c.requires.children)

pub update_piece-update_wide-requires-clause-parts : goal.update_piece-update_wide-requires-clause-parts
update_piece-update_wide-requires-clause-parts g t c κs within =
    parts_of_piece c.args.depth c.args.piece.now.nibble (entries_of_children c.args.children.now) _ c.args.entries.now _ c.requires.parts c.requires.piece.exact
    (ap content c.get-child.ensures ∙ sym (child_part c.args.depth c.args.piece.now.nibble c.args.children.now c.know.ensures.long c.requires.children))

pub update_piece-update_wide-requires-clause-hashed : goal.update_piece-update_wide-requires-clause-hashed
update_piece-update_wide-requires-clause-hashed g t c κs within = hashes_cut c.args.piece.now.start (c.args.piece.now.end - c.args.piece.now.start) c.args.entries.now c.args.hashes.now _ c.requires.hashed c.hashes_in-part_hashes.ensures

pub update_pieces-place_all-requires-clause-outcomes : goal.update_pieces-place_all-requires-clause-outcomes
update_pieces-place_all-requires-clause-outcomes g t c =
    let olds = c.args.children.now in
    let bs = c.args.entries.now in
    subst (λ ps. AllZip (λ p r. IfOk r (IsPieceOutcome c.args.depth c.args.version olds bs p)) ps c.in_ok-outcomes.outcomes.items) (c.deref.ensures.value ∙ sym c.deref-2.ensures.value)
    (AnswersEach-pairs c.in_ok-outcomes.ensures (λ p r. IfOk r (IsPieceOutcome c.args.depth c.args.version olds bs p)) (λ p r h. subst (λ x. IfOk r (IsPieceOutcome c.args.depth c.args.version olds bs x)) h.shows h.says.met))

pub update_wide-rebuild-requires-clause-part : goal.update_wide-rebuild-requires-clause-part
update_wide-rebuild-requires-clause-part g t c =
    inner_agree c.args.depth c.args.version (option_copied c.args.old) c.in-Some.link.now c.in-Inner.children.now c.in-Some-2.made c.args.entries.now (ap option_copied c.in-Some.is) c.requires.placed c.in-Inner.ensures.shows c.requires.parts
    (outcome_at c.args.depth c.args.version c.in-Inner.children.now c.args.entries.now c.in_ok-update_pieces-in-Inner.field-0 c.in-Some-2.made c.in-Some-2.is c.in_ok-update_pieces-in-Inner.ensures)

pub update_wide-rebuild-requires-clause-kept : goal.update_wide-rebuild-requires-clause-kept
update_wide-rebuild-requires-clause-kept g t c =
    inner_kept c.args.depth c.args.version (option_copied c.args.old) c.in-Some.link.now c.in-Inner.children.now c.in-Some-2.made c.args.entries.now (ap option_copied c.in-Some.is) c.requires.placed c.in-Inner.ensures.shows
    (outcome_at c.args.depth c.args.version c.in-Inner.children.now c.args.entries.now c.in_ok-update_pieces-in-Inner.field-0 c.in-Some-2.made c.in-Some-2.is c.in_ok-update_pieces-in-Inner.ensures)

pub update_wide-returns-in-None : goal.update_wide-returns-in-None
update_wide-returns-in-None g t c = ok_outcome c.args.depth c.args.version (option_copied c.args.old) _ c.args.entries.now c.update_leaf_wide.result (ap (λ o. content (option_copied o)) c.in-None.is) (omega arith) c.update_leaf_wide.ensures

pub update_wide-returns-in-Leaf : goal.update_wide-returns-in-Leaf
update_wide-returns-in-Leaf g t c =
    ok_outcome c.args.depth c.args.version (option_copied c.args.old) _ c.args.entries.now c.update_leaf_wide-in-Leaf.result (ap (λ o. content (option_copied o)) c.in-Some.is) (omega (arith, ap length c.in-Leaf.ensures.shows.entries)) c.update_leaf_wide-in-Leaf.ensures

pub update_wide-returns-in_ok-top-in-Some-2 : goal.update_wide-returns-in_ok-top-in-Some-2
update_wide-returns-in_ok-top-in-Some-2 g t c =
    inner_outcome c.args.depth c.args.version (option_copied c.args.old) c.in-Some.link.now c.in_ok-top-in-Some-2.top c.in-Inner.children.now c.in-Some-2.made c.args.entries.now (ap option_copied c.in-Some.is) c.requires.placed c.in-Inner.ensures.shows c.requires.parts
    (outcome_at c.args.depth c.args.version c.in-Inner.children.now c.args.entries.now c.in_ok-update_pieces-in-Inner.field-0 c.in-Some-2.made c.in-Some-2.is c.in_ok-update_pieces-in-Inner.ensures) c.in_ok-top-in-Some-2.ensures
