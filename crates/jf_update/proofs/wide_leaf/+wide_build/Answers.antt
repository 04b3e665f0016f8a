use Rattle.std.proofs.Common.{arith, ◌-◌, length, sym, ap, ◌∙◌, subst, IfOk}
use Rattle.std.proofs.lemmas.Result.{IfOk-weaker}
use Rattle.std.specs.List.{AllZip}
use Rattle.std.specs.Option.{option_copied}
use Rattle.jf_join.proofs.AnswerLaws.{AnswersEach-pairs}
use Rattle.jf_model.specs.Changes.{entries_after_batch}
use Rattle.jf_node.specs.Children.{content}
use Rattle.jf_node.specs.LinkFacts.{BeginAlike}
use Rattle.jf_walk.proofs.PartLaws.{deeper}
use Rattle.jf_walk.proofs.PartChanges.{IsPartUnder-applied}
use Rattle.jf_update.specs.Wide.{IsPieceBuilt}
use Rattle.jf_update.proofs.BuildLaws.{built_nothing, built_kept, built_put, built_inner, few_at, joined_built, part_agrees}
use Rattle.jf_update.proofs.RemainderLaws.{hashes_cut, hashes_long}
use Rattle.jf_update.proofs.WideLaws.{parts_of_piece}
use Rattle.jf_update.proofs.WideBuildLaws.{built_piece}
use Rattle.jf_update.proofs.wide_leaf.+wide_build.Goals as goal

pub build_piece-hashes_in-part_hashes-requires-clause-within : goal.build_piece-hashes_in-part_hashes-requires-clause-within
build_piece-hashes_in-part_hashes-requires-clause-within g t c = omega (arith, c.requires.piece.within, hashes_long c.args.entries.now c.args.hashes.now c.requires.hashed)

pub build_piece-build_wide-requires-clause-lone : goal.build_piece-build_wide-requires-clause-lone
build_piece-build_wide-requires-clause-lone g t c κs within = few_at c.args.depth c.args.piece.now.nibble (content (option_copied c.args.own)) _ c.requires.lone c.own_at.ensures

pub build_piece-build_wide-requires-clause-parts : goal.build_piece-build_wide-requires-clause-parts
build_piece-build_wide-requires-clause-parts g t c κs within =
    parts_of_piece c.args.depth c.args.piece.now.nibble (content (option_copied c.args.own)) _ c.args.entries.now _ c.requires.parts c.requires.piece.exact c.own_at.ensures

pub build_piece-build_wide-requires-clause-hashed : goal.build_piece-build_wide-requires-clause-hashed
build_piece-build_wide-requires-clause-hashed g t c κs within = hashes_cut c.args.piece.now.start (c.args.piece.now.end - c.args.piece.now.start) c.args.entries.now c.args.hashes.now _ c.requires.hashed c.hashes_in-part_hashes.ensures

pub build_piece-returns : goal.build_piece-returns
build_piece-returns g t c =
    IfOk-weaker c.build_wide.result _ (IsPieceBuilt c.args.depth c.args.version (entries_after_batch (content (option_copied c.args.own)) c.args.entries.now) c.args.piece.now)
    (λ y made. built_piece c.args.depth c.args.version (content (option_copied c.args.own)) _ c.args.entries.now c.args.piece.now y c.requires.parts.entries.sorted c.requires.piece c.own_at.ensures made) c.build_wide.ensures

pub build_pieces-place_built-requires-clause-built : goal.build_pieces-place_built-requires-clause-built
build_pieces-place_built-requires-clause-built g t c =
    let now = entries_after_batch (content (option_copied c.args.own)) c.args.entries.now in
    subst (λ ps. AllZip (λ p r. IfOk r (IsPieceBuilt c.args.depth c.args.version now p)) ps c.in_ok-built.built.items) (c.deref.ensures.value ∙ sym c.deref-2.ensures.value)
    (AnswersEach-pairs c.in_ok-built.ensures (λ p r. IfOk r (IsPieceBuilt c.args.depth c.args.version now p)) (λ p r h. subst (λ x. IfOk r (IsPieceBuilt c.args.depth c.args.version now x)) h.shows h.says.met))

pub build_wide-build_pieces-requires-clause-depth : goal.build_wide-build_pieces-requires-clause-depth
build_wide-build_pieces-requires-clause-depth g t c κs within =
    let p = c.requires.parts in
    let own = content (option_copied c.args.own) in
    deeper c.args.depth p.path (entries_after_batch own c.args.entries.now) (IsPartUnder-applied c.args.depth p.path own c.args.entries.now p.entries p.batch) c.in-Several.ensures

pub build_wide-inner-requires-clause-depth : goal.build_wide-inner-requires-clause-depth
build_wide-inner-requires-clause-depth g t c =
    let p = c.requires.parts in
    let own = content (option_copied c.args.own) in
    deeper c.args.depth p.path (entries_after_batch own c.args.entries.now) (IsPartUnder-applied c.args.depth p.path own c.args.entries.now p.entries p.batch) c.in-Several.ensures

pub build_wide-inner-requires-clause-plural : goal.build_wide-inner-requires-clause-plural
build_wide-inner-requires-clause-plural g t c =
    let p = c.requires.parts in
    let own = content (option_copied c.args.own) in
    omega (arith, c.in-Several.ensures, ap length (joined_built c.args.depth c.args.version p.path (entries_after_batch own c.args.entries.now) c.in_ok-children-in-Several.children (IsPartUnder-applied c.args.depth p.path own c.args.entries.now p.entries p.batch) c.in_ok-children-in-Several.ensures))

pub build_wide-inner-requires-clause-alike : goal.build_wide-inner-requires-clause-alike
build_wide-inner-requires-clause-alike g t c =
    let p = c.requires.parts in
    let own = content (option_copied c.args.own) in
    let part = IsPartUnder-applied c.args.depth p.path own c.args.entries.now p.entries p.batch in
    subst (BeginAlike c.args.depth) (sym (joined_built c.args.depth c.args.version p.path (entries_after_batch own c.args.entries.now) c.in_ok-children-in-Several.children part c.in_ok-children-in-Several.ensures)) (part_agrees (entries_after_batch own c.args.entries.now) part)

pub build_wide-returns-in-Nothing : goal.build_wide-returns-in-Nothing
build_wide-returns-in-Nothing g t c = built_nothing c.args.depth c.args.version _ c.in-Nothing.ensures

pub build_wide-returns-in_ok-link-in-Old : goal.build_wide-returns-in_ok-link-in-Old
build_wide-returns-in_ok-link-in-Old g t c =
    built_kept c.args.depth c.args.version _ c.in-Old.link.now c.in_ok-link-in-Old.link (c.in-Old.ensures.0 ∙ sym c.in-Old.ensures.1) (ap length c.in-Old.ensures.1 ∙ c.in-Old.ensures.2) c.in_ok-link-in-Old.ensures

pub build_wide-returns-in_ok-link-in-Put : goal.build_wide-returns-in_ok-link-in-Put
build_wide-returns-in_ok-link-in-Put g t c =
    built_put c.args.depth c.args.version _ c.in-Put.key.now c.in-Put.value.now c.in_ok-link-in-Put.link c.in-Put.ensures.0 c.in_ok-link-in-Put.ensures

pub build_wide-returns-in_ok-link-in-Several : goal.build_wide-returns-in_ok-link-in-Several
build_wide-returns-in_ok-link-in-Several g t c =
    let p = c.requires.parts in
    let own = content (option_copied c.args.own) in
    built_inner c.args.depth c.args.version p.path (entries_after_batch own c.args.entries.now) _ c.in_ok-children-in-Several.children c.in-Several.ensures (IsPartUnder-applied c.args.depth p.path own c.args.entries.now p.entries p.batch) c.in_ok-children-in-Several.ensures c.in_ok-link-in-Several.ensures
