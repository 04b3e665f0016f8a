use Rattle.std.proofs.Common.{arith, rules, ◌≡◌, ◌<◌, ◌+◌, ◌-◌, length, length-drop, sym, ap, ◌∙◌, subst, take, drop, set}
use Rattle.std.specs.Option.{option_copied}
use Rattle.jf_hash.specs.Slots.{with_nibble}
use Rattle.jf_model.specs.Changes.{entries_after_batch}
use Rattle.jf_model.specs.Parts.{IsPieceEnd}
use Rattle.jf_node.specs.Children.{content}
use Rattle.jf_node.specs.LinkFacts.{BeginAlike}
use Rattle.jf_path.proofs.ListLaws.{take-rest}
use Rattle.jf_walk.proofs.PartLaws.{deeper}
use Rattle.jf_walk.proofs.PartChanges.{IsPartUnder-applied}
use Rattle.jf_update.specs.Made.{IsBuilt}
use Rattle.jf_update.proofs.BuildLaws.{built_nothing, built_kept, built_put, joined_built, part_agrees, building_start, building_more, building_done, IsBuilding, piece_parts, piece_applied, few_at, built_inner, end_in_rest}
use Rattle.jf_update.proofs.RemainderLaws.{hashes_cut, hashes_long}
use Rattle.jf_update.proofs.leaf.+build.Goals as goal

pub build-build_children-requires : goal.build-build_children-requires
build-build_children-requires t c =
    let p = c.requires.parts in
    let own = content (option_copied c.args.own) in
    let deep : c.args.depth < 64 = deeper c.args.depth p.path (entries_after_batch own c.args.entries.now) (IsPartUnder-applied c.args.depth p.path own c.args.entries.now p.entries p.batch) c.in-Several.ensures in
    (search rules, (deep, (c.requires.lone, (p, c.requires.hashed))))

pub build-inner-requires-clause-depth : goal.build-inner-requires-clause-depth
build-inner-requires-clause-depth t c =
    let p = c.requires.parts in
    let own = content (option_copied c.args.own) in
    deeper c.args.depth p.path (entries_after_batch own c.args.entries.now) (IsPartUnder-applied c.args.depth p.path own c.args.entries.now p.entries p.batch) c.in-Several.ensures

pub build-inner-requires-clause-plural : goal.build-inner-requires-clause-plural
build-inner-requires-clause-plural t c =
    let p = c.requires.parts in
    let own = content (option_copied c.args.own) in
    omega (arith, c.in-Several.ensures, ap length (joined_built c.args.depth c.args.version p.path (entries_after_batch own c.args.entries.now) c.in_ok-children-in-Several.children (IsPartUnder-applied c.args.depth p.path own c.args.entries.now p.entries p.batch) c.in_ok-children-in-Several.ensures))

pub build-inner-requires-clause-alike : goal.build-inner-requires-clause-alike
build-inner-requires-clause-alike t c =
    let p = c.requires.parts in
    let own = content (option_copied c.args.own) in
    let part = IsPartUnder-applied c.args.depth p.path own c.args.entries.now p.entries p.batch in
    subst (BeginAlike c.args.depth) (sym (joined_built c.args.depth c.args.version p.path (entries_after_batch own c.args.entries.now) c.in_ok-children-in-Several.children part c.in_ok-children-in-Several.ensures)) (part_agrees (entries_after_batch own c.args.entries.now) part)

pub build-returns-in-Nothing : goal.build-returns-in-Nothing
build-returns-in-Nothing t c = built_nothing c.args.depth c.args.version _ c.in-Nothing.ensures

pub build-returns-in_ok-link-in-Old : goal.build-returns-in_ok-link-in-Old
build-returns-in_ok-link-in-Old t c =
    built_kept c.args.depth c.args.version _ c.in-Old.link.now c.in_ok-link-in-Old.link (c.in-Old.ensures.0 ∙ sym c.in-Old.ensures.1) (ap length c.in-Old.ensures.1 ∙ c.in-Old.ensures.2) c.in_ok-link-in-Old.ensures

pub build-returns-in_ok-link-in-Put : goal.build-returns-in_ok-link-in-Put
build-returns-in_ok-link-in-Put t c =
    built_put c.args.depth c.args.version _ c.in-Put.key.now c.in-Put.value.now c.in_ok-link-in-Put.link c.in-Put.ensures.0 c.in_ok-link-in-Put.ensures

pub build-returns-in_ok-link-in-Several : goal.build-returns-in_ok-link-in-Several
build-returns-in_ok-link-in-Several t c =
    let p = c.requires.parts in
    let own = content (option_copied c.args.own) in
    built_inner c.args.depth c.args.version p.path (entries_after_batch own c.args.entries.now) _ c.in_ok-children-in-Several.children c.in-Several.ensures (IsPartUnder-applied c.args.depth p.path own c.args.entries.now p.entries p.batch) c.in_ok-children-in-Several.ensures c.in_ok-link-in-Several.ensures

pub build_children-loop-n-init : goal.build_children-loop-n-init
build_children-loop-n-init t c = building_start c.args.depth c.args.version (entries_after_batch (content (option_copied c.args.own)) c.args.entries.now) c.args.entries.now _ c.none-children.ensures

pub build_children-hashes_in-requires-clause-within : goal.build_children-hashes_in-requires-clause-within
build_children-hashes_in-requires-clause-within t c =
    omega (arith, c.loop-n.invariant.within, c.piece_end.ensures.within, length-drop c.loop-n.start c.args.entries.now, ap length (take-rest c.loop-n.start c.args.entries.now), hashes_long c.args.entries.now c.args.hashes.now c.requires.hashed)

pub build_children-build-requires : goal.build_children-build-requires
build_children-build-requires t c =
    let bs = c.args.entries.now in
    let own = content (option_copied c.args.own) in
    let end : IsPieceEnd c.args.depth c.loop-n.n c.piece_end.result (drop c.loop-n.start bs) =
    subst (λ n. IsPieceEnd c.args.depth n c.piece_end.result (drop c.loop-n.start bs)) c.of-nibble.ensures (end_in_rest _ _ _ c.loop-n.start bs c.piece_end.ensures) in
    let is : content (option_copied c.own_at.result) ≡ with_nibble c.args.depth c.loop-n.n own = subst (λ n. content (option_copied c.own_at.result) ≡ with_nibble c.args.depth n own) c.of-nibble.ensures c.own_at.ensures in (
      search rules,
      (
        omega arith,
        (
          few_at c.args.depth c.loop-n.n own _ c.requires.lone is,
          (
            piece_parts c.args.depth c.loop-n.n c.loop-n.start c.piece_end.result own _ bs c.requires.parts c.loop-n.invariant.rest end is,
            hashes_cut c.loop-n.start _ bs c.args.hashes.now _ c.requires.hashed c.hashes_in.ensures,
          ),
        ),
      ),
    )

pub build_children-loop-n-preserved : goal.build_children-loop-n-preserved
build_children-loop-n-preserved t c =
    let bs = c.args.entries.now in
    let own = content (option_copied c.args.own) in
    let es = entries_after_batch own bs in
    let end : IsPieceEnd c.args.depth c.loop-n.n c.piece_end.result (drop c.loop-n.start bs) =
    subst (λ n. IsPieceEnd c.args.depth n c.piece_end.result (drop c.loop-n.start bs)) c.of-nibble.ensures (end_in_rest _ _ _ c.loop-n.start bs c.piece_end.ensures) in
    let is : content (option_copied c.own_at.result) ≡ with_nibble c.args.depth c.loop-n.n own = subst (λ n. content (option_copied c.own_at.result) ≡ with_nibble c.args.depth n own) c.of-nibble.ensures c.own_at.ensures in
    let made : IsBuilt (c.args.depth + 1) c.args.version (entries_after_batch (content (option_copied c.own_at.result)) (take ((c.loop-n.start + c.piece_end.result) - c.loop-n.start) (drop c.loop-n.start bs))) c.in_ok-build.field-0 = c.in_ok-build.ensures in
    let more : IsBuilding c.args.depth c.args.version (c.loop-n.n + 1) (c.loop-n.start + c.piece_end.result) es bs (set c.loop-n.children c.loop-n.n c.in_ok-build.field-0) =
    building_more c.args.depth c.args.version c.loop-n.n c.loop-n.start c.piece_end.result c.requires.parts.path es bs c.loop-n.children c.in_ok-build.field-0 c.requires.parts.batch (omega arith) c.loop-n.invariant end
    (subst (λ xs. IsBuilt (c.args.depth + 1) c.args.version xs c.in_ok-build.field-0) (piece_applied c.args.depth c.loop-n.n c.loop-n.start c.piece_end.result own _ bs c.requires.parts c.loop-n.invariant.rest end is) made) in
    subst (IsBuilding c.args.depth c.args.version (c.loop-n.n + 1) (c.loop-n.start + c.piece_end.result) es bs) (sym c.set.ensures)
    (subst (λ n. IsBuilding c.args.depth c.args.version (c.loop-n.n + 1) (c.loop-n.start + c.piece_end.result) es bs (set c.loop-n.children n c.in_ok-build.field-0)) (sym c.of-nibble.ensures) more)

pub build_children-returns : goal.build_children-returns
build_children-returns t c =
    let e : c.loop-n.n ≡ 16 = omega arith in
    let es = entries_after_batch (content (option_copied c.args.own)) c.args.entries.now in
    building_done c.args.depth c.args.version c.loop-n.start es c.args.entries.now c.loop-n.children (subst (λ n. IsBuilding c.args.depth c.args.version n c.loop-n.start es c.args.entries.now c.loop-n.children) e c.loop-n.invariant)
