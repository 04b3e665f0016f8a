use Rattle.std.proofs.Common.{arith, rules, ◌≡◌, ◌<◌, ◌+◌, ◌-◌, length, sym, ap, subst, take, drop, set, Err}
use Rattle.jf_node.specs.LinkFacts.{BeginAlike}
use Rattle.jf_model.specs.Parts.{IsPartUnder, IsPieceEnd}
use Rattle.jf_walk.proofs.PartLaws.{stepped, deeper}
use Rattle.jf_update.specs.Restored.{AreShortEntries, IsRestoredPart, AreRestored, part_nodes, nodes_under}
use Rattle.jf_update.proofs.BuildLaws.{part_agrees, same_piece, end_in_rest}
use Rattle.jf_update.proofs.RestoreLaws.{IsRestoring, restoring_start, restoring_more, restoring_done, restoring_short, restored_none, restored_leaf, restored_inner, joined_restored, part_short, under_short, piece_restored, piece_short, piece_hashes}
use Rattle.jf_update.proofs.restore.+restored_snapshot.Goals as goal

pub restored_part-returns-in-empty-clause-restored : goal.restored_part-returns-in-empty-clause-restored
restored_part-returns-in-empty-clause-restored t c = restored_none c.args.depth c.args.taken.now c.args.entries.now c.args.versions.now c.in-empty.len_below

pub restored_part-returns-in_err-version-in-len1-clause-refused : goal.restored_part-returns-in_err-version-in-len1-clause-refused
restored_part-returns-in_err-version-in-len1-clause-refused t c is =
    part_short c.args.depth c.args.taken.now c.args.entries.now c.args.versions.now c.in-len1.len_at_least (c.in_err-version-in-len1.ensures.refused (ap (λ f. Err f) (sym (rw is at c.from_residual.ensures.1))))

pub restored_part-returns-in_ok-link-in-len1-clause-restored : goal.restored_part-returns-in_ok-link-in-len1-clause-restored
restored_part-returns-in_ok-link-in-len1-clause-restored t c =
    restored_leaf c.args.depth c.args.taken.now c.take_version.new.taken c.in_ok-version-in-len1.version c.args.entries.now c.args.versions.now c.in_ok-link-in-len1.link _ _ c.in-len1.len_at_least c.in-len1.len_below
    c.in_ok-version-in-len1.ensures.taken.0 c.in_ok-version-in-len1.ensures.taken.1 c.in_ok-version-in-len1.ensures.taken.2 c.in_ok-link-in-len1.ensures

pub restored_part-returns-in_err-version-in_default-clause-refused : goal.restored_part-returns-in_err-version-in_default-clause-refused
restored_part-returns-in_err-version-in_default-clause-refused t c is =
    part_short c.args.depth c.args.taken.now c.args.entries.now c.args.versions.now (omega arith) (c.in_err-version-in_default.ensures.refused (ap (λ f. Err f) (sym (rw is at c.from_residual-in_err-version-in_default.ensures.1))))

pub restored_part-restored_children-requires : goal.restored_part-restored_children-requires
restored_part-restored_children-requires t c =
    let deep : c.args.depth < 64 = deeper c.args.depth c.requires.part.0 c.args.entries.now c.requires.part.1 c.in_default.len_at_least in
    (search rules, (deep, (c.requires.part, (c.requires.short, (c.requires.hashed, omega (arith, c.in_ok-version-in_default.ensures.taken.0, c.in_ok-version-in_default.ensures.taken.2))))))

pub restored_part-returns-in_err-children-in_default-clause-refused : goal.restored_part-returns-in_err-children-in_default-clause-refused
restored_part-returns-in_err-children-in_default-clause-refused t c is =
    let deep : c.args.depth < 64 = deeper c.args.depth c.requires.part.0 c.args.entries.now c.requires.part.1 c.in_default.len_at_least in
    let few = c.in_err-children-in_default.ensures.refused (ap (λ f. Err f) (sym (rw is at c.from_residual-in_err-children-in_default.ensures.1))) in
    under_short c.args.depth c.args.taken.now c.args.entries.now c.args.versions.now deep c.in_default.len_at_least (subst (λ from. length c.args.versions.now < from + length (nodes_under c.args.depth c.args.entries.now)) c.in_ok-version-in_default.ensures.taken.2 few)

pub restored_part-inner-requires-clause-depth : goal.restored_part-inner-requires-clause-depth
restored_part-inner-requires-clause-depth t c = deeper c.args.depth c.requires.part.0 c.args.entries.now c.requires.part.1 c.in_default.len_at_least

pub restored_part-inner-requires-clause-plural : goal.restored_part-inner-requires-clause-plural
restored_part-inner-requires-clause-plural t c =
    omega (arith, c.in_default.len_at_least, ap length (joined_restored c.args.depth _ _ c.requires.part.0 c.args.entries.now c.args.versions.now c.in_ok-children-in_default.children c.requires.part.1 c.in_ok-children-in_default.ensures.restored))

pub restored_part-inner-requires-clause-alike : goal.restored_part-inner-requires-clause-alike
restored_part-inner-requires-clause-alike t c =
    subst (BeginAlike c.args.depth) (sym (joined_restored c.args.depth _ _ c.requires.part.0 c.args.entries.now c.args.versions.now c.in_ok-children-in_default.children c.requires.part.1 c.in_ok-children-in_default.ensures.restored)) (part_agrees c.args.entries.now c.requires.part.1)

pub restored_part-returns-in_ok-link-in_default-clause-restored : goal.restored_part-returns-in_ok-link-in_default-clause-restored
restored_part-returns-in_ok-link-in_default-clause-restored t c =
    let taken = c.in_ok-version-in_default.ensures.taken in
    let deep : c.args.depth < 64 = deeper c.args.depth c.requires.part.0 c.args.entries.now c.requires.part.1 c.in_default.len_at_least in
    restored_inner c.args.depth c.args.taken.now c.restored_children.new.taken c.in_ok-version-in_default.version c.requires.part.0 c.args.entries.now c.args.versions.now c.in_ok-children-in_default.children c.in_ok-link-in_default.link c.requires.part.1 c.in_default.len_at_least deep taken.0 taken.1
    (subst (λ from. AreRestored c.args.depth c.args.entries.now c.args.versions.now from c.restored_children.new.taken c.in_ok-children-in_default.children) taken.2 c.in_ok-children-in_default.ensures.restored) c.in_ok-link-in_default.ensures

pub restored_children-loop-n-init : goal.restored_children-loop-n-init
restored_children-loop-n-init t c = restoring_start c.args.depth c.args.taken.now c.args.entries.now c.args.versions.now _ c.requires.within c.none-children.ensures

pub restored_children-restored_part-requires : goal.restored_children-restored_part-requires
restored_children-restored_part-requires t c =
    let es = c.args.entries.now in
    let path = c.requires.part.0 in
    let part = c.requires.part.1 in
    let rest = c.loop-n.invariant.rest in
    let cut = sym (same_piece c.loop-n.start c.piece_end.result es) in
    let end : IsPieceEnd c.args.depth c.loop-n.n c.piece_end.result (drop c.loop-n.start es) =
    subst (λ n. IsPieceEnd c.args.depth n c.piece_end.result (drop c.loop-n.start es)) c.of-nibble.ensures (end_in_rest _ _ _ c.loop-n.start es c.piece_end.ensures) in
    let piece = subst (IsPartUnder (c.args.depth + 1) (stepped c.args.depth c.loop-n.n path)) cut (piece_restored c.args.depth c.loop-n.n c.loop-n.start c.piece_end.result path es part rest end) in
    let short = subst AreShortEntries cut (piece_short c.args.depth c.loop-n.n c.loop-n.start c.piece_end.result path es part c.requires.short rest end) in
    (search rules, (omega arith, ((_, piece), (short, piece_hashes _ c.loop-n.start es c.args.hashes.now c.requires.hashed))))

pub restored_children-returns-in_err-child-clause-refused : goal.restored_children-returns-in_err-child-clause-refused
restored_children-returns-in_err-child-clause-refused t c is =
    let es = c.args.entries.now in
    let end : IsPieceEnd c.args.depth c.loop-n.n c.piece_end.result (drop c.loop-n.start es) =
    subst (λ n. IsPieceEnd c.args.depth n c.piece_end.result (drop c.loop-n.start es)) c.of-nibble.ensures (end_in_rest _ _ _ c.loop-n.start es c.piece_end.ensures) in
    let few : length c.args.versions.now < c.loop-n.taken + length (part_nodes (c.args.depth + 1) (take ((c.loop-n.start + c.piece_end.result) - c.loop-n.start) (drop c.loop-n.start es))) =
    c.in_err-child.ensures.refused (ap (λ f. Err f) (sym (rw is at c.from_residual.ensures.1))) in
    restoring_short c.args.depth c.loop-n.n c.loop-n.start c.piece_end.result c.args.taken.now c.loop-n.taken c.requires.part.0 es c.args.versions.now c.loop-n.children c.requires.part.1 (omega arith) c.loop-n.invariant end
    (subst (λ xs. length c.args.versions.now < c.loop-n.taken + length (part_nodes (c.args.depth + 1) xs)) (same_piece c.loop-n.start c.piece_end.result es) few)

pub restored_children-loop-n-preserved : goal.restored_children-loop-n-preserved
restored_children-loop-n-preserved t c =
    let es = c.args.entries.now in
    let end : IsPieceEnd c.args.depth c.loop-n.n c.piece_end.result (drop c.loop-n.start es) =
    subst (λ n. IsPieceEnd c.args.depth n c.piece_end.result (drop c.loop-n.start es)) c.of-nibble.ensures (end_in_rest _ _ _ c.loop-n.start es c.piece_end.ensures) in
    let made : IsRestoredPart (c.args.depth + 1) (take ((c.loop-n.start + c.piece_end.result) - c.loop-n.start) (drop c.loop-n.start es)) c.args.versions.now c.loop-n.taken c.restored_part.new.taken c.in_ok-child.child = c.in_ok-child.ensures.restored in
    let more : IsRestoring c.args.depth (c.loop-n.n + 1) (c.loop-n.start + c.piece_end.result) c.args.taken.now c.restored_part.new.taken es c.args.versions.now (set c.loop-n.children c.loop-n.n c.in_ok-child.child) =
    restoring_more c.args.depth c.loop-n.n c.loop-n.start c.piece_end.result c.args.taken.now c.loop-n.taken c.restored_part.new.taken c.requires.part.0 es c.args.versions.now c.loop-n.children c.in_ok-child.child c.requires.part.1 (omega arith) c.loop-n.invariant end
    (subst (λ xs. IsRestoredPart (c.args.depth + 1) xs c.args.versions.now c.loop-n.taken c.restored_part.new.taken c.in_ok-child.child) (same_piece c.loop-n.start c.piece_end.result es) made) in
    subst (IsRestoring c.args.depth (c.loop-n.n + 1) (c.loop-n.start + c.piece_end.result) c.args.taken.now c.restored_part.new.taken es c.args.versions.now) (sym c.set.ensures)
    (subst (λ n. IsRestoring c.args.depth (c.loop-n.n + 1) (c.loop-n.start + c.piece_end.result) c.args.taken.now c.restored_part.new.taken es c.args.versions.now (set c.loop-n.children n c.in_ok-child.child)) (sym c.of-nibble.ensures) more)

pub restored_children-returns-clause-restored : goal.restored_children-returns-clause-restored
restored_children-returns-clause-restored t c =
    let e : c.loop-n.n ≡ 16 = omega arith in
    restoring_done c.args.depth c.loop-n.start c.args.taken.now c.loop-n.taken c.args.entries.now c.args.versions.now c.loop-n.children
    (subst (λ n. IsRestoring c.args.depth n c.loop-n.start c.args.taken.now c.loop-n.taken c.args.entries.now c.args.versions.now c.loop-n.children) e c.loop-n.invariant)
