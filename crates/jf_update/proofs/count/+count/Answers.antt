use Rattle.std.proofs.Common.{arith, rules, ◌≡◌, ◌∙◌, ◌<◌, ◌+◌, ◌-◌, length, sym, ap, subst, take, drop}
use Rattle.jf_model.specs.Parts.{IsPartUnder, IsPieceEnd}
use Rattle.jf_walk.proofs.PartLaws.{stepped, deeper}
use Rattle.jf_update.specs.Restored.{part_nodes}
use Rattle.jf_update.proofs.BuildLaws.{same_piece, end_in_rest}
use Rattle.jf_update.proofs.RestoreLaws.{piece_restored}
use Rattle.jf_update.proofs.CountLaws.{IsCounting, counting_start, counting_more, counting_done, count-none, count-one, counted_one}
use Rattle.jf_update.proofs.count.+count.Goals as goal

pub count_part-returns-in-empty : goal.count_part-returns-in-empty
count_part-returns-in-empty t c = count-none c.args.depth c.args.entries.now c.in-empty.len_below

pub count_part-returns-in-len1 : goal.count_part-returns-in-len1
count_part-returns-in-len1 t c = count-one c.args.depth c.args.entries.now c.in-len1.len_at_least c.in-len1.len_below

pub count_part-count_under-requires : goal.count_part-count_under-requires
count_part-count_under-requires t c =
    let deep : c.args.depth < 64 = deeper c.args.depth c.requires.part.0 c.args.entries.now c.requires.part.1 c.in_default.len_at_least in
    (search rules, (deep, c.requires.part))

pub count_part-returns-in_ok-below-in_default : goal.count_part-returns-in_ok-below-in_default
count_part-returns-in_ok-below-in_default t c =
    let deep : c.args.depth < 64 = deeper c.args.depth c.requires.part.0 c.args.entries.now c.requires.part.1 c.in_default.len_at_least in
    counted_one c.args.depth c.in_ok-below-in_default.below c.args.entries.now c.sum_of.result deep c.in_default.len_at_least c.in_ok-below-in_default.ensures c.sum_of.ensures

pub count_under-loop-n-init : goal.count_under-loop-n-init
count_under-loop-n-init t c = counting_start c.args.depth c.args.entries.now

pub count_under-count_part-requires : goal.count_under-count_part-requires
count_under-count_part-requires t c =
    let es = c.args.entries.now in
    let path = c.requires.part.0 in
    let part = c.requires.part.1 in
    let cut = sym (same_piece c.loop-n.start c.piece_end.result es) in
    let end : IsPieceEnd c.args.depth c.loop-n.n c.piece_end.result (drop c.loop-n.start es) =
    subst (λ n. IsPieceEnd c.args.depth n c.piece_end.result (drop c.loop-n.start es)) c.of.ensures (end_in_rest _ _ _ c.loop-n.start es c.piece_end.ensures) in
    let piece = subst (IsPartUnder (c.args.depth + 1) (stepped c.args.depth c.loop-n.n path)) cut (piece_restored c.args.depth c.loop-n.n c.loop-n.start c.piece_end.result path es part c.loop-n.invariant.rest end) in
    (search rules, (omega arith, (_, piece)))

pub count_under-loop-n-preserved : goal.count_under-loop-n-preserved
count_under-loop-n-preserved t c =
    let es = c.args.entries.now in
    let end : IsPieceEnd c.args.depth c.loop-n.n c.piece_end.result (drop c.loop-n.start es) =
    subst (λ n. IsPieceEnd c.args.depth n c.piece_end.result (drop c.loop-n.start es)) c.of.ensures (end_in_rest _ _ _ c.loop-n.start es c.piece_end.ensures) in
    let own : c.in_ok-child.child ≡ length (part_nodes (c.args.depth + 1) (take ((c.loop-n.start + c.piece_end.result) - c.loop-n.start) (drop c.loop-n.start es))) = c.in_ok-child.ensures in
    counting_more c.args.depth c.loop-n.n c.loop-n.start c.piece_end.result c.loop-n.count c.in_ok-child.child c.in_ok-count.count c.requires.part.0 es c.requires.part.1 c.loop-n.invariant end
    (own ∙ ap (λ xs. length (part_nodes (c.args.depth + 1) xs)) (same_piece c.loop-n.start c.piece_end.result es)) c.in_ok-count.ensures

pub count_under-returns : goal.count_under-returns
count_under-returns t c =
    let e : c.loop-n.n ≡ 16 = omega arith in
    counting_done c.args.depth c.loop-n.start c.loop-n.count c.args.entries.now (subst (λ n. IsCounting c.args.depth n c.loop-n.start c.loop-n.count c.args.entries.now) e c.loop-n.invariant)
