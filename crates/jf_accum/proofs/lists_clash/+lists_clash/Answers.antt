use Rattle.std.proofs.Common.{rules, ap, refl, sym, ◌∙◌, ◌<◌, length, take, drop}
use Rattle.jf_accum.proofs.TotalLaws.{left-shorter, right-shorter}
use Rattle.jf_accum.proofs.ClashSteps.{short-meet, cut-count, cut-long, parts-meet, parts-apart, rest-long, lists-differ, lists-same}
use Rattle.jf_accum.proofs.lists_clash.+lists_clash.Goals as goal

pub single_clash-requires-clause-meet : goal.single_clash-requires-clause-meet
single_clash-requires-clause-meet t c = short-meet c.args.first.now c.args.second.now c.requires.long c.if-first-lt2.true c.requires.apart c.requires.meet

pub split_at-requires : goal.split_at-requires
split_at-requires t c = cut-count (length c.args.first.now) c.left_count-k.result c.if-first-lt2.false c.left_count-k.ensures

pub parts_clash-requires : goal.parts_clash-requires
parts_clash-requires t c =
    parts-meet c.args.first.now c.args.second.now _ _ _ _ c.left_count-k.result _ _ _ _ c.requires.long c.if-first-lt2.false c.left_count-k.ensures c.split_at.ensures.front c.split_at.ensures.back c.split_at-2.ensures.front c.split_at-2.ensures.back
    c.plain_total-left_total.ensures c.plain_total-right_total.ensures refl refl c.requires.meet

pub lists_clash-requires : goal.lists_clash-requires
lists_clash-requires t c =
    let same = rw c.in_default.is at c.in_ok-found.ensures in
    let h : length c.split_at.result.0.now < length c.args.first.now = left-shorter _ _ c.if-first-lt2.false (c.split_at.ensures.front ∙ ap (λ k. take k c.args.first.now) c.left_count-k.ensures) in (
      search rules,
      (
        cut-long c.args.first.now c.args.second.now _ _ _ c.requires.long c.split_at.ensures.front c.split_at-2.ensures.front,
        (sym c.plain_total-left_total.ensures ∙ same.0, lists-differ _ _ _ c.ne.ensures c.if-ne.true),
      ),
    )

pub lists_clash-requires-2 : goal.lists_clash-requires-2
lists_clash-requires-2 t c =
    let same = rw c.in_default.is at c.in_ok-found.ensures in
    let h : length c.split_at.result.1.now < length c.args.first.now = right-shorter _ _ c.if-first-lt2.false (c.split_at.ensures.back ∙ ap (λ k. drop k c.args.first.now) c.left_count-k.ensures) in (
      search rules,
      (
        rest-long c.args.first.now c.args.second.now _ _ _ c.requires.long c.split_at.ensures.back c.split_at-2.ensures.back,
        (
          sym c.plain_total-right_total.ensures ∙ same.1,
          parts-apart c.args.first.now c.args.second.now _ _ _ _ c.left_count-k.result c.split_at.ensures.front c.split_at.ensures.back c.split_at-2.ensures.front c.split_at-2.ensures.back c.requires.apart (lists-same _ _ _ c.ne.ensures c.if-ne.false),
        ),
      ),
    )
