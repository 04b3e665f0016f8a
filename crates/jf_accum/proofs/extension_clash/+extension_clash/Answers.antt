use Rattle.std.proofs.Common.{rules, arith, refl, sym, ap, ◌∙◌, ◌<◌, length, take, drop, false}
use Rattle.jf_accum.proofs.TotalLaws.{left-shorter, right-shorter}
use Rattle.jf_accum.proofs.ClashSteps.{cut-count, lists-differ, lists-same}
use Rattle.jf_accum.proofs.ExtensionClashSteps.{all-meet, some-left, two-left, left-length, right-length, left-meet, left-count, left-old, left-new, left-apart, right-meet, right-old_meet, right-count, right-apart}
use Rattle.jf_accum.proofs.extension_clash.+extension_clash.Goals as goal

pub lists_clash-requires-clause-meet : goal.lists_clash-requires-clause-meet
lists_clash-requires-clause-meet t c = all-meet c.args.old_total.now c.args.old.now c.args.list.now c.args.path.now c.if-old-list.true c.requires.old_meets c.requires.meets

pub unreachable-requires : goal.unreachable-requires
unreachable-requires t c = some-left (length c.args.old.now) (length c.args.list.now) _ c.requires.count.0 c.requires.positive c.requires.within c.if-old-list.false c.in_default.ensures.cases c.requires.count.1

pub split_at-requires : goal.split_at-requires
split_at-requires t c =
    let two : 1 < length c.args.list.now = two-left (length c.args.old.now) (length c.args.list.now) c.requires.positive c.requires.within c.if-old-list.false in
    cut-count (length c.args.list.now) c.left_count-k.result two c.left_count-k.ensures

pub parts_clash-requires : goal.parts_clash-requires
parts_clash-requires t c =
    let two : 1 < length c.args.list.now = two-left (length c.args.old.now) (length c.args.list.now) c.requires.positive c.requires.within c.if-old-list.false in
    left-meet c.args.old_total.now c.in-Some.side.now _ _ (length c.args.old.now) c.left_count-k.result c.args.list.now _ _ c.args.path.now c.in-Some.lower.now c.extension_totals-below.result two c.if-old-list.false c.left_count-k.ensures c.if-old-k.true
    c.in-Some.ensures.cases.0 c.extension_totals-below.ensures c.split_at.ensures.front c.split_at.ensures.back refl refl c.requires.meets

pub extension_clash-requires : goal.extension_clash-requires
extension_clash-requires t c =
    let two : 1 < length c.args.list.now = two-left (length c.args.old.now) (length c.args.list.now) c.requires.positive c.requires.within c.if-old-list.false in
    let same = rw c.in_default-2.is at c.in_ok-found.ensures in
    let room = cut-count (length c.args.list.now) c.left_count-k.result two c.left_count-k.ensures in
    let long = left-length c.args.list.now c.split_at.result.0.now c.left_count-k.result room c.split_at.ensures.front in
    let h : length c.split_at.result.0.now < length c.args.list.now = left-shorter _ _ two (c.split_at.ensures.front ∙ ap (λ k. take k c.args.list.now) c.left_count-k.ensures) in
    let lo = c.if-old-k.true in (
      search rules,
      (
        c.requires.positive,
        (
          omega arith,
          (
            (c.requires.count.0, left-count (length c.args.old.now) c.left_count-k.result _ _ c.args.list.now c.split_at.result.0.now c.requires.count.0 two c.left_count-k.ensures c.requires.positive lo c.in-Some.ensures.cases.1 c.requires.count.1 long),
            (
              left-old c.args.old_total.now c.in-Some.side.now (length c.args.old.now) c.left_count-k.result c.args.old.now c.args.list.now c.split_at.result.0.now c.args.path.now c.in-Some.lower.now c.extension_totals-below.result c.if-old-list.false c.left_count-k.ensures lo
                  c.in-Some.ensures.cases.0 c.extension_totals-below.ensures long c.requires.old_meets,
              (
                left-new c.args.old_total.now _ (length c.args.old.now) c.left_count-k.result c.split_at.result.0.now c.in-Some.lower.now c.extension_totals-below.result c.extension_totals-below.ensures long same.0 refl,
                left-apart c.args.old.now c.args.list.now c.split_at.result.0.now c.left_count-k.result c.split_at.ensures.front lo c.requires.apart,
              ),
            ),
          ),
        ),
      ),
    )

pub parts_clash-requires-2 : goal.parts_clash-requires-2
parts_clash-requires-2 t c =
    let two : 1 < length c.args.list.now = two-left (length c.args.old.now) (length c.args.list.now) c.requires.positive c.requires.within c.if-old-list.false in
    right-meet c.args.old_total.now c.in-Some.side.now _ _ (length c.args.old.now) c.left_count-k.result _ _ c.args.list.now _ _ c.args.path.now c.in-Some.lower.now c.extension_totals-below-2.result two c.if-old-list.false c.left_count-k.ensures (omega arith)
    c.in-Some.ensures.cases.0 (right-length c.args.old.now _ _ c.split_at-2.ensures.back) (right-length c.args.list.now _ _ c.split_at.ensures.back) c.extension_totals-below-2.ensures c.split_at.ensures.front c.split_at.ensures.back
    refl refl c.requires.meets

pub parts_clash-requires-3 : goal.parts_clash-requires-3
parts_clash-requires-3 t c =
    let two : 1 < length c.args.list.now = two-left (length c.args.old.now) (length c.args.list.now) c.requires.positive c.requires.within c.if-old-list.false in
    right-old_meet c.args.old_total.now c.in-Some.side.now _ _ (length c.args.list.now) c.left_count-k.result _ _ c.args.old.now _ _ c.args.path.now c.in-Some.lower.now c.extension_totals-below-2.result two c.requires.within c.if-old-list.false c.left_count-k.ensures (omega arith)
    c.in-Some.ensures.cases.0 (right-length c.args.old.now _ _ c.split_at-2.ensures.back) (right-length c.args.list.now _ _ c.split_at.ensures.back) c.extension_totals-below-2.ensures c.split_at-2.ensures.front c.split_at-2.ensures.back
    refl refl c.requires.old_meets

pub lists_clash-requires-then-ne-clause-apart : goal.lists_clash-requires-then-ne-clause-apart
lists_clash-requires-then-ne-clause-apart t c = lists-differ _ _ _ c.ne.ensures c.if-ne.true

pub extension_clash-requires-2 : goal.extension_clash-requires-2
extension_clash-requires-2 t c =
    let two : 1 < length c.args.list.now = two-left (length c.args.old.now) (length c.args.list.now) c.requires.positive c.requires.within c.if-old-list.false in
    let new_same = rw c.in_default-3.is at c.in_ok-found-2.ensures in
    let old_same = rw c.in_default-4.is at c.in_ok-found-3.ensures in
    let a = right-length c.args.old.now _ _ c.split_at-2.ensures.back in
    let b = right-length c.args.list.now _ _ c.split_at.ensures.back in
    let h : length c.split_at.result.1.now < length c.args.list.now = right-shorter _ _ two (c.split_at.ensures.back ∙ ap (λ k. drop k c.args.list.now) c.left_count-k.ensures) in
    let within = c.requires.within in (
      search rules,
      (
        omega arith,
        (
          omega arith,
          (
            (false, right-count (length c.args.old.now) c.left_count-k.result _ _ _ _ c.args.list.now c.requires.count.0 two c.left_count-k.ensures (omega arith) within c.if-old-list.false c.in-Some.ensures.cases.1 c.requires.count.1 a b),
            (
              ap (λ p. p.0) (sym c.extension_totals-below-2.ensures) ∙ old_same.1,
              (
                ap (λ p. p.1) (sym c.extension_totals-below-2.ensures) ∙ new_same.1,
                right-apart c.args.old.now c.args.list.now _ _ _ _ c.left_count-k.result c.split_at-2.ensures.front c.split_at-2.ensures.back c.split_at.ensures.front c.split_at.ensures.back (omega arith) within (lists-same _ _ _ c.ne.ensures c.if-ne.false) c.requires.apart,
              ),
            ),
          ),
        ),
      ),
    )
