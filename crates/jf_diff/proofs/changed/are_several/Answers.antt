use Rattle.std.proofs.Common.{◌≡◌, ◌+◌, ◌∙◌, sym, subst, true≢false, arith}
use Rattle.std.specs.Option.{option_copied}
use Rattle.jf_node.specs.Children.{content}
use Rattle.jf_diff.specs.Changed.{ChangesBelow}
use Rattle.jf_diff.proofs.ChangedLaws.{IsFoundBelow, found-first, found-same, found-all}
use Rattle.jf_diff.proofs.changed.are_several.Goals as goal
use Rattle.jf_diff.proofs.changed.are_several.Goals.{then-is_changed+else-found, else-is_changed}

pub loop-n-preserved : goal.loop-n-preserved
loop-n-preserved c =
    let es = content (option_copied c.args.old) in
    let ys = content (option_copied c.args.top) in
    let n = c.loop-n.n in
    elim c.if-is_changed.branch [
      | then-is_changed+else-found w ↦
          subst (IsFoundBelow es ys (n + 1)) (sym w.found-is)
          (found-first es ys n (subst (IsFoundBelow es ys n) w.if-found.false c.loop-n.invariant) (subst (ChangesBelow es ys) c.of.ensures (c.is_changed.ensures.0 w.if-is_changed.true)))
      | else-is_changed w ↦
          subst (IsFoundBelow es ys (n + 1)) (sym w.found-is)
          (found-same es ys n c.loop-n.found c.loop-n.invariant (λ h. true≢false (sym (c.is_changed.ensures.1 (subst (ChangesBelow es ys) (sym c.of.ensures) h)) ∙ w.if-is_changed.false)))
    ]

pub returns : goal.returns
returns c = (
  λ h. absurd (true≢false (sym h)),
  λ h. absurd (found-all (content (option_copied c.args.old)) (content (option_copied c.args.top)) c.loop-n.n c.loop-n.found (let e : c.loop-n.n ≡ 16 = omega arith in e) c.loop-n.invariant h),
)
