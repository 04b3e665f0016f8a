use Rattle.std.proofs.Common.{◌≡◌, ◌∷◌, [], ◌++◌, ap, ◌∙◌, arith}
use Rattle.jf_model.specs.Walk.{each_from}
use Rattle.jf_diff.proofs.PlainNodes.{each_more}
use Rattle.jf_diff.proofs.wide.nibbles.Goals as goal

pub loop-n-preserved : goal.loop-n-preserved
loop-n-preserved c = each_more c.loop-n.n (λ m. m ∷ []) c.loop-n.all.items _ c.loop-n.invariant (c.in_ok-push.ensures.items ∙ ap (λ m. c.loop-n.all.items ++ m ∷ []) c.of.ensures)

pub returns : goal.returns
returns c =
    let e : c.loop-n.n ≡ 16 = omega arith in
    c.loop-n.invariant ∙ ap (λ k. each_from k 0 (λ m. m ∷ [])) e
