use Rattle.std.proofs.Common.{◌≡◌, ◌+◌, ◌∙◌, sym, arith, refl, ap}
use Rattle.jf_generate.specs.Places.{to_come}
use Rattle.jf_generate.proofs.ScriptLaws.{generated_from-none, generated_from-more}
use Rattle.jf_generate.proofs.place.after_batch.Goals as goal

pub returns-then-place-eq0-clause-lines : goal.returns-then-place-eq0-clause-lines
returns-then-place-eq0-clause-lines c =
    let none : c.args.place.later ≡ 0 = search in
    let p = c.args.place in
    ap to_come c.at.ensures ∙ rw (none, generated_from-none (p.batch + 1) p.size p.x) refl

pub returns-clause-lines : goal.returns-clause-lines
returns-clause-lines c =
    let p = c.args.place in
    c.in_batch.ensures.lines ∙ sym (generated_from-more p.later (p.batch + 1) p.size p.x (omega arith))
