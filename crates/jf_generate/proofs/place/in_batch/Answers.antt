use Rattle.std.proofs.Common.{◌≡◌, ◌<◌, arith, refl, ap, ◌∙◌}
use Rattle.jf_generate.specs.Places.{to_come}
use Rattle.jf_generate.proofs.ScriptLaws.{drawn_lines-none, drawn_after-none, drawn_lines-more, drawn_after-more}
use Rattle.jf_generate.proofs.place.in_batch.Goals as goal

pub returns-then-place-eq0-clause-lines : goal.returns-then-place-eq0-clause-lines
returns-then-place-eq0-clause-lines c =
    let none : c.args.place.left ≡ 0 = search in
    ap to_come c.at.ensures ∙ rw (none, drawn_lines-none c.args.place.x, drawn_after-none c.args.place.x) refl

pub returns-clause-lines : goal.returns-clause-lines
returns-clause-lines c =
    let some : 0 < c.args.place.left = omega arith in
    rw (c.next_drawn-x.ensures, drawn_lines-more c.args.place.left c.args.place.x some, drawn_after-more c.args.place.left c.args.place.x some) refl
