use Rattle.jf_prepare.proofs.LineSizes.{AreSizesOf-one, sized_texts-one, AreSizesFrom-appended, left-appended}
use Rattle.jf_prepare.proofs.prepared_lines.PreparedLines.push.Goals as goal

pub invariant_of-self : goal.invariant_of-self
invariant_of-self c =
    let i = c.self.inside in
    let new = c.append_all.new in
    AreSizesFrom-appended i.taken i.line_start i.text_start i.sizes.items i.lines.items i.texts.items c.self.invariant c.append_all.result new.sizes.items new.lines.items new.texts.items _ _ _ c.append_all.ensures.ok c.append_all.ensures.err
    (AreSizesOf-one c.args.line.now c.args.text.now)

pub returns-clause-ok : goal.returns-clause-ok
returns-clause-ok c =
    let i = c.self.inside in
    let new = c.append_all.new in
    left-appended i.taken i.line_start i.text_start i.sizes.items i.lines.items i.texts.items c.self.invariant c.append_all.result new.sizes.items new.lines.items new.texts.items _ _ _ c.append_all.ensures.ok c.args.self.now c.self.view_is
    _ (sized_texts-one c.args.line.now c.args.text.now)
