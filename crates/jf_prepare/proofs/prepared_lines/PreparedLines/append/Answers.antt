use Rattle.std.proofs.Common.{◌≡◌, ◌-◌, length, take, drop}
use Rattle.jf_path.proofs.ListLaws.{take-rest}
use Rattle.jf_prepare.specs.PreparedLines.{sized_texts, AreSizesOf}
use Rattle.jf_prepare.proofs.LineSizes.{AreSizesFrom-appended, left-appended}
use Rattle.jf_prepare.proofs.prepared_lines.PreparedLines.append.Goals as goal

pub invariant_of-self : goal.invariant_of-self
invariant_of-self c =
    let i = c.self.inside in
    let p = c.part.inside in
    let new = c.append_all.new in
    let more : AreSizesOf (take (length c.deref-3.result.now - p.taken) (drop p.taken c.deref-3.result.now)) (take (length c.deref.result.now - p.line_start) (drop p.line_start c.deref.result.now)) (take (length c.deref-2.result.now - p.text_start) (drop p.text_start c.deref-2.result.now)) = rw (take-rest p.taken c.deref-3.result.now, take-rest p.line_start c.deref.result.now, take-rest p.text_start c.deref-2.result.now, c.deref.ensures.value, c.deref-2.ensures.value, c.deref-3.ensures.value) c.part.invariant.3 in
    AreSizesFrom-appended i.taken i.line_start i.text_start i.sizes.items i.lines.items i.texts.items c.self.invariant c.append_all.result new.sizes.items new.lines.items new.texts.items _ _ _ c.append_all.ensures.ok c.append_all.ensures.err more

pub returns-clause-ok : goal.returns-clause-ok
returns-clause-ok c =
    let i = c.self.inside in
    let p = c.part.inside in
    let new = c.append_all.new in
    let more : sized_texts (take (length c.deref-3.result.now - p.taken) (drop p.taken c.deref-3.result.now)) (take (length c.deref.result.now - p.line_start) (drop p.line_start c.deref.result.now)) (take (length c.deref-2.result.now - p.text_start) (drop p.text_start c.deref-2.result.now)) ≡ c.args.part.now = rw (take-rest p.taken c.deref-3.result.now, take-rest p.line_start c.deref.result.now, take-rest p.text_start c.deref-2.result.now, c.deref.ensures.value, c.deref-2.ensures.value, c.deref-3.ensures.value) c.part.view_is in
    left-appended i.taken i.line_start i.text_start i.sizes.items i.lines.items i.texts.items c.self.invariant c.append_all.result new.sizes.items new.lines.items new.texts.items _ _ _ c.append_all.ensures.ok c.args.self.now c.self.view_is _ more
