use Rattle.std.proofs.Common.{◌≡◌, arith}
use Rattle.std.specs.Prelude.{Some, slice_get}
use Rattle.jf_prepare.proofs.LineSizes.{found_there, now_first}
use Rattle.jf_prepare.proofs.prepared_lines.PreparedLines.first.Goals as goal

pub returns-clause-found : goal.returns-clause-found
returns-clause-found c =
    let i = c.self.inside in
    let s = c.in_ok-line_bytes.field-0.now in
    let found = c.in_ok-line_bytes.ensures.lookup in
    let there : slice_get i.sizes.items i.taken ≡ Some s = found_there c.deref.result.now i.sizes.items i.taken s c.deref.ensures.value found.3.0 (found.3.1 s) in
    rw (c.deref-2.ensures.value, c.deref-3.ensures.value)
    (now_first i.taken i.line_start i.text_start i.sizes.items i.lines.items i.texts.items c.self.invariant s there c.args.self.now c.self.view_is _ _ (omega arith) (omega arith))
