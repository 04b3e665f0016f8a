use Rattle.std.proofs.Common.{◌≡◌, rules}
use Rattle.std.specs.Prelude.{Some, slice_get}
use Rattle.jf_prepare.proofs.LineSizes.{found_there, first_within, AreSizesFrom-rest, now_rest}
use Rattle.jf_prepare.proofs.prepared_lines.PreparedLines.drop_first.Goals as goal

pub overflow_add-self-in-Some : goal.overflow_add-self-in-Some
overflow_add-self-in-Some c =
    let i = c.self.inside in
    let s = c.in-Some.field-0.now in
    let found = c.in-Some.ensures.lookup in
    let there : slice_get i.sizes.items i.taken ≡ Some s = found_there c.deref.result.now i.sizes.items i.taken s c.deref.ensures.value found.3.0 (found.3.1 s) in
    let within = first_within i.taken i.line_start i.text_start i.sizes.items i.lines.items i.texts.items c.self.invariant s there in
    let fits = c.self.ranges in
    search (rules, within.0, fits)

pub overflow_add-self-in-Some-2 : goal.overflow_add-self-in-Some-2
overflow_add-self-in-Some-2 c =
    let i = c.self.inside in
    let s = c.in-Some.field-0.now in
    let found = c.in-Some.ensures.lookup in
    let there : slice_get i.sizes.items i.taken ≡ Some s = found_there c.deref.result.now i.sizes.items i.taken s c.deref.ensures.value found.3.0 (found.3.1 s) in
    let within = first_within i.taken i.line_start i.text_start i.sizes.items i.lines.items i.texts.items c.self.invariant s there in
    search (rules, within)

pub invariant_of-self : goal.invariant_of-self
invariant_of-self c =
    let i = c.self.inside in
    let s = c.in-Some.field-0.now in
    let found = c.in-Some.ensures.lookup in
    let there : slice_get i.sizes.items i.taken ≡ Some s = found_there c.deref.result.now i.sizes.items i.taken s c.deref.ensures.value found.3.0 (found.3.1 s) in
    AreSizesFrom-rest i.taken i.line_start i.text_start i.sizes.items i.lines.items i.texts.items c.self.invariant s there

pub returns-in-Some : goal.returns-in-Some
returns-in-Some c =
    let i = c.self.inside in
    let s = c.in-Some.field-0.now in
    let found = c.in-Some.ensures.lookup in
    let there : slice_get i.sizes.items i.taken ≡ Some s = found_there c.deref.result.now i.sizes.items i.taken s c.deref.ensures.value found.3.0 (found.3.1 s) in
    now_rest i.taken i.line_start i.text_start i.sizes.items i.lines.items i.texts.items c.self.invariant s there c.args.self.now c.self.view_is
