use Rattle.std.proofs.Common.{◌∙◌}
use Rattle.std.proofs.lemmas.Result.{err_from_is_err_and}
use Rattle.jf_path.proofs.ListLaws.{All-weaker}
use Rattle.jf_landing.proofs.Whole.{root_there, count_there, fresh_told, stale_there, stale_told, behind_fresh, entries-fresh}
use Rattle.jf_landing.proofs.scanning.scan_landing.Goals as goal

pub returns-in_err-rest-clause-spelled : goal.returns-in_err-rest-clause-spelled
returns-in_err-rest-clause-spelled c = λ d tail is e. absurd (root_there c.args.format d c.args.bytes.now tail is e c.in_err-rest.field-0.0 c.in_err-rest.ensures)

pub returns-in_err-count-clause-spelled : goal.returns-in_err-count-clause-spelled
returns-in_err-count-clause-spelled c = λ d tail is e.
    absurd (count_there c.args.format d c.args.bytes.now tail is e c.in_ok-rest.field-0-0.now c.in_ok-rest.rest.now c.in_ok-rest.ensures c.in_err-count.field-0.0 c.in_err-count.ensures)

pub returns-in_err-leaves-clause-spelled : goal.returns-in_err-leaves-clause-spelled
returns-in_err-leaves-clause-spelled c = λ d tail is e.
    let p = err_from_is_err_and c.from_residual-in_err-leaves.result c.from_residual-in_err-leaves.ensures.1 in
    let f = fresh_told c.args.format d c.args.bytes.now tail is e c.in_ok-rest.field-0-0.now c.in_ok-rest.rest.now c.in_ok-rest.ensures c.in_ok-count.count c.in_ok-count.rest.now c.in_ok-count.ensures in
    rw (p.1, p.2) (c.in_err-leaves.ensures.spelled d.fresh (behind_fresh d tail) f.0 is.fresh f.1)

pub returns-in_err-count-2-clause-spelled : goal.returns-in_err-count-2-clause-spelled
returns-in_err-count-2-clause-spelled c = λ d tail is e.
    let f = fresh_told c.args.format d c.args.bytes.now tail is e c.in_ok-rest.field-0-0.now c.in_ok-rest.rest.now c.in_ok-rest.ensures c.in_ok-count.count c.in_ok-count.rest.now c.in_ok-count.ensures in
    let t = c.in_ok-leaves.ensures.spelled d.fresh (behind_fresh d tail) f.0 is.fresh f.1 in
    absurd (stale_there c.args.format d c.args.bytes.now tail is e c.in_ok-leaves.rest.now t.1 c.in_err-count-2.field-0.0 c.in_err-count-2.ensures)

pub returns-in_err-stale-clause-spelled : goal.returns-in_err-stale-clause-spelled
returns-in_err-stale-clause-spelled c = λ d tail is e.
    let p = err_from_is_err_and c.from_residual-in_err-stale.result c.from_residual-in_err-stale.ensures.1 in
    let f = fresh_told c.args.format d c.args.bytes.now tail is e c.in_ok-rest.field-0-0.now c.in_ok-rest.rest.now c.in_ok-rest.ensures c.in_ok-count.count c.in_ok-count.rest.now c.in_ok-count.ensures in
    let t = c.in_ok-leaves.ensures.spelled d.fresh (behind_fresh d tail) f.0 is.fresh f.1 in
    let s = stale_told c.args.format d c.args.bytes.now tail is e c.in_ok-leaves.rest.now t.1 c.in_ok-count-2.count c.in_ok-count-2.rest.now c.in_ok-count-2.ensures in
    rw (p.1, p.2) (c.in_err-stale.ensures d.stale tail s.0 is.stale s.1)

pub returns-clause-spelled : goal.returns-clause-spelled
returns-clause-spelled c = λ d tail is e.
    let f = fresh_told c.args.format d c.args.bytes.now tail is e c.in_ok-rest.field-0-0.now c.in_ok-rest.rest.now c.in_ok-rest.ensures c.in_ok-count.count c.in_ok-count.rest.now c.in_ok-count.ensures in
    let t = c.in_ok-leaves.ensures.spelled d.fresh (behind_fresh d tail) f.0 is.fresh f.1 in
    let s = stale_told c.args.format d c.args.bytes.now tail is e c.in_ok-leaves.rest.now t.1 c.in_ok-count-2.count c.in_ok-count-2.rest.now c.in_ok-count-2.ensures in
    (t.0 ∙ entries-fresh d.fresh, c.in_ok-stale.ensures d.stale tail s.0 is.stale s.1)

pub returns-clause-entries : goal.returns-clause-entries
returns-clause-entries c = All-weaker _ _ (λ e is. (is.0, is.1)) c.in_ok-leaves.leaves.items c.in_ok-leaves.ensures.entries

pub returns-clause-short : goal.returns-clause-short
returns-clause-short c = All-weaker _ _ (λ e is. is.2) c.in_ok-leaves.leaves.items c.in_ok-leaves.ensures.entries
