use Rattle.std.specs.Prelude.{Err}
use Rattle.std.proofs.Common.{◌≡◌, ◌<◌, [], length, sym, ap, ◌∙◌, arith, true≢false}
use Rattle.std.proofs.lemmas.Bool.{eq-eqb}
use Rattle.jf_standing.specs.FormatLaws.{standing_in}
use Rattle.jf_replay.proofs.Taken.{one_more_taken, next_of_taken, none_after_taken}
use Rattle.jf_replay.proofs.taking.take_landings.Goals as goal

pub loop-preserved : goal.loop-preserved
loop-preserved g c =
    let fmt = c.args.format in
    one_more_taken fmt (standing_in fmt c.args.directory.now) (standing_in fmt c.loop.directory) (standing_in fmt c.check_spelled.new.directory) c.args.bytes.now c.loop.rest.now c.in_ok-rest.rest.now c.loop.counter c.loop.invariant c.in_ok-rest.ensures.taken

pub returns-in_err-rest-clause-unsound : goal.returns-in_err-rest-clause-unsound
returns-in_err-rest-clause-unsound g c = λ is cs s count are spelled takes.
    let fmt = c.args.format in
    let lt : c.loop.counter < length cs = (let t = c.loop-test.true in omega (arith, t, count)) in
    let next = next_of_taken fmt (standing_in fmt c.args.directory.now) (standing_in fmt c.loop.directory) s c.args.bytes.now c.loop.rest.now c.loop.counter c.loop.invariant cs are spelled lt takes in
    c.in_err-rest.ensures.unsound (ap (λ f. Err f) (sym (rw is at c.from_residual.ensures.1))) next.0 next.1 next.2 next.3 next.4 next.5

pub returns-then-not-is_empty-clause-unsound : goal.returns-then-not-is_empty-clause-unsound
returns-then-not-is_empty-clause-unsound g c = λ is cs s count are spelled takes.
    let fmt = c.args.format in
    let same : c.loop.counter ≡ length cs = (let t = c.loop-test.false in let e = c.loop.auto.counter-end in omega (arith, t, e, count)) in
    let none : c.loop.rest.now ≡ [] = none_after_taken fmt (standing_in fmt c.args.directory.now) (standing_in fmt c.loop.directory) s c.args.bytes.now c.loop.rest.now c.loop.counter c.loop.invariant cs are spelled same in
    true≢false (sym (eq-eqb (length c.loop.rest.now) 0 (ap length none)) ∙ sym c.is_empty.ensures ∙ c.if-not-is_empty.true)
