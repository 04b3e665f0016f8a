use Rattle.std.specs.Prelude.{Err}
use Rattle.std.proofs.Common.{sym, ap, subst, arith}
use Rattle.jf_payload.specs.Spelling.{IsCommit}
use Rattle.jf_standing.specs.FormatLaws.{standing_in}
use Rattle.jf_replay.proofs.Listed.{step-making, step-spelled, step-landed, step-refused, names-later, all-landed}
use Rattle.jf_replay.proofs.checkpoint.land_later.Goals as goal

pub check-requires-clause-spelled : goal.check-requires-clause-spelled
check-requires-clause-spelled g c κs within =
    let a = c.args in
    let k = a.checkpoint in
    let is = step-making k.base k.floor k.head k.roots.now k.nodes.now c.requires.read c.loop-step.step c.loop-step-test.true c.in_ok-commit.commit _ c.loop-step.by_since.entries c.in_ok-commit.ensures c.take_names-stale.ensures.names c.loop-step.invariant.names in
    subst (IsCommit a.format) (sym is) (step-spelled a.format k.base k.floor k.head k.roots.now k.nodes.now c.requires.read c.loop-step.step c.loop-step-test.true c.know_count.ensures c.requires.spelled)

pub returns-in_err-check-clause-unsound : goal.returns-in_err-check-clause-unsound
returns-in_err-check-clause-unsound g c =
    let a = c.args in
    let k = a.checkpoint in
    let is = step-making k.base k.floor k.head k.roots.now k.nodes.now c.requires.read c.loop-step.step c.loop-step-test.true c.in_ok-commit.commit _ c.loop-step.by_since.entries c.in_ok-commit.ensures c.take_names-stale.ensures.names c.loop-step.invariant.names in
    λ same. step-refused k.base k.floor k.head k.roots.now k.nodes.now c.requires.read c.loop-step.step c.loop-step-test.true a.format c.requires.numbered (standing_in a.format c.loop-step.directory) c.in_ok-commit.commit is c.loop-step.invariant.begun (c.in_err-check.ensures.unsound (ap (λ f. Err f) (sym (rw same at c.from_residual-in_err-check.ensures.1))))

pub loop-step-preserved : goal.loop-step-preserved
loop-step-preserved g c =
    let a = c.args in
    let k = a.checkpoint in
    let is = step-making k.base k.floor k.head k.roots.now k.nodes.now c.requires.read c.loop-step.step c.loop-step-test.true c.in_ok-commit.commit _ c.loop-step.by_since.entries c.in_ok-commit.ensures c.take_names-stale.ensures.names c.loop-step.invariant.names in
    record {
      begun = step-landed k.base k.floor k.head k.roots.now k.nodes.now c.requires.read c.loop-step.step c.loop-step-test.true a.format c.requires.numbered (standing_in a.format c.loop-step.directory) _ c.in_ok-commit.commit is c.loop-step.invariant.begun c.in_ok-check.ensures.taken.2;
      names = names-later k.nodes.now k.floor c.loop-step.step c.loop-step.by_since.entries c.take_names-stale.new.by_since.entries c.take_names-stale.ensures.others c.loop-step.invariant.names;
    }

pub returns-clause-landed : goal.returns-clause-landed
returns-clause-landed g c =
    let a = c.args in
    let k = a.checkpoint in
    all-landed k.base k.floor k.head k.roots.now k.nodes.now c.loop-step.step c.requires.read.floor_low (omega (arith, c.loop-step-test.false, c.loop-step.auto.step-end)) c.requires.numbered _ c.loop-step.invariant.begun
