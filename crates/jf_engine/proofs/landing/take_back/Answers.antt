-- The landings that are left still lead to the directory.
use Rattle.std.proofs.Common.{arith}
use Rattle.jf_engine.proofs.Landings.{next_left, taken_back}
use Rattle.jf_engine.proofs.landing.take_back.Goals as goal

pub undo_landing-requires : goal.undo_landing-requires
undo_landing-requires c =
    let made = c.requires.made in
    let step = next_left made.0 c.args.landings.now c.loop-left.left c.index-landings-left.result _ c.loop-left.directory c.loop-left-test.true c.loop-left.invariant.within c.index-landings-left.is (c.loop-left.invariant.back made.0 made.1) in
    record { made = (step.0, step.1, step.2, step.3, step.4, step.5, step.6) }

pub loop-left-preserved : goal.loop-left-preserved
loop-left-preserved c =
    let cs = c.args.landings.now in
    let within = c.loop-left.invariant.within in
    record {
      within = omega (arith, within);
      back = λ from by.
          let step = next_left from cs c.loop-left.left c.index-landings-left.result _ c.loop-left.directory c.loop-left-test.true within c.index-landings-left.is (c.loop-left.invariant.back from by) in
          taken_back from cs c.loop-left.left step.0 c.undo_landing.new.self (c.undo_landing.ensures step.0 step.1 step.2 step.3 step.4 step.5 step.6) step.7;
    }
