-- The batches before the present one are landed, or taken back.
use Rattle.std.proofs.Common.{◌≡◌, ◌∙◌, length, subst, sym, rules}
use Rattle.std.specs.Prelude.{reverse}
use Rattle.std.specs.List.{AllByRecursion}
use Rattle.jf_codec.specs.declared.format.Format.TheVariants as format
use Rattle.jf_payload.specs.Spelling.{IsCommit}
use Rattle.jf_standing.specs.Standing.{Standing}
use Rattle.jf_engine.specs.Landings.{LandsCommits}
use Rattle.jf_engine.proofs.Landings.{after_next, at_end, first_kept, record-spelled}
use Rattle.jf_engine.proofs.landing.land_batches.Goals as goal

pub take_back-requires : goal.take_back-requires
take_back-requires g c =
    let dir = c.args.directory.now in
    let kept = c.in-Err.ensures.kept in
    let count : c.len-landed.result ≡ length c.loop-batch.landings.items = search rules in
    let by = subst (λ (t : Standing). LandsCommits dir (reverse c.loop-batch.landings.items) t) (sym c.in-Err.ensures.err) c.loop-batch.invariant.back in
    record { made = (dir, first_kept dir c.land_next.new.directory c.loop-batch.landings.items c.deref.result.now kept.0 c.len-landed.result (c.deref.ensures.value ∙ kept.1) count by) }

pub returns-in-Err-clause-err : goal.returns-in-Err-clause-err
returns-in-Err-clause-err g c =
    let dir = c.args.directory.now in
    let kept = c.in-Err.ensures.kept in
    let count : c.len-landed.result ≡ length c.loop-batch.landings.items = search rules in
    let by = subst (λ (t : Standing). LandsCommits dir (reverse c.loop-batch.landings.items) t) (sym c.in-Err.ensures.err) c.loop-batch.invariant.back in
    c.take_back.ensures dir (first_kept dir c.land_next.new.directory c.loop-batch.landings.items c.deref.result.now kept.0 c.len-landed.result (c.deref.ensures.value ∙ kept.1) count by)

pub loop-batch-preserved : goal.loop-batch-preserved
loop-batch-preserved g c =
    let e = c.in_default.ensures in
    after_next c.args.directory.now c.args.batches.now c.loop-batch.batch-index c.loop-batch.landings.items c.loop-batch.directory c.loop-batch.invariant c.batch-item.result _ c.loop-batch-test.true c.batch-item.is c.land_next.new.landings.items c.land_next.new.directory
    e.batch e.old.0 e.old.1 e.map e.written e.spelled e.landed e.room

pub returns-clause-spelled : goal.returns-clause-spelled
returns-clause-spelled g c =
    let so = at_end c.args.directory.now c.args.batches.now c.loop-batch.batch-index c.loop-batch.landings.items c.loop-batch.directory c.loop-batch.invariant c.loop-batch-test.false in
    record-spelled c.args.directory.now c.args.batches.now (subst (AllByRecursion (IsCommit format.Two)) so.written so.spelled) c.requires.positive c.requires.forks
