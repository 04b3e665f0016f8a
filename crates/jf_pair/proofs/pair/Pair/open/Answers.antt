use Rattle.std.proofs.Common.{refl, sym, ap, ◌∙◌, subst, true≢false}
use Rattle.jf_disk.specs.Disk.{reads}
use Rattle.jf_disk.proofs.CrashLaws.{told_same}
use Rattle.jf_disk.specs.declared.side.Side.TheVariants as side
use Rattle.jf_pair.specs.Files.{HoldsLive}
use Rattle.jf_pair.proofs.FileLaws.{live_a_some}
use Rattle.jf_pair.specs.Pairs.{IsInStep, log_records}
use Rattle.jf_pair.proofs.PairLaws.{in_step_holds}
use Rattle.jf_pair.proofs.Opened.{opened_in_step, read_same, synced_same}
use Rattle.jf_pair.proofs.pair.Pair.open.Goals as goal

pub returns-in-A-clause-in_step : goal.returns-in-A-clause-in_step
returns-in-A-clause-in_step g c = λ h told.
    let q = c.in_ok-a.ensures.quiet h told in
    let r = c.in_ok-a.ensures.read h told in
    let j = c.in_ok-judge.ensures in (
      q.0,
      q.1,
      subst (λ rs. IsInStep c.pair_of.result.0 rs q.0.now) (sym c.pair_of.ensures.records)
          (opened_in_step side.A c.pair_of.result.0 c.in_ok-a.field-0.a c.in_ok-a.field-0.b c.in_ok-a.field-0.a.records c.in_ok-a.field-0.b.records q.0.now (c.pair_of.ensures.side ∙ c.in_ok-a.ensures.fresh.0) (sym c.in-A.is ∙ j.live) refl refl
          j.begun_a j.begun_b j.apart (read_same c.in_ok-a.field-0.a side.A q.0.now _ q.2 r.0) (read_same c.in_ok-a.field-0.b side.B q.0.now _ q.3 r.1) (synced_same side.A q.0.now _ q.2) (synced_same side.B q.0.now _ q.3) c.pair_of.ensures.offset c.pair_of.ensures.live),
    )

pub returns-in-B-clause-in_step : goal.returns-in-B-clause-in_step
returns-in-B-clause-in_step g c = λ h told.
    let q = c.in_ok-a.ensures.quiet h told in
    let r = c.in_ok-a.ensures.read h told in
    let j = c.in_ok-judge.ensures in (
      q.0,
      q.1,
      subst (λ rs. IsInStep c.pair_of-in-B.result.0 rs q.0.now) (sym c.pair_of-in-B.ensures.records)
          (opened_in_step side.B c.pair_of-in-B.result.0 c.in_ok-a.field-0.b c.in_ok-a.field-0.a c.in_ok-a.field-0.a.records c.in_ok-a.field-0.b.records q.0.now (c.pair_of-in-B.ensures.side ∙ c.in_ok-a.ensures.fresh.1) (sym c.in-B.is ∙ j.live) refl refl
          j.begun_a j.begun_b j.apart (read_same c.in_ok-a.field-0.b side.B q.0.now _ q.3 r.1) (read_same c.in_ok-a.field-0.a side.A q.0.now _ q.2 r.0) (synced_same side.B q.0.now _ q.3) (synced_same side.A q.0.now _ q.2) c.pair_of-in-B.ensures.offset c.pair_of-in-B.ensures.live),
    )

pub returns-in-B-clause-found : goal.returns-in-B-clause-found
returns-in-B-clause-found g c = λ h told.
    let x = returns-in-B-clause-in_step g c h told in
    let y = c.read_sides.ensures.left h told in
    subst (λ f. HoldsLive f (log_records c.pair_of-in-B.result.1)) (ap reads (told_same x.0 y.0 _ x.1 y.1) ∙ y.2.same) (in_step_holds c.pair_of-in-B.result.0 (log_records c.pair_of-in-B.result.1) x.0 x.2)

pub returns-in-A-clause-first : goal.returns-in-A-clause-first
returns-in-A-clause-first g c = λ none.
    let some = live_a_some c.in_ok-a.field-0.a.records c.in_ok-a.field-0.b.records (sym c.in_ok-judge.ensures.live ∙ c.in-A.is) in
    absurd (true≢false (sym (c.pair_of.ensures.live.1 some) ∙ none))
