use Rattle.std.proofs.Common.{◌∙◌, ap, sym, ℕ, List, Bor}
use Rattle.std.specs.Prelude.{slice_get, None}
use Rattle.std.specs.FinMap as fin
use Rattle.jf_nth.proofs.Places.{is_some-at}
use Rattle.jf_nth.proofs.place.nth_counted.Goals as goal

pub returns-in-None-clause-there : goal.returns-in-None-clause-there
returns-in-None-clause-there g c =
    let m = c.args.snapshot.now.map in
    is_some-at {X = Bor (List ℕ) × Bor (List ℕ)} (λ e. (e.0.now, e.1.now)) None (fin.entries m) c.args.place (fin.len m) (ap (λ es. slice_get es c.args.place) (sym c.in-None.ensures.same)) (fin.len-entries m)

pub returns-in-Some-clause-there : goal.returns-in-Some-clause-there
returns-in-Some-clause-there g c =
    let m = c.args.snapshot.now.map in
    is_some-at (λ e. (e.0.now, e.1.now)) c.nth_below.result (fin.entries m) c.args.place (fin.len m) (c.nth_below.ensures.entry ∙ ap (λ es. slice_get es c.args.place) (sym c.in-Some.ensures.same)) (fin.len-entries m)
