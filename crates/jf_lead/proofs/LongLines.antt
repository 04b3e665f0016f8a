-- All lines that are too long give the same.
use Rattle.std.proofs.Common.{◌≡◌, ℕ, true, List, refl, ap}
use Rattle.jf_text.specs.Words.{is_long}
use Rattle.jf_lead.specs.declared.stage.Stage.{Stage}
use Rattle.jf_lead.specs.declared.stage.Stage.TheVariants as stage
use Rattle.jf_lead.specs.declared.stage.Step.{Step}
use Rattle.jf_lead.specs.Steps.{landing_line_step, number_after}
use Rattle.jf_lead.specs.Laws.{LongLandingLinesAreAlike}

alike : (at : ℕ) (s : Stage) (line other : List ℕ) → is_long line ≡ true → is_long other ≡ true → landing_line_step at s line ≡ landing_line_step at s other
unfolding landing_line_step
alike at stage.Between line other e h = rw (e, h) refl
alike at (stage.Block b) line other e h = rw (e, h) refl
alike at (stage.Refused why) line other e h = refl

pub after-long : LongLandingLinesAreAlike
after-long s line other long too =
    let same = alike s.at s.stage line other long too in
    (ap (λ (step : Step). record { at = number_after s.at s.stage; stage = step.stage }) same, ap (λ (step : Step). step.block) same)
