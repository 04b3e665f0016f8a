-- All lines that are too long give the same.
use Rattle.std.proofs.Common.{◌≡◌, ℕ, true, List, refl, ap}
use Rattle.jf_restore.specs.RestoreValue.{RestoreValue}
use Rattle.jf_text.specs.Words.{is_long}
use Rattle.jf_receive.specs.declared.stage.Stage.{Stage}
use Rattle.jf_receive.specs.Steps.{restoring_line_step, RestoringStep, next_at}
use Rattle.jf_receive.specs.Laws.{LongChunkLinesAreAlike}
use Rattle.jf_receive.specs.declared.stage.Stage.TheVariants as stage

alike : (r : RestoreValue) (at : ℕ) (s : Stage) (line other : List ℕ) → is_long line ≡ true → is_long other ≡ true → restoring_line_step r at s line ≡ restoring_line_step r at s other
unfolding restoring_line_step
alike r at stage.Between line other e h = rw (e, h) refl
alike r at (stage.Block b) line other e h = rw (e, h) refl
alike r at (stage.Refused why) line other e h = refl

pub after-long : LongChunkLinesAreAlike
after-long s line other long too =
    ap (λ (step : RestoringStep). record { restore = step.restore; at = next_at s.at s.stage; stage = step.stage }) (alike s.restore s.at s.stage line other long too)
