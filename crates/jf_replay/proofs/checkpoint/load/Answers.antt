use Rattle.std.proofs.Common.{sym, ◌∙◌, subst}
use Rattle.jf_standing.specs.Sound.{IsSound}
use Rattle.jf_standing.proofs.Formats.{sound_kept}
use Rattle.jf_replay.specs.Cuts.{standing_lent}
use Rattle.jf_replay.proofs.Listed.{numbers-refused}
use Rattle.jf_replay.proofs.checkpoint.load.Goals as goal

pub returns-then-not-have_numbers-clause-unsound : goal.returns-then-not-have_numbers-clause-unsound
returns-then-not-have_numbers-clause-unsound g c = λ is. numbers-refused c.args.format (standing_lent c.args.checkpoint) (sym c.have_numbers.ensures ∙ c.if-not-have_numbers.true)

pub returns-clause-loaded : goal.returns-clause-loaded
returns-clause-loaded g c =
    let landed = c.in_ok-land_later.ensures.landed in
    (subst (IsSound c.args.format) landed (sound_kept c.args.format c.land_later.new.directory c.know.ensures.sound), landed)
