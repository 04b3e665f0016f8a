use Rattle.std.proofs.Common.{ap, ◌∙◌}
use Rattle.jf_disk.specs.Crashes.{opposite}
use Rattle.jf_pair.specs.Pairs.{log_records}
use Rattle.jf_trim.proofs.spare.find_spare.Goals as goal

pub returns-clause-at_rest : goal.returns-clause-at_rest
returns-clause-at_rest g c = λ h told.
    let x = c.in_ok-pair.ensures.in_step h told in
    (log_records c.in_ok-pair.field-0-1, x.0, x.1, (c.in_ok-pair.pair, c.across.ensures ∙ ap opposite c.side.ensures, x.2), c.in_ok-pair.ensures.found h told)
