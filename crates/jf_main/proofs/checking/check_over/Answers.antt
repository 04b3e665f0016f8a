use Rattle.std.proofs.Common.{◌∙◌, ap, refl, sym}
use Rattle.jf_words.specs.Shapes.{asked_shape}
use Rattle.jf_main.proofs.CheckEnds.{check_ends, memory_told, owed_check, write_told}
use Rattle.jf_main.proofs.checking.check_over.Goals as goal

pub returns-clause-checked : goal.returns-clause-checked
returns-clause-checked g c = λ a b shows.
    let e = c.of_check.ensures in
    check_ends _ c.args.seen c.of_check.result a b (owed_check _ c.requires.asked c.run_words-ended.ensures.kept) refl refl shows e.status e.reason e.note

pub returns-clause-cause : goal.returns-clause-cause
returns-clause-cause g c = λ is. c.run_words-ended.ensures.kept.causes.write (write_told _ c.args.seen.refusal (sym c.of_check.ensures.status ∙ is))

pub returns-clause-unwritten : goal.returns-clause-unwritten
returns-clause-unwritten g c = λ is.
    (owed_check _ c.requires.asked c.run_words-ended.ensures.kept).silent (memory_told _ c.args.seen.refusal (sym c.of_check.ensures.status ∙ is))

pub returns-clause-unread : goal.returns-clause-unread
returns-clause-unread g c = c.run_words-ended.ensures.unread (ap (λ o. (asked_shape o).reading) c.requires.asked)

pub returns-clause-counts : goal.returns-clause-counts
returns-clause-counts g c = c.run_words-ended.ensures.kept.forward.sink_faults
