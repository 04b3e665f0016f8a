use Rattle.std.proofs.Common.{◌∙◌, subst, sym, ap, None}
use Rattle.jf_receive.specs.Steps.{restoring_start}
use Rattle.jf_receive.specs.Receives.{HasReceived}
use Rattle.jf_receive.specs.declared.received.Received.{Received}
use Rattle.jf_receive.proofs.BlocksRead.{read_ok, read_err, read_stopped}
use Rattle.jf_receive.proofs.reading.read_blocks.Goals as goal

pub returns-in-Ok-clause-ok : goal.returns-in-Ok-clause-ok
returns-in-Ok-clause-ok g c =
    read_ok c.args.version c.args.root c.new-reader.result c.feed.new.machine (c.new-reader.ensures ∙ ap restoring_start c.new.ensures) (g.S.Source.rest c.args.source.now) (g.S.Source.rest c.feed.new.source) None None
    c.chunks_come_line_by_line.ensures c.in-Done.ensures.fed c.in-Ok.restore c.in-Ok.ensures

pub returns-in-Err-clause-err : goal.returns-in-Err-clause-err
returns-in-Err-clause-err g c = λ e text new.
    let source = g.S.Source.rest c.args.source.now in
    let source' = g.S.Source.rest c.feed.new.source in
    subst (λ (how : Received). HasReceived how c.args.version c.args.root e e source source' text text) (sym c.refused_lines.ensures)
    (read_err c.args.version c.args.root c.new-reader.result c.feed.new.machine (c.new-reader.ensures ∙ ap restoring_start c.new.ensures) source source' None None
    c.chunks_come_line_by_line.ensures c.refusals_come_at_their_line.ensures c.in-Done.ensures.fed c.in-Err.why c.in-Err.ensures e text new)

pub returns-in-Stopped-clause-err : goal.returns-in-Stopped-clause-err
returns-in-Stopped-clause-err g c = λ e text new.
    let source = g.S.Source.rest c.args.source.now in
    let source' = g.S.Source.rest c.feed.new.source in
    subst (λ (how : Received). HasReceived how c.args.version c.args.root e e source source' text text) (sym c.refused_lines-in-Stopped.ensures)
    (read_stopped c.args.version c.args.root c.new-reader.result c.feed.new.machine (c.new-reader.ensures ∙ ap restoring_start c.new.ensures) source source' None None
    c.refusals_come_at_their_line.ensures c.refusals_stay.ensures c.in-Stopped.why c.in-Stopped.ensures.fed e text new)
