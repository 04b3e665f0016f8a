use Rattle.std.proofs.Common.{sym, subst, None}
use Rattle.jf_names.specs.NameLines.{HasNames}
use Rattle.jf_names.proofs.NameLineLaws.{read-all, read-stopped}
use Rattle.jf_names.proofs.over_map.read_names.Goals as goal

pub returns-in-Done-clause-names : goal.returns-in-Done-clause-names
returns-in-Done-clause-names g c =
    let source = g.S.Source.rest c.args.source.now in
    let source' = g.S.Source.rest c.feed.new.source in
    subst (λ es. HasNames es source source') (sym c.end.ensures)
    (read-all c.new-reader.result c.feed.new.machine c.new-reader.ensures source source' None None c.in-Done.ensures.fed)

pub returns-in-Stopped-clause-stopped : goal.returns-in-Stopped-clause-stopped
returns-in-Stopped-clause-stopped g c =
    read-stopped c.new-reader.result c.feed.new.machine c.new-reader.ensures (g.S.Source.rest c.args.source.now) (g.S.Source.rest c.feed.new.source) None None c.in-Stopped.why c.in-Stopped.ensures.fed
