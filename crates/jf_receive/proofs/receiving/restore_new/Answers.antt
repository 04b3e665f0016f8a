use Rattle.jf_receive.proofs.Outcomes.{restored}
use Rattle.jf_receive.proofs.receiving.restore_new.Goals as goal

pub returns-in-Ok-import-clause-ok : goal.returns-in-Ok-import-clause-ok
returns-in-Ok-import-clause-ok g c =
    let ok = c.in-Ok.ensures.ok in
    let source = g.S.Source.rest c.args.source.now in
    let source' = g.S.Source.rest c.read_blocks.new.source in
    restored c.args.version c.args.root c.args.engine.now c.import.new.engine source source' c.in-Ok.restore ok.0 (c.in-Ok-import.ensures.rooted source source' ok.2) c.in-Ok-import.ensures.ok
    c.count.result c.count.ensures c.in-Ok-restored_line.line c.in-Ok-restored_line.ensures
