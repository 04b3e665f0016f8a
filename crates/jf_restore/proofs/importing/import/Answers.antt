use Rattle.jf_restore.proofs.Finishing.{import_makes}
use Rattle.jf_restore.proofs.importing.import.Goals as goal

pub returns : goal.returns
returns g c = import_makes c.args.version c.args.entries.now c.args.engine.now c.import.new.self c.import.result c.import.ensures.step c.import.ensures.checkpoint
