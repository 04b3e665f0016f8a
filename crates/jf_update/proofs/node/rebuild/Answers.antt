use Rattle.jf_update.proofs.BuildLaws.{topped_inner}
use Rattle.jf_update.proofs.node.rebuild.Goals as goal

pub returns-then-has_several : goal.returns-then-has_several
returns-then-has_several c = topped_inner c.args.old.now.depth c.args.version c.args.made.children c.in_ok-link.link c.in_ok-link.ensures
