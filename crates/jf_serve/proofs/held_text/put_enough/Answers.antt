use Rattle.std.proofs.Common.{[], sym, append-nil}
use Rattle.jf_serve.proofs.HeldTextLaws.{adds-put}
use Rattle.jf_serve.proofs.held_text.put_enough.Goals as goal

pub returns-clause-ok : goal.returns-clause-ok
returns-clause-ok g c = adds-put _ _ c.args.held.now c.args.held.now c.put_held.new.held [] (sym (append-nil c.args.held.now)) c.in_ok-put_held.ensures.ok c.in_ok-put_held.ensures.empty
