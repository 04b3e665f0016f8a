use Rattle.std.proofs.Common.{inr, sym, subst}
use Rattle.jf_history.specs.Sessions.{Session, HasReplied}
use Rattle.jf_session.proofs.OfLines.{replied_ended}
use Rattle.jf_session.proofs.session.Session.step.Goals as goal

pub returns-then-is_err-clause-memory : goal.returns-then-is_err-clause-memory
returns-then-is_err-clause-memory g c = λ e.
    let d = c.in-Ok.ensures.ok.2 in
    let start = c.args.store.now.start in
    inr (d.0, subst (λ (s : Session). HasReplied start c.args.self.now s c.args.line.now d.0) (sym c.stop.ensures) (replied_ended start c.args.self.now c.reply_to_line.new.self c.args.line.now d.0 d.1))
