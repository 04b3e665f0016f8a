use Rattle.std.proofs.Common.{sym, subst}
use Rattle.std.specs.Prelude.{Ok}
use Rattle.jf_history.specs.Sessions.{Session}
use Rattle.jf_session.specs.Taking.{DoesLine}
use Rattle.jf_session.proofs.preparing.Preparing.answer_ahead.Goals.{in-Some-1, in-None-1}
use Rattle.jf_session.proofs.preparing.Preparing.answer_ahead.Goals as goal

pub returns-in-Ok : goal.returns-in-Ok
returns-in-Ok g c = λ line asks.
    let out = c.args.out.now in
    let out' = c.answer_by_look.new.out in
    let done = subst (λ (s : Session). DoesLine s line out (Ok tt) c.answer_by_look.new.self out') c.self.view_is (c.in-Ok.ensures.ok line asks) in
    elim c.match-look.branch [
      | in-Some-1 w ↦ subst (λ (s : Session). DoesLine c.args.self.now line out (Ok tt) s out') (sym w.self-is) done
      | in-None-1 w ↦ subst (λ (s : Session). DoesLine c.args.self.now line out (Ok tt) s out') (sym w.self-is) done
    ]
