use Rattle.std.proofs.Common.{sym, subst}
use Rattle.std.specs.Prelude.{Result}
use Rattle.jf_session.specs.declared.stop.Stop.{Stop}
use Rattle.jf_session.specs.Telling.{IsLedAs}
use Rattle.jf_session.proofs.Untold.{led_other}
use Rattle.jf_session.proofs.session.Session.obey_without_blocks.Goals as goal

pub returns : goal.returns
returns g c = λ told.
    let start = c.args.store.now.start in
    let s = c.args.self.now in
    let d = c.reply_to_command-done in
    subst (λ (o : Result (Unit {0}) Stop). IsLedAs start s d.new.self c.args.command told told o) (sym c.discard_reply.ensures)
    (led_other start s d.new.self c.args.command _ _ c.requires.other c.know_events.ensures c.know_own.ensures.number d.result d.ensures told)
