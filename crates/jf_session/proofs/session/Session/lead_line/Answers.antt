use Rattle.std.proofs.Common.{[], sym, ap, subst}
use Rattle.std.specs.Prelude.{Ok, Err}
use Rattle.jf_script.specs.declared.reply.Reply.TheVariants as reply
use Rattle.jf_script.specs.declared.reply.Refusal.TheVariants as refusal
use Rattle.jf_script.proofs.BoundLaws.{command_of-IsBoundedCommand}
use Rattle.jf_history.specs.Sessions.{Session}
use Rattle.jf_session.specs.declared.stop.Stop.TheVariants as stop
use Rattle.jf_session.specs.Telling.{DoesLeading}
use Rattle.jf_session.proofs.OfLines.{syntax_replied, long_replied}
use Rattle.jf_session.proofs.LedLines.{own_led, led_line, led_itself, led_unread, leads_on, leads_over}
use Rattle.jf_session.proofs.session.Session.lead_line.Goals as goal

pub returns-in-Err-Syntax : goal.returns-in-Err-Syntax
returns-in-Err-Syntax g c =
    let start = c.args.store.now.start in
    let s = c.args.self.now in
    let line = c.args.line.now in
    let told = c.args.told.now in
    leads_on start s s line told told c.requires.own.1 c.requires.over c.know_events.ensures
    (led_itself start s line (reply.No refusal.Syntax) _ c.requires.over
    (syntax_replied start s line [] c.know_own.ensures.pins c.know.ensures c.requires.over (c.in-Err-Syntax.ensures.syntax (ap (λ e. Err e) c.in-Err-Syntax.field-0-is))).2 told)

pub returns-in-Err-LineTooLong : goal.returns-in-Err-LineTooLong
returns-in-Err-LineTooLong g c =
    let start = c.args.store.now.start in
    let s = c.args.self.now in
    let line = c.args.line.now in
    let told = c.args.told.now in
    leads_on start s s line told told c.requires.own.1 c.requires.over c.know_events.ensures
    (led_itself start s line (reply.No refusal.Long) _ c.requires.over
    (long_replied start s line [] c.know_own.ensures.pins c.know.ensures c.requires.over (c.in-Err-LineTooLong.ensures.too_long.0 (ap (λ e. Err e) c.in-Err-LineTooLong.field-0-is))).2 told)

pub returns-in-Err-Memory : goal.returns-in-Err-Memory
returns-in-Err-Memory g c =
    let start = c.args.store.now.start in
    let s = c.args.self.now in
    let line = c.args.line.now in
    let told = c.args.told.now in
    subst (λ (t : Session). DoesLeading s line told (Err stop.Memory) t told) (sym c.stop.ensures)
    (leads_over start s s line told told c.requires.own.1 c.requires.over c.know_events.ensures stop.Memory (led_unread start s line c.know_own.ensures.pins told))

pub lead_command-led-requires-clause-bounded : goal.lead_command-led-requires-clause-bounded
lead_command-led-requires-clause-bounded g c = λ κs le. command_of-IsBoundedCommand c.args.line.now _ c.in-Ok.ensures.found

pub know_events-requires-2-after_bounds : goal.know_events-requires-2-after_bounds
know_events-requires-2-after_bounds g c = λ κs le.
    let s = c.args.self.now in
    let d = c.lead_command-led in
    own_led c.args.store.now.start s d.new.self c.args.line.now c.args.told.now d.new.told d.result c.args.store.now c.requires.own
    (led_line _ s d.new.self c.args.line.now _ c.in-Ok.ensures.short c.in-Ok.ensures.found c.know_own.ensures.number c.know_own-2.ensures.pins c.args.told.now d.new.told d.result d.ensures)

pub returns-in-Ok-led : goal.returns-in-Ok-led
returns-in-Ok-led g c =
    let start = c.args.store.now.start in
    let s = c.args.self.now in
    let d = c.lead_command-led in
    let line = c.args.line.now in
    leads_on start s d.new.self line c.args.told.now d.new.told c.requires.own.1 c.requires.over c.know_events-2.ensures
    (led_line start s d.new.self line _ c.in-Ok.ensures.short c.in-Ok.ensures.found c.know_own.ensures.number c.know_own-2.ensures.pins c.args.told.now d.new.told (Ok tt) c.in-Ok-led.ensures)

pub returns-in-Err : goal.returns-in-Err
returns-in-Err g c =
    let start = c.args.store.now.start in
    let s = c.args.self.now in
    let d = c.lead_command-led in
    let line = c.args.line.now in
    let why = c.in-Err.why in
    subst (λ (t : Session). DoesLeading s line c.args.told.now (Err why) t d.new.told) (sym c.stop-in-Err.ensures)
    (leads_over start s d.new.self line c.args.told.now d.new.told c.requires.own.1 c.requires.over c.know_events-2.ensures why
    (led_line start s d.new.self line _ c.in-Ok.ensures.short c.in-Ok.ensures.found c.know_own.ensures.number c.know_own-2.ensures.pins c.args.told.now d.new.told (Err why) c.in-Err.ensures))
