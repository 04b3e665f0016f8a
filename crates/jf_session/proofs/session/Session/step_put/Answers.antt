use Rattle.std.proofs.Common.{◌∙◌, [], ◌++◌, refl, sym, ap, subst}
use Rattle.std.specs.Prelude.{Ok, Err}
use Rattle.jf_store.specs.Ledgers.{AreEvents}
use Rattle.jf_store.specs.Passes.{Pass}
use Rattle.jf_script.specs.Replies.{reply_text}
use Rattle.jf_history.specs.Sessions.{Session}
use Rattle.jf_session.specs.declared.stop.Stop.TheVariants as stop
use Rattle.jf_session.specs.Taking.{DoesLine}
use Rattle.jf_session.proofs.PutLines.{of_key, DoesLine-put, DoesLine-put_lost, DoesLine-put_stopped}
use Rattle.jf_session.proofs.session.Session.step_put.Goals as goal

pub returns-in-Ok-write_answer : goal.returns-in-Ok-write_answer
returns-in-Ok-write_answer g c = λ line p.
    let start = c.args.store.now.start in
    let old = c.args.self.now in
    let new = c.put_copy-done.new.self in
    let events = subst (AreEvents start) (sym (ap (λ (q : Pass). q.seen) c.put_copy-done.ensures.pass)) c.know_events.ensures in
    let done = of_key start old new line c.args.key.now c.args.value.now (Ok c.in-Ok.reply) c.know_key.ensures.long p c.in-Ok.ensures.obeyed in
    DoesLine-put start old new line p.name p.value c.args.out.now c.write_answer.new.out c.requires.open.own.1 c.requires.open.over p.short p.puts c.know_own.ensures.number c.know_own-2.ensures.pins events c.in-Ok.reply done
    (c.in-Ok-write_answer.ensures.ok ∙ ap (λ n. c.args.out.now ++ (reply_text n c.in-Ok.reply ++ [])) c.seen_count-seen.ensures)

pub returns-in-Ok : goal.returns-in-Ok
returns-in-Ok g c = λ line p.
    let start = c.args.store.now.start in
    let old = c.args.self.now in
    let new = c.put_copy-done.new.self in
    let out = c.args.out.now in
    let out' = c.write_answer.new.out in
    let events = subst (AreEvents start) (sym (ap (λ (q : Pass). q.seen) c.put_copy-done.ensures.pass)) c.know_events.ensures in
    let done = of_key start old new line c.args.key.now c.args.value.now (Ok c.in-Ok.reply) c.know_key.ensures.long p c.in-Ok.ensures.obeyed in
    subst (λ (s : Session). DoesLine old line out (Err stop.Memory) s out') (sym c.stop.ensures)
    (DoesLine-put_lost start old new line p.name p.value out out' c.requires.open.own.1 c.requires.open.over p.short p.puts c.know_own.ensures.number c.know_own-2.ensures.pins events c.in-Ok.reply done c.in-Err-write_answer.ensures.err)

pub returns : goal.returns
returns g c = λ line p.
    let start = c.args.store.now.start in
    let old = c.args.self.now in
    let new = c.put_copy-done.new.self in
    let out = c.args.out.now in
    let why = c.in-Err.why in
    let events = subst (AreEvents start) (sym (ap (λ (q : Pass). q.seen) c.put_copy-done.ensures.pass)) c.know_events.ensures in
    let stops = of_key start old new line c.args.key.now c.args.value.now (Err why) c.know_key.ensures.long p c.in-Err.ensures.obeyed in
    subst (λ (s : Session). DoesLine old line out (Err why) s out) (sym c.stop-in-Err.ensures)
    (DoesLine-put_stopped start old new line p.name p.value out out c.requires.open.own.1 c.requires.open.over p.short p.puts c.know_own.ensures.number c.know_own-2.ensures.pins events why stops refl)
