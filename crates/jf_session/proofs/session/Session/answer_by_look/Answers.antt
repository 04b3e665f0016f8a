use Rattle.std.proofs.Common.{refl}
use Rattle.jf_session.specs.PreparedReplies.{question_text}
use Rattle.jf_session.proofs.HeadReplies.{RepliesWith-look, DoesLine-replied, DoesLine-stopped}
use Rattle.jf_session.proofs.session.Session.answer_by_look.Goals as goal

pub returns-in-Err-clause-err : goal.returns-in-Err-clause-err
returns-in-Err-clause-err g c = λ line asks.
    DoesLine-stopped c.args.store.now.start c.args.self.now line c.args.out.now c.args.out.now c.requires.open.own.1 c.requires.open.over c.look_at_head-looked.new.self c.args.question c.in-Err.why asks c.in-Err.ensures.ends
    c.know_own.ensures.pins c.know_events.ensures refl (c.in-Err.ensures.err c.args.question)

pub returns-in-Ok-write_head_reply-clause-ok : goal.returns-in-Ok-write_head_reply-clause-ok
returns-in-Ok-write_head_reply-clause-ok g c = λ line asks.
    let start = c.args.store.now.start in
    let old = c.args.self.now in
    let new = c.look_at_head-looked.new.self in
    let q = c.args.question in
    let l = c.in-Ok.look in
    let seen = c.seen_count-seen.result in
    let looked = c.in-Ok.ensures.ok in
    DoesLine-replied start old line c.args.out.now c.write_head_reply.new.out c.requires.open.own.1 c.requires.open.over new (question_text l.head.map seen q) looked.over c.know_events.ensures c.in-Ok-write_head_reply.ensures.ok
    (RepliesWith-look start old new l seen looked c.seen_count-seen.ensures c.know_own.ensures.pins line q asks)
