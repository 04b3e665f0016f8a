use Rattle.std.proofs.Common.{◌∙◌}
use Rattle.jf_lead.proofs.Changes.{put-above}
use Rattle.jf_lead.proofs.steps.push.Goals as goal

pub returns-in-Ok : goal.returns-in-Ok
returns-in-Ok c =
    let put = rw c.as_slice-in-Some.ensures at c.in-Ok.ensures.ok in
    record { ok = rw (c.in-Some.is) (put ∙ put-above c.args.key.now _ c.args.batch.now c.as_slice.ensures.sound.sorted c.requires.above) }

pub returns-in-Ok-del : goal.returns-in-Ok-del
returns-in-Ok-del c = record { ok = rw (c.in-None.is) (c.in-Ok-del.ensures.ok ∙ put-above c.args.key.now _ c.args.batch.now c.as_slice.ensures.sound.sorted c.requires.above) }
