use Rattle.std.proofs.Common.{inl, inr, None, ap, ◌∙◌}
use Rattle.jf_history.specs.Sessions.{Session}
use Rattle.jf_session.proofs.PendingLaws.{full_done, room_done, unchanged}
use Rattle.jf_session.proofs.session.Session.del.Goals as goal

pub returns-in-Err-Full : goal.returns-in-Err-Full
returns-in-Err-Full g c = λ start.
    let i = c.self.inside in (
      full_done start i.pass i.pending c.del.new.self i.over i.over c.args.self.now c.self.view_is c.self.invariant c.requires c.args.name.now None c.key_of.result c.key_of.ensures (c.in-Err-Full.ensures.full (cc)) c.in-Err-Full.ensures.err,
      ap (λ (s : Session). s.over) c.self.view_is ∙ c.requires,
    )

pub returns-in-Err-Memory : goal.returns-in-Err-Memory
returns-in-Err-Memory g c = λ start.
    let i = c.self.inside in
    unchanged start i.pass i.pending c.del.new.self i.over i.over c.args.self.now c.self.view_is c.self.invariant c.requires c.args.name.now None c.in-Err-Memory.ensures.err

pub returns : goal.returns
returns g c = λ start.
    let i = c.self.inside in (
      room_done start i.pass i.pending c.del.new.self i.over i.over c.args.self.now c.self.view_is c.self.invariant c.requires c.args.name.now None c.key_of.result c.len.result c.key_of.ensures
          (λ full. elim (c.in-Ok.ensures.no_room full) [ inl e ↦ absurd (cc) | inr e ↦ absurd (cc) ]) c.in-Ok.ensures.ok c.len.ensures,
      ap (λ (s : Session). s.over) c.self.view_is ∙ c.requires,
    )
