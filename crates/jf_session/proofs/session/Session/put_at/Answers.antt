use Rattle.std.proofs.Common.{◌∙◌, ap, inl, inr, Some}
use Rattle.jf_history.specs.Sessions.{Session}
use Rattle.jf_session.proofs.PendingLaws.{full_done, room_done, unchanged}
use Rattle.jf_session.proofs.session.Session.put_at.Goals as goal

pub returns-in-Err-Full-clause-obeyed : goal.returns-in-Err-Full-clause-obeyed
returns-in-Err-Full-clause-obeyed g c = λ start name key.
    let i = c.self.inside in (
      full_done start i.pass i.pending c.put.new.self i.over i.over c.args.self.now c.self.view_is c.self.invariant c.requires.over name (Some c.args.value) c.args.key.now key (c.in-Err-Full.ensures.full (cc)) c.in-Err-Full.ensures.err,
      ap (λ (s : Session). s.over) c.self.view_is ∙ c.requires.over,
    )

pub returns-in-Err-Memory-clause-obeyed : goal.returns-in-Err-Memory-clause-obeyed
returns-in-Err-Memory-clause-obeyed g c = λ start name key.
    let i = c.self.inside in
    unchanged start i.pass i.pending c.put.new.self i.over i.over c.args.self.now c.self.view_is c.self.invariant c.requires.over name (Some c.args.value) c.in-Err-Memory.ensures.err

pub returns-clause-obeyed : goal.returns-clause-obeyed
returns-clause-obeyed g c = λ start name key.
    let i = c.self.inside in (
      room_done start i.pass i.pending c.put.new.self i.over i.over c.args.self.now c.self.view_is c.self.invariant c.requires.over name (Some c.args.value) c.args.key.now c.len.result key
          (λ full. elim (c.in-Ok.ensures.no_room full) [ inl e ↦ absurd (cc) | inr e ↦ absurd (cc) ]) c.in-Ok.ensures.ok c.len.ensures,
      ap (λ (s : Session). s.over) c.self.view_is ∙ c.requires.over,
    )
