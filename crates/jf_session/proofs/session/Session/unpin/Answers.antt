use Rattle.std.proofs.Common.{ap, ◌∙◌}
use Rattle.jf_history.specs.Sessions.{Session}
use Rattle.jf_session.proofs.PinCalls.{IsDoneAs-freed, IsSoundSession-freed, IsDoneAs-not_freed}
use Rattle.jf_session.proofs.session.Session.unpin.Goals as goal

pub returns-in_default : goal.returns-in_default
returns-in_default g c =
    let i = c.self.inside in
    let f = c.in_default.ensures in
    let goes = ap (λ (s : Session). s.over) c.self.view_is ∙ c.requires.over in
    (IsDoneAs-not_freed c.args.store.now.start c.args.store.now i.pass c.unpin.new.self i.pending c.args.place i.over c.self.invariant f.none f.version goes i.over c.args.self.now c.self.view_is, goes)

pub invariant_of-self-2 : goal.invariant_of-self-2
invariant_of-self-2 g c =
    let i = c.self.inside in
    let f = c.in-Some.ensures in
    IsSoundSession-freed c.args.store.now.start c.args.store.now i.pass c.unpin.new.self i.pending c.args.place i.over c.self.invariant f.found f.rest

pub returns : goal.returns
returns g c =
    let i = c.self.inside in
    let f = c.in-Some.ensures in
    let goes = ap (λ (s : Session). s.over) c.self.view_is ∙ c.requires.over in
    (IsDoneAs-freed c.args.store.now.start c.args.store.now i.pass c.unpin.new.self i.pending c.args.place i.over c.self.invariant f.found f.rest c.in-Some.version f.version goes i.over c.args.self.now c.self.view_is, goes)
