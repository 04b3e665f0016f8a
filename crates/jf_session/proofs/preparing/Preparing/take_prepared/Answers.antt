use Rattle.std.proofs.Common.{◌≡◌, ◌∙◌, ◌++◌, drop, sym, ap, subst}
use Rattle.std.proofs.lemmas.Slice.Eq.{bytes_eq-Decides}
use Rattle.std.specs.Prelude.{Ok}
use Rattle.jf_path.proofs.BoolLaws.{not_false}
use Rattle.jf_history.specs.Sessions.{Session}
use Rattle.jf_session.specs.Taking.{DoesLine}
use Rattle.jf_session.proofs.HeadReplies.{DoesLine-prepared}
use Rattle.jf_session.proofs.preparing.Preparing.take_prepared.Goals as goal

pub returns-in-Ok-clause-taken : goal.returns-in-Ok-clause-taken
returns-in-Ok-clause-taken g c = λ taken.
    let i = c.self.inside in
    let start = c.args.store.now.start in
    let line = c.args.line.now in
    let out = c.args.out.now in
    let out' = c.append.new.self in
    let first = c.in-Some.ensures.found in
    let same : c.in-Some.prepared_line.now ≡ line = (bytes_eq-Decides _ _).0 (not_false _ (sym c.ne.ensures ∙ c.if-ne.false)) in
    let is = ap (λ (s : Session). s.pass.start) c.self.view_is ∙ c.requires.own.1 in
    let goes = ap (λ (s : Session). s.over) c.self.view_is ∙ c.requires.over in
    subst (λ (s : Session). DoesLine s line out (Ok tt) i.session out') c.self.view_is
    (DoesLine-prepared start i.session line out out' is goes c.know.ensures c.know_own.ensures.pins c.know_events.ensures i.replies (drop 1 i.replies) c.self.invariant.0 c.in-Some.prepared_line.now c.in-Some.text.now first same c.in-Ok.ensures.ok)
