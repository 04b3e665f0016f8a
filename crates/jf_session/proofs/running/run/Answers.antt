use Rattle.std.proofs.Common.{◌≡◌, [], ap, sym, subst, ◌∙◌, rules}
use Rattle.jf_io.specs.declared.piece.TheConstants.{MAX_PIECE}
use Rattle.jf_store.specs.Passes.{Pass}
use Rattle.jf_history.specs.Sessions.{Session, HoldsPins, new_session}
use Rattle.jf_history.specs.Runs.{HasAnswered, HasRunOver}
use Rattle.jf_history.specs.declared.end.End.{End}
use Rattle.jf_session.proofs.Fed.{ran_shown, read_fault_of, write_fault_of}
use Rattle.jf_session.proofs.SamePass.{same_ran, own_after}
use Rattle.jf_session.proofs.running.run.Goals as goal

pub feed-requires-clause-ready : goal.feed-requires-clause-ready
feed-requires-clause-ready g c =
    let is : c.new-preparing.result ≡ new_session c.args.pass = c.new-preparing.ensures ∙ c.new-session.ensures in (
      c.args.store.now,
      record {
        begun = ap (λ (s : Session). s.over) is;
        own = (ap (λ (s : Session). s.pass.store) is ∙ c.requires.own.0, ap (λ (s : Session). s.pass.start) is ∙ c.requires.own.1);
        steps = (λ s line after out begun own. ((begun, own), search rules), λ s line after out r s' out' did. did);
      },
    )

pub returns-clause-ran : goal.returns-clause-ran
returns-clause-ran g c =
    let source = g.S.Source.rest c.args.source.now in
    let source' = g.S.Source.rest c.feed.new.source in
    let text = g.K.Sink.text c.args.sink.now in
    let text' = g.K.Sink.text c.feed.new.sink in
    let store = c.args.store.now in
    let pass = c.args.pass in
    let none : HasAnswered store.start pass (new_session pass) [] [] = c.none_answered.ensures store.start pass c.requires.unmarked (subst HoldsPins c.new-session.ensures c.know_own.ensures.pins) in
    let r = ran_shown store.start pass c.requires.own.1 none MAX_PIECE source source' text text' (λ t. t.session) c.feed.result _ c.feed.new.machine (c.new-preparing.ensures ∙ c.new-session.ensures) c.feed.ensures.fed in
    let at_end : HasRunOver c.end_of_feeding-end.result store.start pass c.feed.new.machine.session.pass source source' text text' = subst (λ (e : End). HasRunOver e store.start pass c.feed.new.machine.session.pass source source' text text') (sym c.end_of_feeding-end.ensures) r in
    subst (λ (p : Pass). HasRunOver c.end_of_feeding-end.result store.start pass p source source' text text') (sym c.end-pass.ensures) at_end

pub returns-clause-own : goal.returns-clause-own
returns-clause-own g c =
    let same = same_ran _ _ c.args.pass c.end-pass.result _ _ _ _ (returns-clause-ran g c) in
    (own_after c.args.store.now c.args.pass c.end-pass.result c.requires.own same, same.2)

pub returns-clause-read : goal.returns-clause-read
returns-clause-read g c = λ e. c.feed.ensures.read (read_fault_of c.feed.result (sym c.end_of_feeding-end.ensures ∙ e))

pub returns-clause-write : goal.returns-clause-write
returns-clause-write g c = λ e. c.feed.ensures.write (write_fault_of c.feed.result (sym c.end_of_feeding-end.ensures ∙ e))
