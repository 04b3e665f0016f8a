use Rattle.std.proofs.Common.{[], ap, sym, subst, ◌∙◌, rules}
use Rattle.jf_store.specs.Passes.{Pass}
use Rattle.jf_history.specs.Sessions.{Session, HoldsPins, new_session}
use Rattle.jf_history.specs.Runs.{HasAnswered}
use Rattle.jf_history.specs.declared.end.End.{End}
use Rattle.jf_session.specs.Leading.{HasLedOver}
use Rattle.jf_session.proofs.Fed.{read_fault_of, write_fault_of}
use Rattle.jf_session.proofs.LedFed.{led_shown}
use Rattle.jf_session.proofs.SamePass.{same_ran, own_after}
use Rattle.jf_session.proofs.leading.lead.Goals as goal

pub feed_through-how-requires-clause-ready : goal.feed_through-how-requires-clause-ready
feed_through-how-requires-clause-ready g c = (
  c.args.store.now,
  record {
    begun = ap (λ (s : Session). s.over) c.new-session.ensures;
    own = (ap (λ (s : Session). s.pass.store) c.new-session.ensures ∙ c.requires.own.0, ap (λ (s : Session). s.pass.start) c.new-session.ensures ∙ c.requires.own.1);
    steps = (λ s line after out begun own. ((begun, own), search rules), λ s line after out r s' out' did. did);
  },
)

pub returns-clause-led : goal.returns-clause-led
returns-clause-led g c =
    let source = g.S.Source.rest c.args.source.now in
    let source' = g.S.Source.rest c.feed_through-how.new.source in
    let text = g.K.Sink.text c.args.sink.now in
    let text' = g.K.Sink.text c.feed_through-how.new.sink in
    let store = c.args.store.now in
    let pass = c.args.pass in
    let f = c.feed_through-how in
    let none : HasAnswered store.start pass (new_session pass) [] [] = c.none_answered.ensures store.start pass c.requires.unmarked (subst HoldsPins c.new-session.ensures c.know_own.ensures.pins) in
    let l = led_shown store.start pass c.requires.own.1 65536 source source' text text' (λ t. t.session) _ f.new.machine c.new-session.ensures none f.result.how f.result.is_cut f.ensures.unstopped f.ensures.fed in
    let at_end : HasLedOver c.end_of_feeding-end.result f.result.is_cut store.start pass f.new.machine.session.pass source source' text text' = subst (λ (e : End). HasLedOver e f.result.is_cut store.start pass f.new.machine.session.pass source source' text text') (sym c.end_of_feeding-end.ensures) l in
    subst (λ (p : Pass). HasLedOver c.end_of_feeding-end.result f.result.is_cut store.start pass p source source' text text') (sym c.end-pass.ensures) at_end

pub returns-clause-own : goal.returns-clause-own
returns-clause-own g c =
    let l = returns-clause-led g c in
    let same = same_ran _ _ c.args.pass c.end-pass.result _ _ _ _ l.ran in
    (own_after c.args.store.now c.args.pass c.end-pass.result c.requires.own same, same.2)

pub returns-clause-read : goal.returns-clause-read
returns-clause-read g c = λ e. c.feed_through-how.ensures.read (read_fault_of _ (sym c.end_of_feeding-end.ensures ∙ e))

pub returns-clause-unstopped : goal.returns-clause-unstopped
returns-clause-unstopped g c = λ e. c.feed_through-how.ensures.unstopped (write_fault_of _ (sym c.end_of_feeding-end.ensures ∙ e))
