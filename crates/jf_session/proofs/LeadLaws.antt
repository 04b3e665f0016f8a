-- A session that leads alone on its store tells of the whole history.
use Rattle.std.proofs.Common.{◌≡◌, ℕ, ◌<◌, List, sym, ap, ◌∙◌, subst, arith}
use Rattle.std.specs.List.{AllByRecursion}
use Rattle.jf_path.proofs.ListLaws.{All-weaker}
use Rattle.jf_lead.specs.declared.block.LandingBlock.{LandingBlock}
use Rattle.jf_lead.specs.Landings.{landings}
use Rattle.jf_lead.specs.Laws.{IsLandingBlock}
use Rattle.jf_store.specs.declared.event.Event.{Event}
use Rattle.jf_store.specs.Events.{pass_named_by}
use Rattle.jf_store.specs.Passes.{new_pass}
use Rattle.jf_history.specs.Sessions.{seen_by}
use Rattle.jf_session.specs.Leading.{own_landings, WritesBlocks}
use Rattle.jf_session.specs.Laws.{OnePassLeadsAll, OneLeadTellsAll}
use Rattle.jf_session.proofs.OwnLandings.{own_landings-all}
use Rattle.jf_session.proofs.SamePass.{same_ran}

-- of one pass each event names number 0
only_zero : (passes n : ℕ) → passes ≡ 1 → n < passes → n ≡ 0
only_zero passes n one low = omega (arith, one, low)

pub one_pass_leads_all : OnePassLeadsAll
one_pass_leads_all start p one zero events =
    own_landings-all 0 start.state p.seen (All-weaker (λ (x : Event). pass_named_by x < start.passes) (λ (x : Event). pass_named_by x ≡ 0) (λ x low. only_zero start.passes (pass_named_by x) one low) p.seen events.named)

pub one_lead_tells_all : OneLeadTellsAll
unfolding own_landings
one_lead_tells_all store e is_cut new rest rest' text text' one events l =
    let zero : new.number ≡ 0 = (same_ran e store.start (new_pass store 0) new rest rest' _ _ l.ran).2 in
    let own : own_landings 0 store.start.state (seen_by new) ≡ l.blocks = ap (λ n. own_landings n store.start.state (seen_by new)) (sym zero) ∙ l.landed.all in
    let all : l.blocks ≡ landings store.start.state (seen_by new) = sym own ∙ one_pass_leads_all store.start new one zero events in
    (subst (AllByRecursion IsLandingBlock) all l.landed.sound, subst (λ (bs : List LandingBlock). WritesBlocks e is_cut store.start.state (seen_by new) bs text text') all l.written)
