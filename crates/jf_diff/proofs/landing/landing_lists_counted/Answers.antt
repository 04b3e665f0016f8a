use Rattle.std.proofs.Common.{subst, sym, ◌∙◌}
use Rattle.std.specs.Option.{option_copied}
use Rattle.jf_diff.specs.OptionalNodes.{IsOfVersion}
use Rattle.jf_diff.specs.Tops.{IsStaleUnder}
use Rattle.jf_diff.proofs.LandingLaws.{top_placed, top_own, stale_top, sorted_top, landed_nodes, landed_names, written_count}
use Rattle.jf_diff.proofs.landing.landing_lists_counted.Goals as goal

pub fresh_of-requires-clause-top : goal.fresh_of-requires-clause-top
fresh_of-requires-clause-top g c = top_placed c.args.new.now.version (option_copied c.top.result) c.top.ensures.top

pub fresh_of-requires-clause-own : goal.fresh_of-requires-clause-own
fresh_of-requires-clause-own g c = subst (λ v. IsOfVersion v (option_copied c.top.result)) (sym c.version.ensures) (top_own c.args.new.now.version (option_copied c.top.result) c.top.ensures.top)

pub stale_of-requires-clause-old : goal.stale_of-requires-clause-old
stale_of-requires-clause-old g c = top_placed c.args.old.now.version (option_copied c.top-2.result) c.top-2.ensures.top

pub stale_of-requires-clause-top : goal.stale_of-requires-clause-top
stale_of-requires-clause-top g c = top_placed c.args.new.now.version (option_copied c.top-3.result) c.top-3.ensures.top

pub stale_of-requires-clause-own : goal.stale_of-requires-clause-own
stale_of-requires-clause-own g c = subst (λ v. IsOfVersion v (option_copied c.top-3.result)) (sym c.version-3.ensures) (top_own c.args.new.now.version (option_copied c.top-3.result) c.top-3.ensures.top)

pub stale_of-requires-clause-landed : goal.stale_of-requires-clause-landed
stale_of-requires-clause-landed g c =
    subst (λ v. IsStaleUnder v (option_copied c.top-2.result) (option_copied c.top-3.result)) (sym c.version-3.ensures)
    (stale_top c.args.old.now c.args.new.now (option_copied c.top-2.result) (option_copied c.top-3.result) c.know.ensures c.top-2.ensures c.top-3.ensures c.requires.next)

pub stale_of-requires-clause-sorted : goal.stale_of-requires-clause-sorted
stale_of-requires-clause-sorted g c = sorted_top c.args.new.now (option_copied c.top-3.result) c.top-3.ensures

pub returns-clause-fresh : goal.returns-clause-fresh
returns-clause-fresh g c = landed_nodes c.args.old.now c.args.new.now (option_copied c.top.result) c.version.result _ c.know.ensures c.top.ensures c.requires.next c.version.ensures (λ es before under. c.in_ok-fresh.ensures ∙ c.in_ok-nodes.ensures.lists es before under)

pub returns-clause-stale : goal.returns-clause-stale
returns-clause-stale g c = landed_names c.args.old.now c.args.new.now (option_copied c.top-2.result) (option_copied c.top-3.result) c.version-2.result _ c.top-2.ensures c.top-3.ensures c.version-2.ensures c.in_ok-stale.ensures.lists

pub returns-clause-bounded : goal.returns-clause-bounded
returns-clause-bounded g c =
    written_count c.args.old.now c.args.new.now _ c.know.ensures (landed_nodes c.args.old.now c.args.new.now (option_copied c.top.result) c.version.result _ c.know.ensures c.top.ensures c.requires.next c.version.ensures (λ es before under. c.in_ok-fresh.ensures ∙ c.in_ok-nodes.ensures.lists es before under))
