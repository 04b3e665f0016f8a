use Rattle.std.proofs.Common.{subst, sym}
use Rattle.std.specs.Option.{option_copied}
use Rattle.jf_diff.specs.Tops.{IsStaleUnder}
use Rattle.jf_diff.proofs.LandingLaws.{stale_top, landed_nodes, landed_names, written_count}
use Rattle.jf_diff.proofs.landing.landing_lists.Goals as goal

pub written_wide-requires-clause-landed : goal.written_wide-requires-clause-landed
written_wide-requires-clause-landed g c κs within =
    let was = option_copied c.top-was.result in
    let top = option_copied c.top-top.result in
    subst (λ v. IsStaleUnder v was top) (sym c.version-version.ensures) (stale_top c.args.old.now c.args.new.now was top c.know.ensures c.top-was.ensures c.top-top.ensures c.requires.next)

pub returns-clause-fresh : goal.returns-clause-fresh
returns-clause-fresh g c = landed_nodes c.args.old.now c.args.new.now (option_copied c.top-top.result) c.version-version.result _ c.know.ensures c.top-top.ensures c.requires.next c.version-version.ensures c.in_ok-lists.ensures.fresh

pub returns-clause-stale : goal.returns-clause-stale
returns-clause-stale g c = landed_names c.args.old.now c.args.new.now (option_copied c.top-was.result) (option_copied c.top-top.result) c.version.result _ c.top-was.ensures c.top-top.ensures c.version.ensures c.in_ok-lists.ensures.stale

pub returns-clause-bounded : goal.returns-clause-bounded
returns-clause-bounded g c =
    written_count c.args.old.now c.args.new.now _ c.know.ensures
    (landed_nodes c.args.old.now c.args.new.now (option_copied c.top-top.result) c.version-version.result _ c.know.ensures c.top-top.ensures c.requires.next c.version-version.ensures c.in_ok-lists.ensures.fresh)
