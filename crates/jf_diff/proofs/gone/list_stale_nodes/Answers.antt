use Rattle.std.proofs.Common.{subst, sym}
use Rattle.std.specs.Option.{option_copied}
use Rattle.jf_diff.specs.Tops.{IsStaleUnder}
use Rattle.jf_diff.proofs.GoneLaws.{stale_later, gone_landed}
use Rattle.jf_diff.proofs.gone.list_stale_nodes.Goals as goal

pub list_gone_under-requires-clause-landed : goal.list_gone_under-requires-clause-landed
list_gone_under-requires-clause-landed c =
    subst (λ v. IsStaleUnder v (option_copied c.top.result) (option_copied c.top-2.result)) (sym c.version-2.ensures)
    (stale_later c.args.old.now c.args.new.now (option_copied c.top.result) (option_copied c.top-2.result) c.know.ensures c.top.ensures c.top-2.ensures c.requires.later)

pub returns-clause-listed : goal.returns-clause-listed
returns-clause-listed c = gone_landed c.version-2.result c.version.result c.args.old.now c.args.new.now (option_copied c.top.result) (option_copied c.top-2.result) _ _ c.version.ensures c.version-2.ensures c.top.ensures c.top-2.ensures c.in_ok-list_gone_under.ensures.listed
