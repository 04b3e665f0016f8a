use Rattle.std.proofs.Common.{◌∙◌, ap, sym}
use Rattle.jf_hash.proofs.RootLaws.{root-empty}
use Rattle.jf_run.specs.declared.status.Status.TheVariants as status
use Rattle.jf_run.proofs.existing.no_store.Goals as goal

pub returns : goal.returns
returns c = ap (λ root. status.Elsewhere 0 root) (c.empty.ensures ∙ sym root-empty)
