use Rattle.std.proofs.Common.{subst, T}
use Rattle.std.specs.FinMap.{is_sorted}
use Rattle.jf_path.specs.Keys.{key_cmp}
use Rattle.jf_split.proofs.BatchLaws.{IsDistinct-keys}
use Rattle.jf_split.proofs.batch.Batch.as_slice.Goals as goal

pub returns-clause-distinct : goal.returns-clause-distinct
returns-clause-distinct c = IsDistinct-keys _ (subst (λ b. T (is_sorted key_cmp b)) c.self.view_is c.self.invariant.0.sorted)
