use Rattle.std.proofs.Common.{subst}
use Rattle.jf_range.specs.Frontiers.{IsAscending}
use Rattle.jf_restore.specs.RestoreValue.{RestoreValue}
use Rattle.jf_restore.specs.Finishes.{HasImported, IsNotImported}
use Rattle.jf_restore.proofs.Finishing.{announced}
use Rattle.jf_restore.proofs.restore.Restore.finish.Goals as goal

pub returns-in-Ok : goal.returns-in-Ok
returns-in-Ok g c =
    let whole = c.in_ok-count.ensures in
    let rises = subst (λ (r : RestoreValue). IsAscending r.entries) c.self.view_is c.self.invariant.1 in
    record {
      count_is = whole.0;
      rooted = announced c.args.self rises whole.1;
      imported_so = subst (λ (r : RestoreValue). HasImported r.version r.entries c.args.engine.now c.import.new.engine) c.self.view_is c.in-Ok.ensures;
    }

pub returns : goal.returns
returns g c =
    let rises = subst (λ (r : RestoreValue). IsAscending r.entries) c.self.view_is c.self.invariant.1 in (
      announced c.args.self rises c.in_ok-count.ensures.1,
      subst (λ (r : RestoreValue). IsNotImported r.version r.entries c.args.engine.now c.import.new.engine c.in-Err.why) c.self.view_is c.in-Err.ensures,
    )
