-- As many nibbles as the count says, and each is half of a byte.
use Rattle.std.proofs.Common.{length, ap, subst, sym, ◌∙◌}
use Rattle.jf_path.specs.PackedPath.{kept_count}
use Rattle.jf_path.specs.Paths.{IsPath}
use Rattle.jf_path.proofs.PackedPaths.{kept_path}
use Rattle.jf_path.proofs.path.NibblePath.len.Goals as goal

pub returns-clause-value : goal.returns-clause-value
returns-clause-value c = sym (kept_count c.self.inside.count c.self.inside.nibbles c.self.invariant) ∙ ap length c.self.view_is

pub returns-clause-path : goal.returns-clause-path
returns-clause-path c = subst IsPath c.self.view_is (kept_path c.self.inside.count c.self.inside.nibbles c.self.invariant)
