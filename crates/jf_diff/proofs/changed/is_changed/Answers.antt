use Rattle.std.proofs.Common.{◌↔◌, IsTrue, subst, sym}
use Rattle.std.specs.Option.{option_copied}
use Rattle.jf_node.specs.Children.{content}
use Rattle.jf_diff.specs.Changed.{ChangesBelow}
use Rattle.jf_diff.proofs.ChangedLaws.{changed-gone, changed-new}
use Rattle.jf_diff.proofs.changed.is_changed.Goals as goal

pub returns-in-None : goal.returns-in-None
returns-in-None c =
    subst (λ b. IsTrue b ↔ ChangesBelow (content (option_copied c.args.old)) (content (option_copied c.args.top)) c.args.n) (sym c.is_some.ensures)
    (changed-gone (option_copied c.args.old) (option_copied c.args.top) c.args.n c.child_in.result c.child_in-in-None.result c.requires.old c.requires.top c.child_in.ensures c.in-None.is c.child_in-in-None.ensures)

pub returns-in-Some : goal.returns-in-Some
returns-in-Some c =
    changed-new c.args.version (option_copied c.args.old) (option_copied c.args.top) c.requires.landed.0 c.args.n c.child_in.result c.in-Some.child c.version.result c.requires.top c.requires.landed.1 c.child_in.ensures c.in-Some.is c.know.ensures c.version.ensures
