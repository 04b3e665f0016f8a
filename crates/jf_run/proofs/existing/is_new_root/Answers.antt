use Rattle.std.proofs.Common.{rules, ◌≡◌, ◌↔◌, ◌∙◌, IsTrue, sym}
use Rattle.jf_run.proofs.Absent.{at_new_root, new_root}
use Rattle.jf_run.proofs.existing.is_new_root.Goals as goal

pub returns-then-version-eq0 : goal.returns-then-version-eq0
returns-then-version-eq0 c =
    let same : IsTrue c.eq.result ↔ (c.args.root.now ≡ c.empty.result) = search rules in (
      λ eq. at_new_root c.args.version c.args.root.now c.if-version-eq0.true (same.0 eq ∙ c.empty.ensures),
      λ there. same.1 ((new_root c.args.version c.args.root.now there).1 ∙ sym c.empty.ensures),
    )
