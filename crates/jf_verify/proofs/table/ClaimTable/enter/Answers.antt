use Rattle.std.proofs.Common.{sym, subst}
use Rattle.std.proofs.lemmas.Map.Views.{All-values-insert_entry}
use Rattle.jf_verify.specs.Accepted.{IsAccepted, AreAccepted}
use Rattle.jf_verify.specs.Kept.{subject_cmp}
use Rattle.jf_verify.proofs.table.ClaimTable.enter.Goals as goal

pub invariant_of-self-2 : goal.invariant_of-self-2
invariant_of-self-2 c =
    let claim = c.args.claim in
    subst AreAccepted (sym c.in_ok-insert.ensures.entries)
    (All-values-insert_entry subject_cmp (claim.root, claim.judged.key) claim IsAccepted c.self.inside.claims.entries c.self.invariant c.requires)
