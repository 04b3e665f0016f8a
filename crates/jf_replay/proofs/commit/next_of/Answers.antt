use Rattle.std.proofs.Common.{sym, ◌∙◌, subst}
use Rattle.jf_hash.specs.Maps.{IsBatch}
use Rattle.jf_update.specs.Outcomes.{AreShort}
use Rattle.jf_replay.proofs.Spelled.{changes_by-IsBatch, changes_by-AreShort}
use Rattle.jf_replay.proofs.commit.next_of.Goals as goal

pub next-requires-clause-batch : goal.next-requires-clause-batch
next-requires-clause-batch g c κs within =
    subst IsBatch (sym (c.deref-2.ensures.value ∙ c.in_ok-entries.ensures.found)) (changes_by-IsBatch c.newest-head.result.now.map c.args.leaves.now c.args.stale.now c.know.ensures.map c.requires.entries)

pub next-requires-clause-short : goal.next-requires-clause-short
next-requires-clause-short g c κs within =
    subst AreShort (sym (c.deref-2.ensures.value ∙ c.in_ok-entries.ensures.found)) (changes_by-AreShort c.newest-head.result.now.map c.args.leaves.now c.args.stale.now c.requires.short)
