use Rattle.std.proofs.Common.{sym, subst}
use Rattle.jf_hash.specs.Maps.{IsBatch}
use Rattle.jf_update.specs.Outcomes.{AreShort}
use Rattle.test_update.proofs.two_calls.in_two_calls.Goals as goal

pub advance-requires-clause-batch : goal.advance-requires-clause-batch
advance-requires-clause-batch g c κs le = subst IsBatch (sym c.as_slice-entries.ensures.entries) c.as_slice-entries.ensures.sound

pub advance-requires-clause-short : goal.advance-requires-clause-short
advance-requires-clause-short g c κs le = subst AreShort (sym c.as_slice-entries.ensures.entries) c.as_slice-entries.ensures.bounded.values

pub landing_lists-requires-clause-next : goal.landing_lists-requires-clause-next
landing_lists-requires-clause-next g c κs le = (c.as_slice-entries.result.now, c.in_ok-snapshot.ensures)
