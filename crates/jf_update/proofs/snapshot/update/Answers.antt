use Rattle.std.proofs.Common.{sym, subst, ap, ◌∙◌, length, map, IsTrue, List}
use Rattle.jf_path.specs.Names.{are_rising}
use Rattle.jf_path.specs.declared.name.NodeName.{NodeName}
use Rattle.jf_path.specs.declared.node.PlainNode.{PlainNode}
use Rattle.jf_hash.specs.Maps.{IsBatch}
use Rattle.jf_diff.specs.Landings.{IsFreshCount, IsNextSnapshot}
use Rattle.jf_diff.proofs.LandingLaws.{written_rise}
use Rattle.jf_update.specs.Outcomes.{AreShort}
use Rattle.jf_update.proofs.SnapshotUpdateLaws.{updated}
use Rattle.jf_update.proofs.snapshot.update.Goals as goal

pub advance-requires-clause-batch : goal.advance-requires-clause-batch
advance-requires-clause-batch g c κs le = subst IsBatch (sym c.as_slice-entries.ensures.entries) c.as_slice-entries.ensures.sound

pub advance-requires-clause-short : goal.advance-requires-clause-short
advance-requires-clause-short g c κs le = subst AreShort (sym c.as_slice-entries.ensures.entries) c.as_slice-entries.ensures.bounded.values

pub landing_lists-requires-clause-next : goal.landing_lists-requires-clause-next
landing_lists-requires-clause-next g c κs le = (c.as_slice-entries.result.now, c.in_ok-snapshot.ensures)

pub copy-requires : goal.copy-requires
copy-requires g c =
    subst (λ (es : List (NodeName × PlainNode)). IsTrue (are_rising (map (λ e. e.0) es))) (sym c.in_ok-fresh.ensures.fresh) (written_rise c.args.head.now.map c.in_ok-snapshot.snapshot.map c.in_ok-snapshot.snapshot)

pub returns : goal.returns
returns g c =
    updated c.args.head.now c.args.batch.now _ c.as_slice-entries.ensures.sound (subst (λ b. IsNextSnapshot c.args.head.now b c.in_ok-snapshot.snapshot) c.as_slice-entries.ensures.entries c.in_ok-snapshot.ensures) c.root.ensures
    (c.in_ok-nodes.ensures ∙ c.in_ok-fresh.ensures.fresh) c.in_ok-fresh.ensures.stale (subst (IsFreshCount c.args.head.now c.in_ok-snapshot.snapshot) (ap length (sym c.in_ok-nodes.ensures)) c.in_ok-fresh.ensures.bounded)
