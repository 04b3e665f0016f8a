use Rattle.std.proofs.Common.{rules}
use Rattle.std.proofs.lemmas.List.Sorted.{IsPartitionPoint-from_clause}
use Rattle.jf_replay.specs.Cuts.{is_written_by}
use Rattle.jf_replay.proofs.Runs.{parted, take-point}
use Rattle.jf_replay.proofs.landing.count_by_version.Goals as goal

pub returns-clause-front : goal.returns-clause-front
returns-clause-front c =
    let ns = c.args.nodes.now in
    let point = IsPartitionPoint-from_clause (is_written_by c.args.version) _ _ c.partition_point.ensures.partitioned (parted c.args.version ns c.requires) (λ a r f called. search rules) in
    take-point (is_written_by c.args.version) ns c.partition_point.result point c.partition_point.ensures.bound
