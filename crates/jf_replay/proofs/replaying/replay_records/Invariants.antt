-- The records that were taken lead to what the directory holds, and the others follow them.
use Rattle.std.proofs.Common.{◌≡◌, ◌++◌, List}
use Rattle.std.specs.Vec.Iter.{into_iter_items}
use Rattle.jf_frame.specs.Framed.{LogRecord}
use Rattle.jf_standing.specs.FormatLaws.{standing_in}
use Rattle.jf_files.specs.Files.{LeadToStanding}
use Rattle.jf_replay.proofs.replaying.replay_records.Given as goal

abbrev pub invariant-loop-record : goal.invariant-loop-record
invariant-loop-record g l = (done : List LogRecord) × (done ++ into_iter_items l.record-iterator ≡ l.fn.records.items) × LeadToStanding done l.format (standing_in l.format l.directory)
