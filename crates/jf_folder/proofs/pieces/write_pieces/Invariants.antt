use Rattle.std.proofs.Common.{◌+◌, ◌<◌, ◌≤◌, ◌^◌, length}
use Rattle.jf_path.specs.Faults.{HasCause}
use Rattle.jf_folder.specs.Calls.{MakesWriteAlone}
use Rattle.jf_folder.proofs.pieces.write_pieces.Given as goal

abbrev pub invariant-loop : goal.invariant-loop
invariant-loop l = record {
  within : l.n ≤ length l.bytes;
  calls : MakesWriteAlone l.initial.file l.file;
  made : 0 < l.n → HasCause l.initial.file.writes l.file.writes;
  room : l.at + length l.bytes ≤ 2 ^ 62;
}
