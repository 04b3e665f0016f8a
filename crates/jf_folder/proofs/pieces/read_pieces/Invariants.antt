use Rattle.std.proofs.Common.{◌≡◌, ◌<◌, ◌≤◌, ◌^◌, length}
use Rattle.jf_path.specs.Faults.{HasCause}
use Rattle.jf_folder.specs.Calls.{ReadsAlone}
use Rattle.jf_folder.proofs.pieces.read_pieces.Given as goal

abbrev pub invariant-loop : goal.invariant-loop
invariant-loop l = record {
  within : l.n ≤ length l.buf;
  buf : length l.buf ≡ length l.initial.buf;
  calls : ReadsAlone l.initial.file l.file;
  made : 0 < l.n → HasCause l.initial.file.reads l.file.reads;
  at : l.at ≤ 2 ^ 62;
}
