-- The file was read and nothing else.
use Rattle.jf_folder.specs.Calls.{ReadsAlone}
use Rattle.jf_folder.proofs.reading.bytes_at_once.Given as goal

abbrev pub invariant-loop : goal.invariant-loop
invariant-loop l = ReadsAlone l.initial.file l.file
