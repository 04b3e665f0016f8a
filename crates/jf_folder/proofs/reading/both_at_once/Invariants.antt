-- Both files were read and nothing else.
use Rattle.jf_folder.specs.Reading.{IsReadAlone}
use Rattle.jf_folder.proofs.reading.both_at_once.Given as goal

abbrev pub invariant-loop : goal.invariant-loop
invariant-loop l = IsReadAlone l.initial.a l.a × IsReadAlone l.initial.b l.b
