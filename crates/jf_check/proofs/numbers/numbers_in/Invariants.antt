-- The others go on with the result of the records before the present place for the first numbers.
use Rattle.std.proofs.Common.{◌≡◌, drop}
use Rattle.jf_check.specs.Numbers.{numbers_through}
use Rattle.jf_check.proofs.numbers.numbers_in.Given as goal

abbrev pub invariant-loop-place : goal.invariant-loop-place
invariant-loop-place l = numbers_through l.numbers (drop l.place l.log.records) ≡ numbers_through l.initial.numbers (drop 1 l.log.records)
