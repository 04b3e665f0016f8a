use Rattle.std.proofs.Common.{◌≡◌, ◌^◌, ◌<◌, take}
use Rattle.jf_text.specs.Words.{digits_value}
use Rattle.jf_text.proofs.number.number_of.Given as goal

abbrev pub invariant-loop-digit : goal.invariant-loop-digit
invariant-loop-digit l = (l.number ≡ digits_value (take l.digit-index l.word)) × (l.number < 2 ^ 64)
