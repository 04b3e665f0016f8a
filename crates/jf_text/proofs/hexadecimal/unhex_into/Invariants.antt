use Rattle.std.proofs.Common.{◌≡◌, length}
use Rattle.jf_text.proofs.PairText.{ReadsPairs}
use Rattle.jf_text.proofs.hexadecimal.unhex_into.Given as goal

abbrev pub invariant-pairs : goal.invariant-pairs
invariant-pairs l = (length l.out ≡ length l.initial.out) × ReadsPairs l.word l.i l.out l.greatest
