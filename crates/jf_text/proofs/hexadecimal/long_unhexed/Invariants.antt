use Rattle.std.proofs.Common.{◌≡◌, ◌*◌, drop}
use Rattle.jf_text.specs.Words.{unhex}
use Rattle.jf_text.proofs.HexText.{with_bytes_before}
use Rattle.jf_text.proofs.hexadecimal.long_unhexed.Given as goal

abbrev pub invariant-pairs : goal.invariant-pairs
invariant-pairs l = unhex l.word ≡ with_bytes_before l.bytes (unhex (drop (2 * l.i) l.word))
