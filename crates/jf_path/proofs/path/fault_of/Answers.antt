-- Both tests fail or hold as the definition's do.
use Rattle.std.proofs.Common.{sym, rules}
use Rattle.jf_path.proofs.Paths.{fault_of_count, fault_of_length, fault_of_padding, no_fault}
use Rattle.jf_path.proofs.path.fault_of.Goals.{then-count-gt-MAX_NIBBLES-via-then-count-gt-MAX_NIBBLES, then-count-gt-MAX_NIBBLES-via-else-count-gt-MAX_NIBBLES+then-packed-count, else-count-eq1-via-then-count-eq1+else-packed-count-ne0, else-count-eq1-via-else-count-eq1}
use Rattle.jf_path.proofs.path.fault_of.Goals as goal

pub returns-then-count-gt-MAX_NIBBLES : goal.returns-then-count-gt-MAX_NIBBLES
returns-then-count-gt-MAX_NIBBLES c =
    elim c.then-count-gt-MAX_NIBBLES.branch [
      | then-count-gt-MAX_NIBBLES-via-then-count-gt-MAX_NIBBLES w ↦ sym (fault_of_count c.args.count c.args.packed.now (search rules))
      | then-count-gt-MAX_NIBBLES-via-else-count-gt-MAX_NIBBLES+then-packed-count w ↦ sym (fault_of_length c.args.count c.args.packed.now (search rules))
    ]

pub returns-then-packed-count-ne0 : goal.returns-then-packed-count-ne0
returns-then-packed-count-ne0 c = sym (fault_of_padding c.args.count c.args.packed.now (search rules) (search rules) (search rules) (search rules))

pub returns : goal.returns
returns c =
    elim c.else-count-eq1.branch [
      | else-count-eq1-via-then-count-eq1+else-packed-count-ne0 w ↦ sym (no_fault c.args.count c.args.packed.now (search rules) (search rules) (λ odd. search rules))
      | else-count-eq1-via-else-count-eq1 w ↦ sym (no_fault c.args.count c.args.packed.now (search rules) (search rules) (λ odd. search rules))
    ]
