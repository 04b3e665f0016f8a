use Rattle.std.proofs.Common.{sym, subst, IsUtf8}
use Rattle.jf_main.proofs.HexText.{digits_are_text}
use Rattle.jf_main.proofs.status_line.digits.Goals as goal

pub returns-in-Err : goal.returns-in-Err
returns-in-Err c = absurd (c.in-Err.ensures.cases.0 (subst IsUtf8 (sym c.write_digits.ensures) (digits_are_text _)))
