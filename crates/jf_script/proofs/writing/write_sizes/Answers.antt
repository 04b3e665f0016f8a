use Rattle.std.proofs.lemmas.List.{append_assoc, append-nil}
use Rattle.jf_script.proofs.writing.write_sizes.Goals as goal

pub returns-clause-ok : goal.returns-clause-ok
returns-clause-ok c =
    let written = rw (c.in_ok-write_number-2.ensures.ok, c.in_ok-write_number.ensures.ok) at c.write_number-3.ensures.ok in
    simp append-nil (simp append_assoc at written)
