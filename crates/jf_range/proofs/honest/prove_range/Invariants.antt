use Rattle.jf_range.proofs.honest.prove_range.Given as goal

abbrev pub ghosts-prove_uncounted : goal.ghosts-prove_uncounted
ghosts-prove_uncounted a = record { name = a.blank.name; parts = a.blank.parts }
