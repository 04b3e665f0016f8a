use Rattle.jf_proof.proofs.honest.prove.Given as goal

abbrev pub ghosts-prove_uncounted : goal.ghosts-prove_uncounted
ghosts-prove_uncounted a = record { name = a.blank.name; parts = a.blank.parts }
