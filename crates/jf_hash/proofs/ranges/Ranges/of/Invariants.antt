use Rattle.jf_hash.proofs.ranges.Ranges.of.Given as goal

abbrev pub ghosts-of_uncounted : goal.ghosts-of_uncounted
ghosts-of_uncounted g a = record { name = a.blank.name; parts = a.blank.parts }
