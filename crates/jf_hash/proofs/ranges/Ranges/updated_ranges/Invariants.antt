use Rattle.jf_hash.proofs.ranges.Ranges.updated_ranges.Given as goal

abbrev pub ghosts-updated_uncounted : goal.ghosts-updated_uncounted
ghosts-updated_uncounted g a = record { name = a.blank.name; parts = a.blank.parts }
