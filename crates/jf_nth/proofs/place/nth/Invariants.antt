use Rattle.jf_nth.proofs.place.nth.Given as goal

abbrev pub ghosts-nth_uncounted : goal.ghosts-nth_uncounted
ghosts-nth_uncounted a = record { name = a.blank.name; parts = a.blank.parts }
