use Rattle.jf_diff.proofs.landing.landing_lists.Given as goal

abbrev pub ghosts-written_in_turn : goal.ghosts-written_in_turn
ghosts-written_in_turn g a = record { name = a.blank.name; parts = a.blank.parts }
