use Rattle.jf_diff.proofs.parts.part_lists.Given as goal

abbrev pub ghosts-part_lists_uncounted : goal.ghosts-part_lists_uncounted
ghosts-part_lists_uncounted a = record { name = a.blank.name; parts = a.blank.parts }
