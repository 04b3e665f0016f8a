use Rattle.jf_node.proofs.link.Link.with_children.Given as goal

abbrev pub ghosts-with_children_uncounted : goal.ghosts-with_children_uncounted
ghosts-with_children_uncounted a = record { name = a.blank.name; parts = a.blank.parts }
