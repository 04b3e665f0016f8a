use Rattle.jf_node.proofs.link.Link.inner.Given as goal

abbrev pub ghosts-inner_uncounted : goal.ghosts-inner_uncounted
ghosts-inner_uncounted a = record { name = a.blank.name; parts = a.blank.parts }
