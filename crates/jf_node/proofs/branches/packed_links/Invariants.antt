-- the links so far are those of the first places, and the children after them have not moved
use Rattle.std.proofs.Common.{◌≡◌, ◌≤◌, ℕ, None, length, get_or, take}
use Rattle.jf_path.specs.Bitmaps.{present}
use Rattle.jf_node.proofs.branches.packed_links.Given as goal

abbrev pub invariant-loop-n : goal.invariant-loop-n
invariant-loop-n l = record {
  long : length l.links ≡ 16;
  moved : l.out.items ≡ present (take l.n l.initial.links);
  rest : (k : ℕ) → l.n ≤ k → get_or l.links k None ≡ get_or l.initial.links k None;
}
