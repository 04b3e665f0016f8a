-- The order of the bytes and then of the counts is that of the nibbles.
use Rattle.std.proofs.Common.{ap₂, ◌∙◌, nat_cmp}
use Rattle.std.specs.Ordering.{ordering_then}
use Rattle.std.specs.Cmp.Lexicographic.{slice_cmp}
use Rattle.jf_path.proofs.PackedOrder.{kept_cmp}
use Rattle.jf_path.proofs.path.NibblePathOrd.cmp.Goals as goal

pub returns : goal.returns
returns c =
    c.then.ensures ∙ ap₂ ordering_then c.cmp.ensures c.cmp-2.ensures
    ∙ kept_cmp c.self.inside.count c.other.inside.count c.self.inside.nibbles c.other.inside.nibbles c.self.invariant c.other.invariant ∙ ap₂ (slice_cmp nat_cmp) c.self.view_is c.other.view_is
