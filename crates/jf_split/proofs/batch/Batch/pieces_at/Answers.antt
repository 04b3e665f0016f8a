-- If the keys of a batch agree before a depth, the nibble there doesn't fall along the batch.
use Rattle.std.proofs.Common.{sym, subst}
use Rattle.std.specs.List.Sorted.{IsNonDecreasingBy}
use Rattle.jf_path.specs.Nibbles.{nibble}
use Rattle.jf_split.specs.Pieces.{AgreeBefore}
use Rattle.jf_split.proofs.Rises.{IsNonDecreasingBy-nibble}
use Rattle.jf_split.proofs.batch.Batch.pieces_at.Goals as goal

pub pieces_of-requires-clause-sorted : goal.pieces_of-requires-clause-sorted
pieces_of-requires-clause-sorted c =
    let agree = subst (AgreeBefore c.args.depth) (sym c.self.view_is) c.requires.agree in
    subst (IsNonDecreasingBy (λ e. nibble e.0 c.args.depth)) (sym c.deref.ensures.value) (IsNonDecreasingBy-nibble c.args.depth c.self.inside.entries.items c.requires.depth c.self.invariant.0.sorted c.self.invariant.0.keys agree)
