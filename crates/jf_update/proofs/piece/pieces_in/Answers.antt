use Rattle.std.proofs.lemmas.Result.{IfOk-weaker}
use Rattle.std.specs.List.{AllByRecursion}
use Rattle.jf_split.specs.Pieces.{ArePieces}
use Rattle.jf_update.specs.Wide.{IsPieceOf}
use Rattle.jf_update.proofs.PieceCuts.{rising_part, pieces_each}
use Rattle.jf_update.proofs.piece.pieces_in.Goals as goal

pub pieces_of-requires-clause-sorted : goal.pieces_of-requires-clause-sorted
pieces_of-requires-clause-sorted c = rising_part c.args.depth c.requires.part.0 c.args.entries.now c.requires.depth c.requires.part.1

pub returns-clause-pieces : goal.returns-clause-pieces
returns-clause-pieces c =
    let bs = c.args.entries.now in
    IfOk-weaker c.pieces_of.result (λ ps. ArePieces c.args.depth bs ps.items) (λ ps. AllByRecursion (IsPieceOf c.args.depth bs) ps.items) (λ ps are. pieces_each c.args.depth bs ps.items are) c.pieces_of.ensures
