use Rattle.std.proofs.Common.{◌≡◌, ◌++◌, take, arith}
use Rattle.std.proofs.lemmas.Grind.{common_steps}
use Rattle.jf_io.proofs.Lines.{kept_after}
use Rattle.jf_io.proofs.piece.append_piece.Goals as goal

pub returns-in-Ok-clause-kept : goal.returns-in-Ok-clause-kept
returns-in-Ok-clause-kept g c = λ rest told.
    let put : c.truncate.new.self.items ≡ c.args.bytes.now.items ++ take c.in-Ok.count c.take.new.buf = grind (arith, common_steps) in
    kept_after _ _ _ _ _ _ rest c.in-Ok.count told c.in-Ok.ensures.moved c.in-Ok.ensures.bytes put
