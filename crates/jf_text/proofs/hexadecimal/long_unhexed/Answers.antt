use Rattle.std.proofs.Common.{◌≡◌, [], ◌∷◌, ◌++◌, sym, ◌∙◌, arith}
use Rattle.jf_text.proofs.HexText.{unhex-bad, unhex-more, unhex-all}
use Rattle.jf_text.proofs.hexadecimal.long_unhexed.Goals as goal

pub returns-in_default : goal.returns-in_default
returns-in_default c =
    sym (unhex-bad c.args.word.now c.pairs.bytes c.pairs.i (omega arith) (sym c.byte_of.ensures ∙ c.in_default.is) c.pairs.invariant)

pub pairs-preserved : goal.pairs-preserved
pairs-preserved c =
    let ok : c.push.new.self ≡ c.pairs.bytes ++ c.in-Some.byte ∷ [] = c.in_ok-push.ensures.ok in
    rw ok (unhex-more c.args.word.now c.pairs.bytes c.pairs.i c.in-Some.byte (omega arith) (sym c.byte_of.ensures ∙ c.in-Some.is) c.pairs.invariant)

pub returns : goal.returns
returns c = unhex-all c.args.word.now c.pairs.bytes c.pairs.i (omega arith) c.pairs.invariant
