use Rattle.std.proofs.Common.{rules, arith, ◌∙◌}
use Rattle.jf_text.proofs.HexWritten.{encode-more, encode-none}
use Rattle.jf_text.proofs.writing.write_hex.Goals as goal

pub parts-init : goal.parts-init
parts-init c = (encode-none c.append.new.self c.args.bytes.now, omega arith)

pub parts-preserved : goal.parts-preserved
parts-preserved c = (c.in_ok-write_part.ensures.ok ∙ encode-more c.append.new.self c.parts.out c.args.bytes.now c.parts.start c.min-end.result (search rules) c.parts.invariant.0, search rules)
