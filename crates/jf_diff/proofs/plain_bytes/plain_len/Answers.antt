use Rattle.std.proofs.Common.{◌≡◌, [], length, subst, sym}
use Rattle.jf_codec.specs.Spelling.{node_bytes}
use Rattle.jf_codec.specs.declared.format.Format.TheVariants as format
use Rattle.jf_diff.specs.Plains.{plain_under}
use Rattle.jf_diff.proofs.PlainBytes.{null_bytes}
use Rattle.jf_diff.proofs.plain_bytes.plain_len.Goals as goal

pub returns-in-None : goal.returns-in-None
returns-in-None c = subst (λ o. 1 ≡ length (node_bytes format.Two (plain_under o []))) (sym c.in-None.is) null_bytes
