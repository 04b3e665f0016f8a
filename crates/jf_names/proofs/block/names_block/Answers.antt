use Rattle.std.proofs.Common.{◌∙◌, ◌++◌, ap, length, sym}
use Rattle.jf_multi.specs.SharedTrees.{shared_proof}
use Rattle.jf_many_blocks.specs.ManyBlocks.{many_line_text, named_claim_lines, item_lines}
use Rattle.jf_names.specs.Names.{claims_in}
use Rattle.jf_names.proofs.BlockLaws.{names_block-parts}
use Rattle.jf_names.proofs.block.names_block.Goals as goal

pub returns : goal.returns
returns c =
    let m = c.args.snapshot.now.map in
    let head = c.in_ok-write_many_line.ensures.ok ∙ ap (λ t. t ++ many_line_text c.len.result c.len-2.result) c.new-text.ensures in
    let claims = c.in_ok-write_claims.ensures ∙ ap (λ t. t ++ named_claim_lines (claims_in m c.args.names.now)) head in
    c.in_ok-write_items.ensures.ok
    ∙ ap (λ t. t ++ item_lines c.as_slice.result.now) claims
    ∙ names_block-parts m c.args.names.now c.as_slice.result.now c.len.result c.len-2.result c.len.ensures (c.len-2.ensures ∙ ap length (sym c.as_slice.ensures))
    (c.as_slice.ensures ∙ c.in_ok-proof.ensures.proof ∙ ap (shared_proof m) c.in_ok-keys.ensures.keys)
