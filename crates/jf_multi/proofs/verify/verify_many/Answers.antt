use Rattle.std.proofs.Common.{◌∙◌, ap, sym, option_map}
use Rattle.jf_multi.specs.Trees.{tree_of, tree_root}
use Rattle.jf_multi.specs.Verdicts.{first_missing, first_single_refusal}
use Rattle.jf_multi.proofs.ClaimSteps.{verdict_shape, verdict_missing, verdict_rest}
use Rattle.jf_multi.proofs.verify.verify_many.Goals as goal

pub returns-in_default : goal.returns-in_default
returns-in_default c = verdict_shape c.args.root.now c.args.claims.now c.args.proof.now (c.in_default.ensures ∙ ap (λ is. option_map tree_root (tree_of is)) c.as_slice.ensures)

pub judge_each-requires : goal.judge_each-requires
judge_each-requires c = sym (c.in-Some.ensures ∙ ap (λ is. option_map tree_root (tree_of is)) c.as_slice.ensures)

pub returns-in-Err : goal.returns-in-Err
returns-in-Err c =
    verdict_missing c.args.root.now c.in-Some.top c.args.claims.now c.args.proof.now c.in-Err.fault (c.in-Some.ensures ∙ ap (λ is. option_map tree_root (tree_of is)) c.as_slice.ensures)
    (λ tree is. c.in-Err.ensures tree is ∙ ap (first_missing 0 tree) c.as_slice-2.ensures)

pub returns : goal.returns
returns c =
    verdict_rest c.args.root.now c.in-Some.top c.args.claims.now c.args.proof.now _ (c.in-Some.ensures ∙ ap (λ is. option_map tree_root (tree_of is)) c.as_slice.ensures)
    (λ tree is. c.in_default-find_ends.ensures tree is ∙ ap (first_missing 0 tree) c.as_slice-2.ensures)
    (λ tree is. c.judge_each.ensures tree is ∙ ap (first_single_refusal c.args.root.now 0 tree) c.as_slice-3.ensures)
