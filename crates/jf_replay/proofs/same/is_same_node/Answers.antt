use Rattle.std.proofs.Common.{ap, ap₂, ◌∙◌, sym, map}
use Rattle.std.specs.Cmp.Lexicographic.{pointwise}
use Rattle.jf_codec.specs.Counted.{in_format}
use Rattle.jf_standing.specs.Same.{same_child, same_node}
use Rattle.jf_replay.specs.Kept.{child_in_format}
use Rattle.jf_replay.proofs.Kept.{inner_kept}
use Rattle.jf_replay.proofs.same.is_same_node.Goals as goal

pub returns-in-Inner-Inner : goal.returns-in-Inner-Inner
returns-in-Inner-Inner c =
    let fmt = c.args.format in
    let kept = inner_kept fmt c.in-Inner-Inner.made_children ∙ ap (in_format fmt) (sym c.in-Inner-Inner.is-1) in
    c.are_same_children.ensures
    ∙ ap₂ (λ xs ys. pointwise same_child xs (map (child_in_format fmt) ys)) c.as_slice-in-Inner-Inner.ensures.value c.as_slice-in-Inner-Inner-2.ensures.value
    ∙ ap₂ same_node (sym c.in-Inner-Inner.is-0) kept
