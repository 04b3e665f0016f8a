use Rattle.std.proofs.Common.{◌∙◌, ◌++◌, ◌∷◌, [], ◌≡◌, ap, sym, arith, take, take_all, refl, get_or, None}
use Rattle.std.proofs.lemmas.List.{length-set, get_or-set_other}
use Rattle.jf_path.specs.Bitmaps.{present}
use Rattle.jf_node.proofs.BranchLaws.{any_default, present-none, present-more}
use Rattle.jf_node.proofs.branches.packed_links.Goals as goal

pub loop-n-init : goal.loop-n-init
loop-n-init c = record { long = c.children.invariant.long; moved = c.in_ok-out.ensures.items ∙ sym present-none; rest = λ k past. refl }

pub loop-n-preserved : goal.loop-n-preserved
loop-n-preserved c =
    let n = c.loop-n.n in
    let item : c.take-child.result ≡ get_or c.children.inside.links n None = c.take-child.ensures.value ∙ any_default c.loop-n.links n _ None (omega (arith, c.loop-n.invariant.long, c.loop-n-test.true)) ∙ c.loop-n.invariant.rest n (omega arith) in
    record {
      long = length-set c.loop-n.links n _ ∙ c.loop-n.invariant.long;
      moved =
          c.in_ok-push_if.ensures ∙ ap (λ xs. xs ++ present (c.take-child.result ∷ [])) c.loop-n.invariant.moved
          ∙ ap (λ x. present (take n c.children.inside.links) ++ present (x ∷ [])) item
          ∙ sym (present-more c.children.inside.links n (omega (arith, c.children.invariant.long, c.loop-n-test.true)));
      rest = λ k past. get_or-set_other c.loop-n.links n k _ None (λ e. omega (arith, past, e)) ∙ c.loop-n.invariant.rest k (omega (arith, past));
    }

pub returns : goal.returns
returns c = c.loop-n.invariant.moved ∙ ap present (take_all c.loop-n.n c.children.inside.links (omega (arith, c.children.invariant.long, c.loop-n-test.false)) ∙ c.children.view_is)
