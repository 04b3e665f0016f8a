-- Bytes begin with at most one spelling, and a node has one spelling.
use Rattle.std.proofs.Common.{◌≡◌, ℕ, List, sym, ap, ◌∙◌, refl, subst}
use Rattle.jf_path.specs.declared.name.NodeName.{NodeName}
use Rattle.jf_path.specs.declared.node.PlainNode.{PlainNode}
use Rattle.jf_path.specs.declared.node.PlainNode.TheVariants as node
use Rattle.jf_codec.specs.Laws.{OneNameInFront, OneNodeInFront, OneNodeSpelling}
use Rattle.jf_codec.specs.Reading.{name_at, node_at}
use Rattle.jf_codec.specs.Spelling.{node_bytes, IsNode}
use Rattle.jf_codec.proofs.FieldLaws.{ok_is}
use Rattle.jf_codec.proofs.Names.{name_again}
use Rattle.jf_codec.proofs.Nodes.{node_again, counted_format}

pub one_name_in_front : OneNameInFront
one_name_in_front a b rest others is is' same =
    let pair : (a, rest) ≡ (b, others) = ok_is (a, rest) (b, others) (sym (name_again a rest is) ∙ ap name_at same ∙ name_again b others is') in
    (ap (λ (p : NodeName × List ℕ). p.0) pair, ap (λ (p : NodeName × List ℕ). p.1) pair)

pub one_node_in_front : OneNodeInFront
one_node_in_front a b rest others is is' same =
    let pair : (a, rest) ≡ (b, others) = ok_is (a, rest) (b, others) (sym (node_again a rest is) ∙ ap node_at same ∙ node_again b others is') in
    (ap (λ (p : PlainNode × List ℕ). p.0) pair, ap (λ (p : PlainNode × List ℕ). p.1) pair)

pub one_spelling : OneNodeSpelling
unfolding node_bytes
one_spelling fmt node.Null is = (is, refl)
one_spelling fmt (node.Leaf key value) is = (is, refl)
one_spelling fmt (node.Inner cs) is =
    let same = counted_format fmt cs is.0 is.2 in
    (subst (λ f. IsNode f (node.Inner cs)) (sym same) is, ap (λ f. node_bytes f (node.Inner cs)) same)
